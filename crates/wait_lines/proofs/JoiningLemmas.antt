-- What is kept after a thread joined a line.
use Rattle.std.specs.Prelude.{◌≡◌, ◌≢◌, ◌⊎◌, ℕ, suc, ◌+◌, ◌<◌, ◌≤◌, Bool, true, false, cond, List, [], ◌∷◌, ◌++◌, length, sum_by, count_by, slice_index_or, slice_set}
use Rattle.std.specs.FinMap as map
use Rattle.std.proofs.Common.{refl, sym, ap, ◌∙◌, subst, inl, inr, arith, length-set}
use Rattle.std.proofs.lemmas.Bool.{cases_eq, cases_lt, eqb-true, eq-eqb}
use Rattle.std.proofs.lemmas.List.{length-map, map-set, get_or-set_other}
use Rattle.std.proofs.lemmas.Grind.{get_or-set_at}
use Rattle.std.proofs.lemmas.List.Sums.{sum_by-cons}
use Rattle.lock_word.specs.declared.ThreadId.{ThreadId}
use Rattle.wait_lines.specs.declared.Role.{Role}
use Rattle.wait_lines.specs.declared.Role.TheVariants.{Entry}
use Rattle.wait_lines.specs.declared.links.Stop.TheVariants.{End, Free}
use Rattle.wait_lines.specs.declared.links.Spot.{Spot}
use Rattle.wait_lines.specs.declared.links.Ends.{Ends}
use Rattle.wait_lines.specs.Lines.{key, StandsNowhere, after_join, total_count, is_thread, LineMap, standing, IsOrderly}
use Rattle.wait_lines.specs.Links.{Chart, node, spot_at, ends_at, behind_of, unlinked, linked, with_thread, with_key, is_node}
use Rattle.wait_lines.specs.Rings.{without_number, Walk}
use Rattle.wait_lines.specs.Rows.{rows_of, row_at, times_number, times_in_rows, rows_without, rows_with, AreLinked, AreLinkedBut}
use Rattle.wait_lines.specs.Arrivals.{Arrival, lines_of, nodes_of, threads_of, keys_of, arrivals_in, arrivals_of, tail_of, shown_lines, IsKept}
use Rattle.wait_lines.proofs.LinkLemmas.{sizes-unlinked, sizes-linked, behind-with_thread, before-with_thread, behind-with_key, before-with_key}
use Rattle.wait_lines.proofs.RowLemmas.{rows-shown, AreLinked-unlinked, AreLinked-linked, AreLinkedBut-same, rows-without_out, rows-full, times-cons, times-row}
use Rattle.wait_lines.proofs.ArrivalLemmas.{lines_of-insert, total_count-lines_of}
use Rattle.wait_lines.proofs.LineLemmas.{IsOrderly-after_join}
use Rattle.wait_lines.proofs.ThreadLemmas.{same_thread}
use Rattle.wait_lines.proofs.ArrivingLemmas.{NoneBut, Between, arrivals-joined, nodes_of-insert, count-between, count-nowhere, length-arrivals}
use Rattle.wait_lines.proofs.RecordLemmas.{threads-unlinked, keys-unlinked, threads-linked, keys-linked, row-full, number_of}

-- ---- a thread joins a line, at the first free node

abbrev pub taken : Chart → ℕ → ThreadId → ℕ → ℕ → Role → Chart
taken c n t k m r = with_key (with_thread (unlinked c (node n)) n t) k m r

module _ (c : Chart) (h : IsKept c) where
  pub lines_total : total_count (lines_of (arrivals_of c)) ≡ sum_by length (tail_of (rows_of c))
  lines_total =
      total_count-lines_of (arrivals_of c)
      ∙ length-arrivals (threads_of c) (keys_of c) (tail_of (rows_of c))
      (let m = h.linked.many in let e = length-map c.ends (λ (e : Ends). key e.monitor e.role) in omega arith)

  pub free-total : length (row_at (rows_of c) 0) + total_count (lines_of (arrivals_of c)) ≡ length c.spots
  free-total =
      let t = h.linked.total in let e = sum_by-cons length (row_at (rows_of c) 0) (tail_of (rows_of c)) in let l = lines_total in omega arith

  -- a node is free where there is room
  pub some-free : total_count (lines_of (arrivals_of c)) < length c.spots → is_node c.first_free ≡ false → ⊥
  some-free room none = at (row_at (rows_of c) 0) (h.linked.walks 0 (omega arith)) (let f = free-total in omega arith)
    where
      at : (r : List ℕ) → Walk (behind_of c) Free r Free → 0 < length r → ⊥
      at [] w l = omega arith
      at (n ∷ ns) w l = let no : is_node (node n) ≡ false = sym (ap is_node w.0) ∙ none in cc

  -- and a record
  pub some-vacant : total_count (lines_of (arrivals_of c)) < length c.spots → ((k : ℕ) → k < length c.ends → is_node (ends_at c k).first ≡ true) → ⊥
  some-vacant room all =
      let many = h.linked.many in let even = h.even in let l = lines_total in
      let full = rows-full (tail_of (rows_of c)) (λ i l. row-full c h i (omega arith) (all i (omega arith))) in
      omega arith

module _ (c : Chart) (n : ℕ) (t : ThreadId) (k m : ℕ) (r : Role) (h : IsKept c) (head : c.first_free ≡ node n) where
  n-free : 1 ≤ times_number n (row_at (rows_of c) 0)
  n-free = at (row_at (rows_of c) 0) (h.linked.walks 0 (omega arith))
    where
      at : (r : List ℕ) → Walk (behind_of c) Free r Free → 1 ≤ times_number n r
      at [] w = absurd (let no : is_node Free ≡ true = sym (ap is_node w) ∙ ap is_node head in cc)
      at (j ∷ js) w =
          let same : j ≡ n = ap number_of (sym w.0 ∙ head) in
          let e = times-cons n j js ∙ ap (λ b. cond {A = ℕ} b 1 0 + times_number n js) (eq-eqb j n same) in omega arith

  pub free-here : n < length c.spots
  free-here = at (cases_lt n (length c.spots))
    where
      at : (n < length c.spots) ⊎ (length c.spots ≤ n) → n < length c.spots
      at (inl l) = l
      at (inr past) = let none = h.linked.absent n past in let f = n-free in let e = times-row n 0 (rows_of c) (omega arith) in absurd (omega arith)

  out : times_in_rows n (tail_of (rows_of c)) ≡ 0
  out =
      let one = h.linked.once n free-here in let f = n-free in
      let e = sum_by-cons (times_number n) (row_at (rows_of c) 0) (tail_of (rows_of c)) in omega arith

  pub but-unlinked : AreLinkedBut n (unlinked c (node n)) (rows_without n (rows_of c))
  but-unlinked = AreLinked-unlinked c (rows_of c) n h.linked free-here

  unlinked-sizes : (length (unlinked c (node n)).spots ≡ length c.spots) × (length (unlinked c (node n)).ends ≡ length c.ends)
  unlinked-sizes = sizes-unlinked c (node n) h.linked.rings free-here

  module _ (there : k < length c.ends) where
    there-after : k < length (unlinked c (node n)).ends
    there-after = let s = unlinked-sizes.1 in omega arith

    pub but-taken : AreLinkedBut n (taken c n t k m r) (rows_without n (rows_of c))
    but-taken =
        AreLinkedBut-same (unlinked c (node n)) (taken c n t k m r) (rows_without n (rows_of c)) n
        (behind-with_key (with_thread (unlinked c (node n)) n t) k m r there-after ∙ behind-with_thread (unlinked c (node n)) n t but-unlinked.here)
        (before-with_key (with_thread (unlinked c (node n)) n t) k m r there-after ∙ before-with_thread (unlinked c (node n)) n t but-unlinked.here)
        (length-set (unlinked c (node n)).spots n _) (length-set (unlinked c (node n)).ends k _) but-unlinked

    abbrev pub after : Chart
    after = linked (taken c n t k m r) (node n) (End k)

    pub sizes_joined : (length after.spots ≡ length c.spots) × (length after.ends ≡ length c.ends)
    sizes_joined =
        let e = sizes-linked (taken c n t k m r) (node n) (End k) but-taken.rings but-taken.here (let l = length-set (unlinked c (node n)).ends k (record (ends_at (unlinked c (node n)) k) { monitor = m; role = r }) in let s = unlinked-sizes.1 in omega arith) in
        let f = length-set (unlinked c (node n)).spots n (record (spot_at (unlinked c (node n)) n) { thread = t }) in
        let g = length-set (unlinked c (node n)).ends k (record (ends_at (unlinked c (node n)) k) { monitor = m; role = r }) in
        (e.0 ∙ f ∙ unlinked-sizes.0, e.1 ∙ g ∙ unlinked-sizes.1)

    linked_joined : AreLinked after (rows_with (rows_without n (rows_of c)) n (suc k))
    linked_joined =
        AreLinked-linked (taken c n t k m r) (rows_without n (rows_of c)) n (suc k) but-taken
        (let many = h.linked.many in let e = length-map (rows_of c) (without_number n) in omega arith)

    rows_joined : rows_of after ≡ rows_with (rows_without n (rows_of c)) n (suc k)
    rows_joined = sym (rows-shown after _ linked_joined)

    pub tail_joined : tail_of (rows_of after) ≡ slice_set (tail_of (rows_of c)) k (row_at (tail_of (rows_of c)) k ++ n ∷ [])
    tail_joined =
        ap tail_of rows_joined
        ∙ ap (λ rs. slice_set rs k (row_at rs k ++ n ∷ [])) (rows-without_out n (tail_of (rows_of c)) out)

    threads_joined : threads_of after ≡ slice_set (threads_of c) n t
    threads_joined =
        threads-linked (taken c n t k m r) (node n) (End k)
        ∙ map-set (λ (s : Spot). s.thread) (unlinked c (node n)).spots n (record (spot_at (unlinked c (node n)) n) { thread = t })
        ∙ ap (λ ts. slice_set ts n t) (threads-unlinked c (node n))

    pub keys_joined : keys_of after ≡ slice_set (keys_of c) k (key m r)
    keys_joined =
        keys-linked (taken c n t k m r) (node n) (End k)
        ∙ map-set (λ (e : Ends). key e.monitor e.role) (unlinked c (node n)).ends k (record (ends_at (unlinked c (node n)) k) { monitor = m; role = r })
        ∙ ap (λ ks. slice_set ks k (key m r)) (keys-unlinked c (node n))

    module _ (nowhere : StandsNowhere (lines_of (arrivals_of c)) t) (room : total_count (lines_of (arrivals_of c)) < length c.spots)
        (fits : (row_at (tail_of (rows_of c)) k ≡ []) ⊎ (slice_index_or (keys_of c) k (key 0 Entry) ≡ key m r)) (none : NoneBut (keys_of c) (tail_of (rows_of c)) (key m r) k) where
      a : Arrival
      a = record { thread = t; monitor = m; role = r; node = n }

      lengths : (length (keys_of c) ≡ length c.ends) × (length (tail_of (rows_of c)) ≡ length c.ends) × (length (threads_of c) ≡ length c.spots)
      lengths = (
        length-map c.ends (λ (e : Ends). key e.monitor e.role),
        let many = h.linked.many in omega arith,
        length-map c.spots (λ (s : Spot). s.thread),
      )

      between : Between (arrivals_of c) (arrivals_of after) (record { thread = t; monitor = m; role = r; node = n })
      between =
          subst (λ xs. Between (arrivals_of c) xs (record { thread = t; monitor = m; role = r; node = n }))
          (sym (ap (λ ts. arrivals_in ts (keys_of after) (tail_of (rows_of after))) threads_joined
          ∙ ap (λ ks. arrivals_in (slice_set (threads_of c) n t) ks (tail_of (rows_of after))) keys_joined
          ∙ ap (arrivals_in (slice_set (threads_of c) n t) (slice_set (keys_of c) k (key m r))) tail_joined))
          (arrivals-joined (threads_of c) (keys_of c) (tail_of (rows_of c)) n t k (key m r) out
          (let l = lengths.2 in let f = free-here in omega arith) (let l = lengths.0 in omega arith) (let x = lengths.0 in let y = lengths.1 in omega arith) fits none)

      pub lines_joined : lines_of (arrivals_of after) ≡ after_join (lines_of (arrivals_of c)) t m r
      lines_joined =
          ap lines_of between.3 ∙ lines_of-insert between.0 between.1 (record { thread = t; monitor = m; role = r; node = n }) between.4
          ∙ ap (λ xs. after_join (lines_of xs) t m r) (sym between.2)

      fresh : count_by (λ (x : Arrival). is_thread t x.thread) (between.0 ++ between.1) ≡ 0
      fresh = ap (λ xs. count_by (λ (x : Arrival). is_thread t x.thread) xs) (sym between.2) ∙ count-nowhere t (arrivals_of c) nowhere

      pub nodes_joined : nodes_of (arrivals_of after) ≡ map.insert (nodes_of (arrivals_of c)) t.0 n
      nodes_joined =
          ap nodes_of between.3 ∙ nodes_of-insert between.0 between.1 (record { thread = t; monitor = m; role = r; node = n }) fresh
          ∙ ap (λ xs. map.insert (nodes_of xs) t.0 n) (sym between.2)

      pub IsKept-joined : IsKept after
      IsKept-joined = record {
        linked = subst (AreLinked after) (sym rows_joined) linked_joined;
        orderly = orderly;
        solo = solo;
        even = let e = h.even in let s = sizes_joined.0 in let f = sizes_joined.1 in omega arith;
        one = λ i j i_in j_in same i_full j_full.
            one i j (let e = ap length keys_joined in let s = length-set (keys_of c) k (key m r) in omega arith) (let e = ap length keys_joined in let s = length-set (keys_of c) k (key m r) in omega arith)
            (subst (λ ks. slice_index_or ks i (key 0 Entry) ≡ slice_index_or ks j (key 0 Entry)) keys_joined same)
            (subst (λ rs. 0 < length (row_at rs i)) tail_joined i_full) (subst (λ rs. 0 < length (row_at rs j)) tail_joined j_full) (cases_eq i k) (cases_eq j k);
      }
        where
          orderly : IsOrderly (standing (shown_lines after))
          orderly =
              let o = IsOrderly-after_join (standing (shown_lines c)) t m r h.orderly nowhere room in
              let o2 : IsOrderly (record { lines = lines_of (arrivals_of after); reservations = length c.spots }) =
              subst (λ (l : LineMap). IsOrderly (record { lines = l; reservations = length c.spots })) (sym lines_joined) o in
              subst (λ (l : ℕ). IsOrderly (record { lines = lines_of (arrivals_of after); reservations = l })) (sym sizes_joined.0) o2

          solo : (u : ThreadId) → count_by (λ (x : Arrival). is_thread u x.thread) (arrivals_of after) ≤ 1
          solo u = at (is_thread u t) refl
            where
              counted : count_by (λ (x : Arrival). is_thread u x.thread) (arrivals_of after) ≡ count_by (λ (x : Arrival). is_thread u x.thread) (arrivals_of c) + cond {A = ℕ} (is_thread u t) 1 0
              counted =
                  ap (λ xs. count_by (λ (x : Arrival). is_thread u x.thread) xs) between.3 ∙ count-between u between.0 between.1 (record { thread = t; monitor = m; role = r; node = n })
                  ∙ ap (λ xs. count_by (λ (x : Arrival). is_thread u x.thread) xs + cond {A = ℕ} (is_thread u t) 1 0) (sym between.2)

              at : (b : Bool) → is_thread u t ≡ b → count_by (λ (x : Arrival). is_thread u x.thread) (arrivals_of after) ≤ 1
              at true e =
                  let zero : count_by (λ (x : Arrival). is_thread u x.thread) (arrivals_of c) ≡ 0 = subst (λ v. count_by (λ (x : Arrival). is_thread v x.thread) (arrivals_of c) ≡ 0) (same_thread u t (eqb-true t.0 u.0 e)) (count-nowhere t (arrivals_of c) nowhere) in
                  let f = counted ∙ ap (λ b. count_by (λ (x : Arrival). is_thread u x.thread) (arrivals_of c) + cond {A = ℕ} b 1 0) e in omega arith
              at false e =
                  let s = h.solo u in
                  let f = counted ∙ ap (λ b. count_by (λ (x : Arrival). is_thread u x.thread) (arrivals_of c) + cond {A = ℕ} b 1 0) e in omega arith

          rs : List (List ℕ)
          rs = slice_set (tail_of (rows_of c)) k (row_at (tail_of (rows_of c)) k ++ n ∷ [])

          elsewhere : (i : ℕ) → i ≢ k → 0 < length (row_at (slice_set (tail_of (rows_of c)) k (row_at (tail_of (rows_of c)) k ++ n ∷ [])) i) → 0 < length (row_at (tail_of (rows_of c)) i)
          elsewhere i other full = subst (λ r. 0 < length r) (get_or-set_other (tail_of (rows_of c)) k i (row_at (tail_of (rows_of c)) k ++ n ∷ []) [] other) full

          alone_there : (i : ℕ) → i < length (keys_of c) → i ≢ k → slice_index_or (slice_set (keys_of c) k (key m r)) i (key 0 Entry) ≡ key m r
              → 0 < length (row_at (slice_set (tail_of (rows_of c)) k (row_at (tail_of (rows_of c)) k ++ n ∷ [])) i) → ⊥
          alone_there i i_in other same full =
              let e = none i i_in other (sym (get_or-set_other (keys_of c) k i (key m r) (key 0 Entry) other) ∙ same) in
              let l = elsewhere i other full in let z = ap length e in omega arith

          here : (i : ℕ) → i ≡ k → slice_index_or (slice_set (keys_of c) k (key m r)) i (key 0 Entry) ≡ key m r
          here i same = get_or-set_at (keys_of c) k i (key m r) (key 0 Entry) same (let l = lengths.0 in omega arith)

          one : (i j : ℕ) → i < length (keys_of c) → j < length (keys_of c) → slice_index_or (slice_set (keys_of c) k (key m r)) i (key 0 Entry) ≡ slice_index_or (slice_set (keys_of c) k (key m r)) j (key 0 Entry)
              → 0 < length (row_at (slice_set (tail_of (rows_of c)) k (row_at (tail_of (rows_of c)) k ++ n ∷ [])) i) → 0 < length (row_at (slice_set (tail_of (rows_of c)) k (row_at (tail_of (rows_of c)) k ++ n ∷ [])) j)
              → (i ≡ k) ⊎ (i ≢ k) → (j ≡ k) ⊎ (j ≢ k) → i ≡ j
          one i j i_in j_in same i_full j_full (inl x) (inl y) = x ∙ sym y
          one i j i_in j_in same i_full j_full (inl x) (inr y) = absurd (alone_there j j_in y (sym same ∙ here i x) j_full)
          one i j i_in j_in same i_full j_full (inr x) (inl y) = absurd (alone_there i i_in x (same ∙ here j y) i_full)
          one i j i_in j_in same i_full j_full (inr x) (inr y) =
              h.one i j i_in j_in (sym (get_or-set_other (keys_of c) k i (key m r) (key 0 Entry) x) ∙ same ∙ get_or-set_other (keys_of c) k j (key m r) (key 0 Entry) y) (elsewhere i x i_full) (elsewhere j y j_full)
