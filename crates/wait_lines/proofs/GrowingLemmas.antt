-- What is kept after one more reservation, and at the start.
use Rattle.std.specs.Prelude.{◌≡◌, ◌⊎◌, ℕ, zero, suc, ◌+◌, ◌<◌, ◌≤◌, [], ◌∷◌, ◌++◌, length, count_by, slice_index_or}
use Rattle.std.proofs.Common.{refl, sym, ap, ◌∙◌, subst, inl, inr, arith, length-append}
use Rattle.std.proofs.lemmas.Bool.{cases_lt}
use Rattle.std.proofs.lemmas.List.{length-map, map-append, get_or_append_left, get_or_push}
use Rattle.std.proofs.lemmas.List.Sums.{sum_by-cons}
use Rattle.wait_lines.specs.declared.Role.TheVariants.{Entry}
use Rattle.wait_lines.specs.declared.links.Stop.{Stop}
use Rattle.wait_lines.specs.declared.links.Stop.TheVariants.{At, End, Free}
use Rattle.wait_lines.specs.declared.links.Spot.{Spot}
use Rattle.wait_lines.specs.declared.links.Ends.{Ends}
use Rattle.wait_lines.specs.Lines.{key, is_thread, standing}
use Rattle.wait_lines.specs.Links.{Chart, node, alone, unused, behind_of, before_of, linked, grown, nothing}
use Rattle.wait_lines.specs.Rings.{Walk}
use Rattle.wait_lines.specs.Rows.{rows_of, end_at, row_at, times_number, times_in_rows, rows_with, AreLinked, AreLinkedBut}
use Rattle.wait_lines.specs.Arrivals.{Arrival, threads_of, keys_of, arrivals_in, arrivals_of, tail_of, shown_lines, IsKept}
use Rattle.wait_lines.proofs.LinkLemmas.{sizes-linked}
use Rattle.wait_lines.proofs.RowLemmas.{rows-shown, AreLinked-linked, AreLinkedBut-grown}
use Rattle.wait_lines.proofs.LineLemmas.{IsOrderly-nobody, IsOrderly-reserved}
use Rattle.wait_lines.proofs.ArrivingLemmas.{arrivals-more}
use Rattle.wait_lines.proofs.RecordLemmas.{threads-linked, keys-linked}

-- ---- one more reservation

abbrev pub reserved : Chart → Chart
reserved c = linked (grown c) (node (length c.spots)) Free

module _ (c : Chart) (h : IsKept c) (few : length c.spots < 32767) where
  but : AreLinkedBut (length c.spots) (grown c) (rows_of c ++ [] ∷ [])
  but = AreLinkedBut-grown c (rows_of c) h.linked h.even

  more : AreLinked (reserved c) (rows_with (rows_of c ++ [] ∷ []) (length c.spots) 0)
  more = AreLinked-linked (grown c) (rows_of c ++ [] ∷ []) (length c.spots) 0 but (let m = but.many in omega arith)

  pub more_sizes : (length (reserved c).spots ≡ length c.spots + 1) × (length (reserved c).ends ≡ length c.ends + 1)
  more_sizes =
      let e = sizes-linked (grown c) (node (length c.spots)) Free but.rings but.here tt in
      (e.0 ∙ length-append c.spots _, e.1 ∙ length-append c.ends _)

  pub more_tail : tail_of (rows_of (reserved c)) ≡ tail_of (rows_of c) ++ [] ∷ []
  more_tail = ap tail_of (sym (rows-shown (reserved c) _ more))

  more_threads : threads_of (reserved c) ≡ threads_of c ++ record { 0 = 0 } ∷ []
  more_threads = threads-linked (grown c) (node (length c.spots)) Free ∙ map-append (λ (s : Spot). s.thread) c.spots (alone (node (length c.spots)) ∷ [])

  pub more_keys : keys_of (reserved c) ≡ keys_of c ++ key 0 Entry ∷ []
  more_keys = keys-linked (grown c) (node (length c.spots)) Free ∙ map-append (λ (e : Ends). key e.monitor e.role) c.ends (unused (End (length c.spots)) ∷ [])

  pub key_sizes : (length (keys_of c) ≡ length c.ends) × (length (tail_of (rows_of c)) ≡ length c.ends) × (length (threads_of c) ≡ length c.spots)
  key_sizes = (
    length-map c.ends (λ (e : Ends). key e.monitor e.role),
    let many = h.linked.many in omega arith,
    length-map c.spots (λ (s : Spot). s.thread),
  )

  pub arrivals_reserved : arrivals_of (reserved c) ≡ arrivals_of c
  arrivals_reserved =
      let sum = sum_by-cons (times_number (length c.spots)) (row_at (rows_of c) 0) (tail_of (rows_of c)) in
      let none = h.linked.absent (length c.spots) (omega arith) in
      let zero_times : times_in_rows (length c.spots) (tail_of (rows_of c)) ≡ 0 = omega arith in
      ap (λ ts. arrivals_in ts (keys_of (reserved c)) (tail_of (rows_of (reserved c)))) more_threads
      ∙ ap (λ ks. arrivals_in (threads_of c ++ record { 0 = 0 } ∷ []) ks (tail_of (rows_of (reserved c)))) more_keys
      ∙ ap (arrivals_in (threads_of c ++ record { 0 = 0 } ∷ []) (keys_of c ++ key 0 Entry ∷ [])) more_tail
      ∙ arrivals-more (threads_of c) (record { 0 = 0 }) (keys_of c) (key 0 Entry) (tail_of (rows_of c)) (key_sizes.0 ∙ sym key_sizes.1)
      (subst (λ n. times_in_rows n (tail_of (rows_of c)) ≡ 0) (sym key_sizes.2) zero_times)

  pub IsKept-reserved : IsKept (reserved c)
  IsKept-reserved = record {
    linked = subst (AreLinked (reserved c)) (rows-shown (reserved c) _ more) more;
    orderly = rw (arrivals_reserved, more_sizes.0) (IsOrderly-reserved (standing (shown_lines c)) h.orderly few);
    solo = λ u. subst (λ xs. count_by (λ (a : Arrival). is_thread u a.thread) xs ≤ 1) (sym arrivals_reserved) (h.solo u);
    even = let e = h.even in let s = more_sizes.0 in let f = more_sizes.1 in omega arith;
    one = λ i j i_in j_in same i_full j_full.
        let i_old = old i (subst (λ rs. 0 < length (row_at rs i)) more_tail i_full) (let e = ap length more_keys in let f = length-append (keys_of c) (key 0 Entry ∷ []) in omega arith) in
        let j_old = old j (subst (λ rs. 0 < length (row_at rs j)) more_tail j_full) (let e = ap length more_keys in let f = length-append (keys_of c) (key 0 Entry ∷ []) in omega arith) in
        h.one i j i_old.0 j_old.0
        (sym (get_or_append_left (keys_of c) (key 0 Entry ∷ []) (key 0 Entry) i i_old.0)
        ∙ subst (λ ks. slice_index_or ks i (key 0 Entry) ≡ slice_index_or ks j (key 0 Entry)) more_keys same
        ∙ get_or_append_left (keys_of c) (key 0 Entry ∷ []) (key 0 Entry) j j_old.0)
        i_old.1 j_old.1;
  }
    where
      old : (i : ℕ) → 0 < length (row_at (tail_of (rows_of c) ++ [] ∷ []) i) → i < length (keys_of c) + 1 → (i < length (keys_of c)) × (0 < length (row_at (tail_of (rows_of c)) i))
      old i full l = at (cases_lt i (length (keys_of c)))
        where
          at : (i < length (keys_of c)) ⊎ (length (keys_of c) ≤ i) → (i < length (keys_of c)) × (0 < length (row_at (tail_of (rows_of c)) i))
          at (inl there) = (there, subst (λ r. 0 < length r) (get_or_append_left (tail_of (rows_of c)) ([] ∷ []) [] i (let x = key_sizes.0 in let y = key_sizes.1 in omega arith)) full)
          at (inr past) =
              let none : row_at (tail_of (rows_of c) ++ [] ∷ []) i ≡ [] = get_or_push (tail_of (rows_of c)) [] [] i (let x = key_sizes.0 in let y = key_sizes.1 in omega arith) in
              let z = ap length none in absurd (omega arith)

-- ---- nothing yet

pub IsKept-nothing : IsKept nothing
IsKept-nothing = record {
  linked = record {
    rings = record { back = back; forth = forth };
    many = refl;
    walks = walk;
    total = refl;
    once = λ m l. absurd (omega arith);
    absent = λ m l. refl;
  };
  orderly = IsOrderly-nobody;
  solo = λ t. omega arith;
  even = refl;
  one = λ i j i_in j_in same i_full j_full. absurd (omega arith);
}
  where
    back : (s : Stop) → before_of nothing (behind_of nothing s) ≡ s
    back (At n) = refl
    back (End k) = refl
    back Free = refl

    forth : (s : Stop) → behind_of nothing (before_of nothing s) ≡ s
    forth (At n) = refl
    forth (End k) = refl
    forth Free = refl

    walk : (j : ℕ) → j < 1 → Walk (behind_of nothing) (end_at j) (row_at (rows_of nothing) j) (end_at j)
    walk zero l = refl
    walk (suc j) l = absurd (omega arith)
