-- The table has the record of each line, after each change.
use Rattle.std.specs.Prelude.{◌≡◌, ◌≢◌, ◌⊎◌, ℕ, zero, suc, ◌+◌, ◌<◌, ◌≤◌, ◌==◌, not, Bool, true, false, cond, List, [], ◌∷◌, ◌++◌, length, slice_index_or, slice_set, Option, Some, None, IfSome, IfNone, if◌then◌else◌}
use Rattle.std.proofs.Common.{refl, sym, ap, ◌∙◌, subst, inl, inr, arith, length-append}
use Rattle.std.proofs.Math.ListN.{get_or-map as get_or-map_both}
use Rattle.std.proofs.lemmas.Bool.{cases_eq, cases_lt, eq-eqb, eqb-true}
use Rattle.std.proofs.lemmas.List.{length-map, get_or-set_other, get_or-set_same, get_or_append_left, get_or_push, get_or_past}
use Rattle.lock_word.specs.declared.ThreadId.{ThreadId}
use Rattle.wait_lines.specs.declared.Role.{Role}
use Rattle.wait_lines.specs.declared.Role.TheVariants.{Entry}
use Rattle.wait_lines.specs.declared.links.Ends.{Ends}
use Rattle.wait_lines.specs.declared.links.Stop.{Stop}
use Rattle.wait_lines.specs.declared.links.Stop.TheVariants.{At, End, Free}
use Rattle.wait_lines.specs.Lines.{Key, key, StandsAt}
use Rattle.wait_lines.specs.Links.{Chart, node, behind_of, before_of, ends_at, is_node, is_of, nothing, IsThere}
use Rattle.wait_lines.specs.Rings.{Walk, without_number}
use Rattle.wait_lines.specs.Rows.{rows_of, row_at, rows_with, moved, times_number}
use Rattle.wait_lines.specs.Arrivals.{keys_of, tail_of, arrivals_of, nodes_of, IsKept}
use Rattle.wait_lines.specs.Tables.{TableState, with_move, with_record, released, IsReleased, row_for, home_of, bucket_of, IsInRow, AreFiled, IsIndexed, IsWhole}
use Rattle.wait_lines.proofs.RowLemmas.{times-push}
use Rattle.wait_lines.proofs.TableLemmas.{IsInRow-moved_other}
use Rattle.wait_lines.proofs.LeavingLemmas.{freed, sizes_freed, keys_after, tail_after, IsKept-freed}
use Rattle.wait_lines.proofs.RecordLemmas.{walk-to_row, row-full, row-empty}
use Rattle.wait_lines.proofs.JoiningLemmas.{after, keys_joined, tail_joined, sizes_joined}
use Rattle.wait_lines.proofs.GrowingLemmas.{reserved, more_sizes, more_tail, more_keys, IsKept-nothing}
use Rattle.wait_lines.proofs.FindingLemmas.{key-shown, is_of-parts}

-- ---- rows and homes

-- a line with some thread has its record in its bucket
pub row_for-some : (buckets : ℕ) (q : Key) (r : List ℕ) → r ≢ [] → row_for buckets q r ≡ suc (bucket_of buckets q.0 q.1)
row_for-some buckets q [] some = absurd (some refl)
row_for-some buckets q (n ∷ ns) some = refl

row_for-both : (buckets : ℕ) (q : Key) (r s : List ℕ) → r ≢ [] → s ≢ [] → row_for buckets q r ≡ row_for buckets q s
row_for-both buckets q r s one two = row_for-some buckets q r one ∙ sym (row_for-some buckets q s two)

pushed : (r : List ℕ) (n : ℕ) → r ++ n ∷ [] ≢ []
pushed r n e = let l = ap length e in let f = length-append r (n ∷ []) in omega arith

-- records stay where their homes stay
pub AreFiled-same : (c d : Chart) (rows : List (List ℕ)) (buckets : ℕ) → AreFiled c rows buckets → length d.ends ≡ length c.ends
    → ((i : ℕ) → i < length c.ends → home_of buckets d i ≡ home_of buckets c i) → AreFiled d rows buckets
AreFiled-same c d rows buckets was size same i there =
    let old : i < length c.ends = omega arith in subst (IsInRow rows i) (sym (same i old)) (was i old)

-- one record moves to its new home
pub AreFiled-moved : (c d : Chart) (rows : List (List ℕ)) (buckets k j : ℕ) → AreFiled c rows buckets → length d.ends ≡ length c.ends → IsInRow (moved rows k j) k j
    → home_of buckets d k ≡ j → ((i : ℕ) → i ≢ k → i < length c.ends → home_of buckets d i ≡ home_of buckets c i) → AreFiled d (moved rows k j) buckets
AreFiled-moved c d rows buckets k j was size here home same i there = at (cases_eq i k)
  where
    at : (i ≡ k) ⊎ (i ≢ k) → IsInRow (moved rows k j) i (home_of buckets d i)
    at (inl e) = subst (λ x. IsInRow (moved rows k j) x (home_of buckets d x)) (sym e) (subst (IsInRow (moved rows k j) k) (sym home) here)
    at (inr other) =
        let old : i < length c.ends = omega arith in
        subst (IsInRow (moved rows k j) i) (sym (same i other old)) (IsInRow-moved_other rows k j i (home_of buckets c i) other (was i old))

-- ---- what is looked for

module _ (c : Chart) (t : TableState) (h : IsWhole c t) where
  -- a line that its bucket does not have has no record
  pub of_none : (m : ℕ) (r : Role) → ((k : ℕ) → IsInRow t.rows k (suc (bucket_of t.buckets m r)) → is_of m r (ends_at c k) ≡ false)
      → (i : ℕ) → i < length c.ends → is_of m r (ends_at c i) ≡ false
  of_none m r none i there = at (is_of m r (ends_at c i)) refl
    where
      at : (b : Bool) → is_of m r (ends_at c i) ≡ b → is_of m r (ends_at c i) ≡ false
      at false e = e
      at true e =
          let parts = is_of-parts m r (ends_at c i) e in
          let full = row-full c h.kept i there parts.1 in
          none i (subst (IsInRow t.rows i)
          (row_for-some t.buckets _ _ full ∙ ap (λ (q : Key). suc (bucket_of t.buckets q.0 q.1)) (key-shown c i there ∙ parts.0)) (h.indexed.filed i there))

  -- a record of the first row is of no line
  pub vacant-empty : (k : ℕ) → k < length c.ends → ((j : ℕ) → IsInRow t.rows k j → j ≡ 0) → is_node (ends_at c k).first ≡ false
  vacant-empty k there first = at (is_node (ends_at c k).first) refl
    where
      at : (b : Bool) → is_node (ends_at c k).first ≡ b → is_node (ends_at c k).first ≡ false
      at false e = e
      at true e =
          let some = row_for-some t.buckets (slice_index_or (keys_of c) k (key 0 Entry)) (row_at (tail_of (rows_of c)) k) (row-full c h.kept k there e) in
          let zero_home = first (home_of t.buckets c k) (h.indexed.filed k there) in absurd (omega arith)

  -- where that row is empty, each record is of some line
  pub none-vacant : row_at t.rows 0 ≡ [] → (k : ℕ) → k < length c.ends → is_node (ends_at c k).first ≡ true
  none-vacant none k there = at (is_node (ends_at c k).first) refl
    where
      at : (b : Bool) → is_node (ends_at c k).first ≡ b → is_node (ends_at c k).first ≡ true
      at true e = e
      at false e =
          let empty = row-empty c h.kept k there e in
          let home : home_of t.buckets c k ≡ 0 = ap (row_for t.buckets (slice_index_or (keys_of c) k (key 0 Entry))) empty in
          let stands = subst (IsInRow t.rows k) home (h.indexed.filed k there) in
          let z = ap (times_number k) none in absurd (omega arith)

  -- what a vacant record says of a line that its bucket does not have
  pub vacant-fits : (m : ℕ) (r : Role) (o : Option ℕ) → IfSome o (λ k. k < t.size) → IfSome o (λ k. (j : ℕ) → IsInRow t.rows k j → j ≡ 0)
      → ((i : ℕ) → i < length c.ends → is_of m r (ends_at c i) ≡ false)
      → IfSome o (λ k. (is_of m r (ends_at c k) ≡ true) ⊎ ((is_node (ends_at c k).first ≡ false) × ((i : ℕ) → i < length c.ends → is_of m r (ends_at c i) ≡ false)))
  vacant-fits m r None low first none = tt
  vacant-fits m r (Some k) low first none = inr (vacant-empty k (let s = h.indexed.sized in omega (arith, low)) first, none)

  pub none-fits : (o : Option ℕ) → IfNone o (row_at t.rows 0 ≡ []) → IfNone o ((k : ℕ) → k < length c.ends → is_node (ends_at c k).first ≡ true)
  none-fits None none = none-vacant none
  none-fits (Some k) none = tt

-- ---- a thread leaves its node

module _ (c : Chart) (t : TableState) (n : ℕ) (u : ThreadId) (h : IsWhole c t) (stands : StandsAt (nodes_of (arrivals_of c)) u n) where
  key_kept : (i : ℕ) → slice_index_or (keys_of (freed c n)) i (key 0 Entry) ≡ slice_index_or (keys_of c) i (key 0 Entry)
  key_kept i = ap (λ ks. slice_index_or ks i (key 0 Entry)) (keys_after c n u h.kept stands)

  row_left : (i : ℕ) → row_at (tail_of (rows_of (freed c n))) i ≡ without_number n (row_at (tail_of (rows_of c)) i)
  row_left i = ap (λ rs. row_at rs i) (tail_after c n u h.kept stands) ∙ get_or-map_both (without_number n) (tail_of (rows_of c)) i []

  -- a line that does not begin at the node has a thread after that where it had one before
  home_kept : (i : ℕ) → i < length c.ends → (before_of c (node n) ≡ End i → row_at (tail_of (rows_of (freed c n))) i ≢ []) → home_of t.buckets (freed c n) i ≡ home_of t.buckets c i
  home_kept i there begins =
      ap (λ (q : Key). row_for t.buckets q (row_at (tail_of (rows_of (freed c n))) i)) (key_kept i)
      ∙ at (row_at (tail_of (rows_of c)) i) refl (walk-to_row c h.kept i there)
    where
      at : (r : List ℕ) → row_at (tail_of (rows_of c)) i ≡ r → Walk (behind_of c) (End i) r (End i)
          → row_for t.buckets (slice_index_or (keys_of c) i (key 0 Entry)) (row_at (tail_of (rows_of (freed c n))) i) ≡ home_of t.buckets c i
      at [] e w = ap (row_for t.buckets (slice_index_or (keys_of c) i (key 0 Entry))) (row_left i ∙ ap (without_number n) e ∙ sym e)
      at (m ∷ ms) e w = by (m == n) refl
        where
          full : row_at (tail_of (rows_of c)) i ≢ []
          full z = let l = ap length (sym e ∙ z) in omega arith

          by : (b : Bool) → (m == n) ≡ b → row_for t.buckets (slice_index_or (keys_of c) i (key 0 Entry)) (row_at (tail_of (rows_of (freed c n))) i) ≡ home_of t.buckets c i
          by true same =
              let head : before_of c (node n) ≡ End i = ap (λ (x : ℕ). before_of c (node x)) (sym (eqb-true m n same)) ∙ ap (before_of c) (sym w.0) ∙ h.kept.linked.rings.back (End i) in
              row_for-both t.buckets _ _ _ (begins head) full
          by false other =
              let now : row_at (tail_of (rows_of (freed c n))) i ≡ m ∷ without_number n ms =
              row_left i ∙ ap (without_number n) e ∙ ap (λ b. cond (not b) (m ∷ without_number n ms) (without_number n ms)) other in
              row_for-both t.buckets _ _ _ (λ z. let l = ap length (sym now ∙ z) in omega arith) full

  -- the line that it left has a thread still, or began nowhere near it
  pub IsWhole-freed_same : ((i : ℕ) → before_of c (node n) ≡ End i → is_node (ends_at (freed c n) i).first ≡ true) → IsWhole (freed c n) t
  IsWhole-freed_same begins =
      record {
        kept = IsKept-freed c n u h.kept stands;
        indexed =
            record {
              sized = h.indexed.sized ∙ sym (sizes_freed c n u h.kept stands).1;
              filed = AreFiled-same c (freed c n) t.rows t.buckets h.indexed.filed (sizes_freed c n u h.kept stands).1
                  (λ i there. home_kept i there (λ e. row-full (freed c n) (IsKept-freed c n u h.kept stands) i (let s = (sizes_freed c n u h.kept stands).1 in omega arith) (begins i e)));
            };
      }

  -- the line that it left is empty, and its record is vacant now
  pub IsWhole-freed_empty : (k : ℕ) → before_of c (node n) ≡ End k → k < length c.ends → is_node (ends_at (freed c n) k).first ≡ false → IsInRow (moved t.rows k 0) k 0
      → IsWhole (freed c n) (with_move t k 0)
  IsWhole-freed_empty k begins there empty here =
      record {
        kept = IsKept-freed c n u h.kept stands;
        indexed =
            record {
              sized = h.indexed.sized ∙ sym (sizes_freed c n u h.kept stands).1;
              filed = AreFiled-moved c (freed c n) t.rows t.buckets k 0 h.indexed.filed (sizes_freed c n u h.kept stands).1 here
                  (ap (row_for t.buckets (slice_index_or (keys_of (freed c n)) k (key 0 Entry)))
                  (row-empty (freed c n) (IsKept-freed c n u h.kept stands) k (let s = (sizes_freed c n u h.kept stands).1 in omega arith) empty))
                  (λ i other l. home_kept i l (λ e. absurd (other (same_end i k (sym e ∙ begins)))));
            };
      }
    where
      same_end : (i k : ℕ) → End i ≡ End k → i ≡ k
      same_end i k e = cc

  same_or_moved : (k : ℕ) → before_of c (node n) ≡ End k → k < length c.ends → (b : Bool) → is_node (ends_at (freed c n) k).first ≡ b
      → (is_node (ends_at (freed c n) k).first ≡ false → IsInRow (if b then t else with_move t k 0).rows k 0) → IsWhole (freed c n) (if b then t else with_move t k 0)
  same_or_moved k begins there true e here = IsWhole-freed_same (λ i e'. ap (λ (x : ℕ). is_node (ends_at (freed c n) x).first) (same_end i k (sym e' ∙ begins)) ∙ e)
    where
      same_end : (i k : ℕ) → End i ≡ End k → i ≡ k
      same_end i k e = cc
  same_or_moved k begins there false e here = IsWhole-freed_empty k begins there e (here e)

  -- the table is right again once the record of the line that began at the node is released
  pub IsWhole-freed : (s : Stop) → before_of c (node n) ≡ s → IsThere c s → IsReleased (freed c n) s (released (freed c n) s t) → IsWhole (freed c n) (released (freed c n) s t)
  IsWhole-freed (At m) begins there here = IsWhole-freed_same (λ i e. absurd (let f : At m ≡ End i = sym begins ∙ e in cc))
  IsWhole-freed (End k) begins there here = same_or_moved k begins there (is_node (ends_at (freed c n) k).first) refl here
  IsWhole-freed Free begins there here = IsWhole-freed_same (λ i e. absurd (let f : Free ≡ End i = sym begins ∙ e in cc))

-- ---- a thread joins a line

module _ (c : Chart) (t : TableState) (n : ℕ) (u : ThreadId) (k m : ℕ) (r : Role) (h : IsWhole c t) (head : c.first_free ≡ node n) (there : k < length c.ends) where
  -- the record is the one of the line now
  pub IsIndexed-joined : IsInRow (moved t.rows k (suc (bucket_of t.buckets m r))) k (suc (bucket_of t.buckets m r))
      → IsIndexed (after c n u k m r h.kept head there) (with_move t k (suc (bucket_of t.buckets m r)))
  IsIndexed-joined here =
      record {
        sized = h.indexed.sized ∙ sym (sizes_joined c n u k m r h.kept head there).1;
        filed = AreFiled-moved c (after c n u k m r h.kept head there) t.rows t.buckets k (suc (bucket_of t.buckets m r)) h.indexed.filed (sizes_joined c n u k m r h.kept head there).1 here home others;
      }
    where
      sizes : (length (keys_of c) ≡ length c.ends) × (length (tail_of (rows_of c)) ≡ length c.ends)
      sizes = (length-map c.ends (λ (e : Ends). key e.monitor e.role), let many = h.kept.linked.many in omega arith)

      key_at : (i : ℕ) → slice_index_or (keys_of (after c n u k m r h.kept head there)) i (key 0 Entry) ≡ slice_index_or (slice_set (keys_of c) k (key m r)) i (key 0 Entry)
      key_at i = ap (λ ks. slice_index_or ks i (key 0 Entry)) (keys_joined c n u k m r h.kept head there)

      row_here : (i : ℕ) → row_at (tail_of (rows_of (after c n u k m r h.kept head there))) i ≡ row_at (slice_set (tail_of (rows_of c)) k (row_at (tail_of (rows_of c)) k ++ n ∷ [])) i
      row_here i = ap (λ rs. row_at rs i) (tail_joined c n u k m r h.kept head there)

      home : home_of t.buckets (after c n u k m r h.kept head there) k ≡ suc (bucket_of t.buckets m r)
      home =
          row_for-some t.buckets _ _
          (λ z. pushed (row_at (tail_of (rows_of c)) k) n (sym (get_or-set_same (tail_of (rows_of c)) k (row_at (tail_of (rows_of c)) k ++ n ∷ []) [] (let s = sizes.1 in omega arith)) ∙ sym (row_here k) ∙ z))
          ∙ ap (λ (q : Key). suc (bucket_of t.buckets q.0 q.1)) (key_at k ∙ get_or-set_same (keys_of c) k (key m r) (key 0 Entry) (let s = sizes.0 in omega arith))

      others : (i : ℕ) → i ≢ k → i < length c.ends → home_of t.buckets (after c n u k m r h.kept head there) i ≡ home_of t.buckets c i
      others i other l =
          ap (λ (q : Key). row_for t.buckets q (row_at (tail_of (rows_of (after c n u k m r h.kept head there))) i)) (key_at i ∙ get_or-set_other (keys_of c) k i (key m r) (key 0 Entry) other)
          ∙ ap (row_for t.buckets (slice_index_or (keys_of c) i (key 0 Entry))) (row_here i ∙ get_or-set_other (tail_of (rows_of c)) k i (row_at (tail_of (rows_of c)) k ++ n ∷ []) [] other)

-- ---- one record more

module _ (c : Chart) (t : TableState) (h : IsWhole c t) (few : length c.spots < 32767) where
  -- the new record is vacant
  pub IsIndexed-reserved : IsIndexed (reserved c) (with_record t)
  IsIndexed-reserved =
      record {
        sized = let e = (more_sizes c h.kept few).1 in let s = h.indexed.sized in omega arith;
        filed = λ i there. at i (cases_lt i (length c.ends)) (let e = (more_sizes c h.kept few).1 in omega arith);
      }
    where
      sizes : (length (keys_of c) ≡ length c.ends) × (length (tail_of (rows_of c)) ≡ length c.ends)
      sizes = (length-map c.ends (λ (e : Ends). key e.monitor e.role), let many = h.kept.linked.many in omega arith)

      key_at : (i : ℕ) → slice_index_or (keys_of (reserved c)) i (key 0 Entry) ≡ slice_index_or (keys_of c ++ key 0 Entry ∷ []) i (key 0 Entry)
      key_at i = ap (λ ks. slice_index_or ks i (key 0 Entry)) (more_keys c h.kept few)

      row_here : (i : ℕ) → row_at (tail_of (rows_of (reserved c))) i ≡ row_at (tail_of (rows_of c) ++ [] ∷ []) i
      row_here i = ap (λ rs. row_at rs i) (more_tail c h.kept few)

      old_home : (i : ℕ) → i < length c.ends → home_of t.buckets (reserved c) i ≡ home_of t.buckets c i
      old_home i there =
          ap (λ (q : Key). row_for t.buckets q (row_at (tail_of (rows_of (reserved c))) i))
          (key_at i ∙ get_or_append_left (keys_of c) (key 0 Entry ∷ []) (key 0 Entry) i (let s = sizes.0 in omega arith))
          ∙ ap (row_for t.buckets (slice_index_or (keys_of c) i (key 0 Entry)))
          (row_here i ∙ get_or_append_left (tail_of (rows_of c)) ([] ∷ []) [] i (let s = sizes.1 in omega arith))

      new_home : (i : ℕ) → i ≡ length c.ends → home_of t.buckets (reserved c) i ≡ 0
      new_home i last =
          ap (row_for t.buckets (slice_index_or (keys_of (reserved c)) i (key 0 Entry)))
          (row_here i ∙ get_or_push (tail_of (rows_of c)) [] [] i (let s = sizes.1 in omega arith))

      wide : (i j : ℕ) → IsInRow t.rows i j → times_number i (row_at (t.rows ++ [] ∷ []) j) ≡ times_number i (row_at t.rows j)
      wide i j stands = by (cases_lt j (length t.rows))
        where
          by : (j < length t.rows) ⊎ (length t.rows ≤ j) → times_number i (row_at (t.rows ++ [] ∷ []) j) ≡ times_number i (row_at t.rows j)
          by (inl within) = ap (times_number i) (get_or_append_left t.rows ([] ∷ []) [] j within)
          by (inr past) = let z = ap (times_number i) (get_or_past t.rows j [] past) in absurd (omega arith)

      stays : (i j : ℕ) → IsInRow t.rows i j → IsInRow (rows_with (t.rows ++ [] ∷ []) t.size 0) i j
      stays i zero stands =
          let e = get_or-set_same (t.rows ++ [] ∷ []) 0 (row_at (t.rows ++ [] ∷ []) 0 ++ t.size ∷ []) [] (let l = length-append t.rows ([] ∷ []) in omega arith) in
          let f = wide i 0 stands in let g = times-push i t.size (row_at (t.rows ++ [] ∷ []) 0) in
          subst (λ r. 1 ≤ times_number i r) (sym e) (omega arith)
      stays i (suc j) stands =
          let e = get_or-set_other (t.rows ++ [] ∷ []) 0 (suc j) (row_at (t.rows ++ [] ∷ []) 0 ++ t.size ∷ []) [] (λ x. omega arith) in
          let f = wide i (suc j) stands in
          subst (λ r. 1 ≤ times_number i r) (sym e) (omega arith)

      new : IsInRow (rows_with (t.rows ++ [] ∷ []) t.size 0) t.size 0
      new =
          let e = get_or-set_same (t.rows ++ [] ∷ []) 0 (row_at (t.rows ++ [] ∷ []) 0 ++ t.size ∷ []) [] (let l = length-append t.rows ([] ∷ []) in omega arith) in
          let g = times-push t.size t.size (row_at (t.rows ++ [] ∷ []) 0) ∙ ap (λ b. times_number t.size (row_at (t.rows ++ [] ∷ []) 0) + cond {A = ℕ} b 1 0) (eq-eqb t.size t.size refl) in
          subst (λ r. 1 ≤ times_number t.size r) (sym e) (omega arith)

      at : (i : ℕ) → (i < length c.ends) ⊎ (length c.ends ≤ i) → i < length c.ends + 1 → IsInRow (rows_with (t.rows ++ [] ∷ []) t.size 0) i (home_of t.buckets (reserved c) i)
      at i (inl old) l = subst (IsInRow (rows_with (t.rows ++ [] ∷ []) t.size 0) i) (sym (old_home i old)) (stays i (home_of t.buckets c i) (h.indexed.filed i old))
      at i (inr last) l =
          let same : i ≡ length c.ends = omega arith in
          let this : t.size ≡ i = h.indexed.sized ∙ sym same in
          subst (IsInRow (rows_with (t.rows ++ [] ∷ []) t.size 0) i) (sym (new_home i same)) (subst (λ x. IsInRow (rows_with (t.rows ++ [] ∷ []) t.size 0) x 0) this new)

-- ---- twice the buckets

-- the records before this one stand in their new rows, and the others in their old ones
pub record AreHalfFiled (c : Chart) (t : TableState) (old line : ℕ) : Type 0 where
  pub sized : t.size ≡ length c.ends
  pub done : (k : ℕ) → k < line → IsInRow t.rows k (home_of t.buckets c k)
  pub rest : (k : ℕ) → line ≤ k → k < length c.ends → IsInRow t.rows k (home_of old c k)

pub AreHalfFiled-put : (c : Chart) (t : TableState) (old line : ℕ) → IsKept c → line < length c.ends → is_node (ends_at c line).first ≡ true → AreHalfFiled c t old line
    → IsInRow (moved t.rows line (suc (bucket_of t.buckets (ends_at c line).monitor (ends_at c line).role))) line (suc (bucket_of t.buckets (ends_at c line).monitor (ends_at c line).role))
    → AreHalfFiled c (with_move t line (suc (bucket_of t.buckets (ends_at c line).monitor (ends_at c line).role))) old (line + 1)
AreHalfFiled-put c t old line kept there some was here =
    record {
      sized = was.sized;
      done = λ k below. at k below (cases_eq k line);
      rest = λ k above within. IsInRow-moved_other t.rows line (suc (bucket_of t.buckets (ends_at c line).monitor (ends_at c line).role)) k (home_of old c k) (λ e. omega arith) (was.rest k (omega arith) within);
    }
  where
    home : home_of t.buckets c line ≡ suc (bucket_of t.buckets (ends_at c line).monitor (ends_at c line).role)
    home =
        row_for-some t.buckets _ _ (row-full c kept line there some)
        ∙ ap (λ (q : Key). suc (bucket_of t.buckets q.0 q.1)) (key-shown c line there)

    at : (k : ℕ) → k < line + 1 → (k ≡ line) ⊎ (k ≢ line) → IsInRow (moved t.rows line (suc (bucket_of t.buckets (ends_at c line).monitor (ends_at c line).role))) k (home_of t.buckets c k)
    at k below (inl e) = subst (λ x. IsInRow (moved t.rows line (suc (bucket_of t.buckets (ends_at c line).monitor (ends_at c line).role))) x (home_of t.buckets c x)) (sym e) (subst (IsInRow (moved t.rows line (suc (bucket_of t.buckets (ends_at c line).monitor (ends_at c line).role))) line) (sym home) here)
    at k below (inr other) = IsInRow-moved_other t.rows line (suc (bucket_of t.buckets (ends_at c line).monitor (ends_at c line).role)) k (home_of t.buckets c k) other (was.done k (omega arith))

pub AreHalfFiled-vacant : (c : Chart) (t : TableState) (old line : ℕ) → IsKept c → line < length c.ends → is_node (ends_at c line).first ≡ false → AreHalfFiled c t old line → AreHalfFiled c t old (line + 1)
AreHalfFiled-vacant c t old line kept there none was =
    record {
      sized = was.sized;
      done = λ k below. at k below (cases_eq k line);
      rest = λ k above within. was.rest k (omega arith) within;
    }
  where
    same : home_of t.buckets c line ≡ home_of old c line
    same =
        let empty = row-empty c kept line there none in
        ap (row_for t.buckets (slice_index_or (keys_of c) line (key 0 Entry))) empty ∙ sym (ap (row_for old (slice_index_or (keys_of c) line (key 0 Entry))) empty)

    at : (k : ℕ) → k < line + 1 → (k ≡ line) ⊎ (k ≢ line) → IsInRow t.rows k (home_of t.buckets c k)
    at k below (inl e) = subst (λ x. IsInRow t.rows x (home_of t.buckets c x)) (sym e) (subst (IsInRow t.rows line) (sym same) (was.rest line (omega arith) there))
    at k below (inr other) = was.done k (omega arith)

-- ---- nothing yet

pub IsWhole-nothing : IsWhole nothing (record { rows = [] ∷ []; size = 0; buckets = 1 })
IsWhole-nothing = record { kept = IsKept-nothing; indexed = record { sized = refl; filed = λ k there. absurd (omega arith) } }
