-- Records that move from row to row of a table.
use Rattle.std.specs.Prelude.{◌≡◌, ◌≢◌, ◌⊎◌, ℕ, zero, suc, ◌+◌, ◌<◌, ◌≤◌, ◌==◌, Bool, true, false, cond, List, [], ◌∷◌, ◌++◌, ◌-◌, length}
use Rattle.std.proofs.Common.{refl, sym, ap, ◌∙◌, subst, inl, inr, arith, length-append}
use Rattle.std.proofs.Math.ListN.{get_or-map as get_or-map_both}
use Rattle.std.proofs.lemmas.Bool.{cases_eq, cases_lt, eq-eqb, eqb-true}
use Rattle.std.proofs.lemmas.List.{length-map, get_or-set_other, get_or-map, get_or_past}
use Rattle.std.proofs.lemmas.Grind.{get_or-set_at}
use Rattle.std.proofs.lemmas.List.Sums.{sum_by-cons}
use Rattle.wait_lines.specs.declared.links.Node.{Node}
use Rattle.wait_lines.specs.declared.links.Stop.{Stop}
use Rattle.wait_lines.specs.declared.links.Stop.TheVariants.{At, End, Free}
use Rattle.wait_lines.specs.declared.links.Ends.{Ends}
use Rattle.wait_lines.specs.Links.{Chart, node, unused, behind_of, unlinked, linked, grown, IsThere}
use Rattle.wait_lines.specs.Rings.{Walk, IsNoNode, without_number}
use Rattle.wait_lines.specs.Rows.{nodes_from, rows_of, end_at, row_at, times_number, times_in_rows, rows_without, rows_with, moved, AreLinked, AreLinkedBut}
use Rattle.wait_lines.specs.Tables.{TableState, table_of, with_move, with_record, IsInRow, IsTable}
use Rattle.wait_lines.proofs.LinkLemmas.{sizes-unlinked, sizes-linked}
use Rattle.wait_lines.proofs.RowLemmas.{rows-shown, times-cons, times-push, times-without, times-row, AreLinked-unlinked, AreLinked-linked, AreLinkedBut-grown}

-- two states of a table with the same rows, size and buckets
same_table : (d : Chart) (buckets : ℕ) (rows : List (List ℕ)) (size : ℕ) → rows_of d ≡ rows → length d.spots ≡ size
    → table_of d buckets ≡ record { rows = rows; size = size; buckets = buckets }
same_table d buckets rows size e f =
    ap (λ (rs : List (List ℕ)). let t : TableState = record { rows = rs; size = length d.spots; buckets = buckets } in t) e
    ∙ ap (λ (n : ℕ). let t : TableState = record { rows = rows; size = n; buckets = buckets } in t) f

-- ---- who stands in which row

-- the record that moved stands in its new row
pub IsInRow-moved_itself : (rows : List (List ℕ)) (n j : ℕ) → j < length rows → IsInRow (moved rows n j) n j
IsInRow-moved_itself rows n j within =
    let l = length-map rows (without_number n) in
    let there : j < length (rows_without n rows) = omega arith in
    let at = get_or-set_at (rows_without n rows) j j (row_at (rows_without n rows) j ++ n ∷ []) [] refl there in
    let e = times-push n n (row_at (rows_without n rows) j) ∙ ap (λ b. times_number n (row_at (rows_without n rows) j) + cond {A = ℕ} b 1 0) (eq-eqb n n refl) in
    subst (λ r. 1 ≤ times_number n r) (sym at) (omega arith)

-- and each other where it stood
pub IsInRow-moved_other : (rows : List (List ℕ)) (n j k i : ℕ) → k ≢ n → IsInRow rows k i → IsInRow (moved rows n j) k i
IsInRow-moved_other rows n j k i other h = at (cases_eq i j) (cases_lt j (length (rows_without n rows)))
  where
    kept : times_number k (row_at (rows_without n rows) i) ≡ times_number k (row_at rows i)
    kept = ap (times_number k) (get_or-map_both (without_number n) rows i []) ∙ times-without k n (row_at rows i) other

    here : 1 ≤ times_number k (row_at (rows_without n rows) i)
    here = let e = kept in omega arith

    at : (i ≡ j) ⊎ (i ≢ j) → (j < length (rows_without n rows)) ⊎ (length (rows_without n rows) ≤ j) → IsInRow (moved rows n j) k i
    at (inl same) (inl within) =
        let e = times-push k n (row_at (rows_without n rows) j) in
        let f = ap (λ x. times_number k (row_at (rows_without n rows) x)) same in
        let s = here in
        subst (λ r. 1 ≤ times_number k r) (sym (get_or-set_at (rows_without n rows) j i (row_at (rows_without n rows) j ++ n ∷ []) [] same within)) (omega arith)
    at (inl same) (inr past) =
        let none : row_at (rows_without n rows) i ≡ [] = get_or_past (rows_without n rows) i [] (omega arith) in
        let z = ap (times_number k) none in let s = here in absurd (omega arith)
    at (inr apart) side =
        subst (λ r. 1 ≤ times_number k r) (sym (get_or-set_other (rows_without n rows) j i (row_at (rows_without n rows) j ++ n ∷ []) [] apart)) here

-- ---- a record moves

-- the chart after that
abbrev pub shifted : Chart → ℕ → ℕ → Chart
shifted d n j = linked (unlinked d (node n)) (node n) (end_at j)

module _ (d : Chart) (buckets n j : ℕ) (h : IsTable d buckets) (here : n < length d.spots) (there : j < length d.ends + 1) where
  pub but-shifted : AreLinkedBut n (unlinked d (node n)) (rows_without n (rows_of d))
  but-shifted = AreLinked-unlinked d (rows_of d) n h.linked here

  linked_shifted : AreLinked (shifted d n j) (moved (rows_of d) n j)
  linked_shifted =
      AreLinked-linked (unlinked d (node n)) (rows_without n (rows_of d)) n j but-shifted
      (let m = but-shifted.many in let s = (sizes-unlinked d (node n) h.linked.rings here).1 in omega arith)

  sizes : (length (shifted d n j).spots ≡ length d.spots) × (length (shifted d n j).ends ≡ length d.ends)
  sizes =
      let e = sizes-unlinked d (node n) h.linked.rings here in
      let f = sizes-linked (unlinked d (node n)) (node n) (end_at j) but-shifted.rings but-shifted.here (end_here j there e.1) in
      (f.0 ∙ e.0, f.1 ∙ e.1)
    where
      end_here : (i : ℕ) → i < length d.ends + 1 → length (unlinked d (node n)).ends ≡ length d.ends → IsThere (unlinked d (node n)) (end_at i)
      end_here zero l e = tt
      end_here (suc k) l e = omega arith

  pub IsTable-shifted : IsTable (shifted d n j) buckets
  IsTable-shifted =
      record {
        linked = subst (AreLinked (shifted d n j)) (rows-shown (shifted d n j) (moved (rows_of d) n j) linked_shifted) linked_shifted;
        even = sizes.1 ∙ h.even ∙ sym sizes.0;
        few = let e = sizes.0 in let f = h.few in omega arith;
        some = h.some;
        used = let e = sizes.1 in let f = h.used in omega arith;
      }

  pub here-shifted : IsInRow (rows_of (shifted d n j)) n j
  here-shifted =
      subst (λ rows. IsInRow rows n j) (rows-shown (shifted d n j) (moved (rows_of d) n j) linked_shifted)
      (IsInRow-moved_itself (rows_of d) n j (let m = h.linked.many in omega arith))

  pub table_of-shifted : table_of (shifted d n j) buckets ≡ with_move (table_of d buckets) n j
  table_of-shifted = same_table (shifted d n j) buckets (moved (rows_of d) n j) (length d.spots) (sym (rows-shown (shifted d n j) (moved (rows_of d) n j) linked_shifted)) sizes.0

-- ---- one record more

abbrev pub wider : Chart → Chart
wider d = linked (grown d) (node (length d.spots)) Free

module _ (d : Chart) (buckets : ℕ) (h : IsTable d buckets) (few : length d.spots < 32767) where
  but : AreLinkedBut (length d.spots) (grown d) (rows_of d ++ [] ∷ [])
  but = AreLinkedBut-grown d (rows_of d) h.linked h.even

  more : AreLinked (wider d) (rows_with (rows_of d ++ [] ∷ []) (length d.spots) 0)
  more = AreLinked-linked (grown d) (rows_of d ++ [] ∷ []) (length d.spots) 0 but (let m = but.many in omega arith)

  more_sizes : (length (wider d).spots ≡ length d.spots + 1) × (length (wider d).ends ≡ length d.ends + 1)
  more_sizes =
      let e = sizes-linked (grown d) (node (length d.spots)) Free but.rings but.here tt in
      (e.0 ∙ length-append d.spots _, e.1 ∙ length-append d.ends _)

  pub IsTable-wider : IsTable (wider d) buckets
  IsTable-wider =
      record {
        linked = subst (AreLinked (wider d)) (rows-shown (wider d) _ more) more;
        even = let e = h.even in let s = more_sizes.0 in let f = more_sizes.1 in omega arith;
        few = let e = more_sizes.0 in omega arith;
        some = h.some;
        used = let e = more_sizes.1 in let f = h.used in omega arith;
      }

  pub table_of-wider : table_of (wider d) buckets ≡ with_record (table_of d buckets)
  table_of-wider = same_table (wider d) buckets (rows_with (rows_of d ++ [] ∷ []) (length d.spots) 0) (length d.spots + 1) (sym (rows-shown (wider d) _ more)) more_sizes.0

abbrev number_of : Stop → ℕ
number_of (At x) = x.0
number_of (End k) = k
number_of Free = 0

-- the first of a row stands in it
pub first-in_row : (f : Stop → Stop) (p : Stop) (ns : List ℕ) (z : Stop) (n : ℕ) → IsNoNode z → Walk f p ns z → f p ≡ node n → 1 ≤ times_number n ns
first-in_row f p [] z n end w head = absurd (end n (sym w ∙ head))
first-in_row f p (m ∷ ms) z n end w head =
    let same : m ≡ n = ap number_of (sym w.0 ∙ head) in
    let e = times-cons n m ms ∙ ap (λ b. cond {A = ℕ} b 1 0 + times_number n ms) (eq-eqb m n same) in omega arith

-- ---- a row, record by record

-- the row of a bucket is read from its first record on
pub row-read : (d : Chart) (b : ℕ) → b < length d.ends → row_at (rows_of d) (suc b) ≡ nodes_from (length d.spots) (behind_of d) (behind_of d (End b))
row-read d b there = get_or-map (λ (e : Ends). nodes_from (length d.spots) (behind_of d) e.first) d.ends b (unused (End b)) [] there

-- a record of the row either fails the test, or is still to come
abbrev pub StillToCome : (ℕ → Bool) → List (List ℕ) → ℕ → List ℕ → Type 0
StillToCome test rows j rest = (k : ℕ) → IsInRow rows k j → (test k ≡ false) ⊎ (1 ≤ times_number k rest)

pub StillToCome-step : (test : ℕ → Bool) (rows : List (List ℕ)) (j left n : ℕ) (f : Stop → Stop) → 0 < left → test n ≡ false → StillToCome test rows j (nodes_from left f (node n))
    → StillToCome test rows j (nodes_from (left - 1) f (f (node n)))
StillToCome-step test rows j zero n f low fails was k h = absurd (omega arith)
StillToCome-step test rows j (suc left) n f low fails was k h = at (was k h) (n == k) refl
  where
    one_less : suc left - 1 ≡ left
    one_less = omega arith

    at : (test k ≡ false) ⊎ (1 ≤ times_number k (n ∷ nodes_from left f (f (node n)))) → (b : Bool) → (n == k) ≡ b
        → (test k ≡ false) ⊎ (1 ≤ times_number k (nodes_from (suc left - 1) f (f (node n))))
    at (inl fail) b e = inl fail
    at (inr some) true e = inl (ap test (sym (eqb-true n k e)) ∙ fails)
    at (inr some) false e =
        let c = times-cons k n (nodes_from left f (f (node n))) ∙ ap (λ b. cond {A = ℕ} b 1 0 + times_number k (nodes_from left f (f (node n)))) e in
        inr (subst (λ l. 1 ≤ times_number k (nodes_from l f (f (node n)))) (sym one_less) (omega arith))

-- where none is to come, each fails
pub StillToCome-none : (test : ℕ → Bool) (rows : List (List ℕ)) (j : ℕ) (rest : List ℕ) → rest ≡ [] → StillToCome test rows j rest → (k : ℕ) → IsInRow rows k j → test k ≡ false
StillToCome-none test rows j rest none was k h = at (was k h)
  where
    at : (test k ≡ false) ⊎ (1 ≤ times_number k rest) → test k ≡ false
    at (inl fail) = fail
    at (inr some) = let z = ap (times_number k) none in absurd (omega arith)

-- from a stop that is no record none is to come
pub none_from : (left : ℕ) (f : Stop → Stop) (s : Stop) → ((x : Node) → s ≡ At x → ⊥) → nodes_from left f s ≡ []
none_from zero f s other = refl
none_from (suc left) f (At n) other = absurd (other n refl)
none_from (suc left) f (End k) other = refl
none_from (suc left) f Free other = refl

-- who stands in the first row stands in no other
pub in_one_row : (d : Chart) (rows : List (List ℕ)) (n : ℕ) → AreLinked d rows → IsInRow rows n 0 → (n < length d.spots) × ((j : ℕ) → IsInRow rows n j → j ≡ 0)
in_one_row d [] n h first = absurd (let m = h.many in omega arith)
in_one_row d (r ∷ rs) n h first = (there (cases_lt n (length d.spots)), other)
  where
    sum : times_in_rows n (r ∷ rs) ≡ times_number n r + times_in_rows n rs
    sum = sum_by-cons (times_number n) r rs

    there : (n < length d.spots) ⊎ (length d.spots ≤ n) → n < length d.spots
    there (inl within) = within
    there (inr past) = let none = h.absent n past in let e = sum in absurd (omega arith)

    other : (j : ℕ) → IsInRow (r ∷ rs) n j → j ≡ 0
    other zero again = refl
    other (suc i) again = at (cases_lt i (length rs))
      where
        at : (i < length rs) ⊎ (length rs ≤ i) → suc i ≡ 0
        at (inl within) =
            let once = h.once n (there (cases_lt n (length d.spots))) in let e = sum in let f = times-row n i rs within in absurd (omega arith)
        at (inr past) = let z = ap (times_number n) (get_or_past rs i [] past) in absurd (omega arith)
