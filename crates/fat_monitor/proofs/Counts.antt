-- What the values of a map weigh together, and how many of them, or of the items of a list, pass a test: after a
-- write, and where the count is 0.
use Rattle.std.specs.Prelude.{◌≡◌, ◌⊎◌, ℕ, ◌+◌, ◌<◌, ◌≤◌, ◌==◌, Bool, true, false, not, cond, ◌||◌, ◌&&◌, T, List, [], ◌∷◌, map as list_map, length, get_or, slice_set, count_by, sum_by, Option, Some, None}
use Rattle.std.specs.List.{list_any}
use Rattle.std.specs.Ordering.{nat_cmp, is_eq, is_lt}
use Rattle.std.specs.declared.cmp.Ordering.{Ordering}
use Rattle.std.specs.declared.cmp.Ordering.TheVariants.{Less, Equal, Greater}
use Rattle.std.specs.Cmp.{nat_cmp_total}
use Rattle.std.specs.FinMap as map
use Rattle.std.specs.FinMap.{get-entries, entries-insert, entries_sorted, same_map, len-empty, len-entries, nat_cmp-IsAntisymmetric}
use Rattle.std.specs.FinMap.Entries.{find, put, is_sorted, below_all, by_order}
use Rattle.std.proofs.Common.{refl, sym, ap, ◌∙◌, arith, inl, inr}
use Rattle.std.proofs.lemmas.Bool.{cases_eq, eq-eqb, ne_eqb}
use Rattle.std.proofs.lemmas.List.Sums.{sum_by-cons, sum_by-set}
use Rattle.fat_monitor.proofs.PostMaps.{get-insert_by, get-remove_by}

-- ---- numbers of a sorted list, whatever is read of its values

module _ {X Y : Type 0} (read : X → Y) where
  -- what is below a list is below its first number and below the rest
  head_below : (x : ℕ) (e : ℕ × X) (es : List (ℕ × X)) → T (below_all nat_cmp x (e ∷ es)) → (nat_cmp x e.0 ≡ Less) × T (below_all nat_cmp x es)
  head_below x e es h = at (nat_cmp x e.0) h
    where
      at : (r : Ordering) → T (is_lt r && below_all nat_cmp x es) → (r ≡ Less) × T (below_all nat_cmp x es)
      at Less h = (refl, h)
      at Equal h = absurd h
      at Greater h = absurd h

  -- the first number of a sorted list is below the rest, which is sorted
  pub head_sorted : (e : ℕ × X) (es : List (ℕ × X)) → T (is_sorted nat_cmp (e ∷ es)) → T (below_all nat_cmp e.0 es) × T (is_sorted nat_cmp es)
  head_sorted e es h = at (below_all nat_cmp e.0 es) h
    where
      at : (b : Bool) → T (b && is_sorted nat_cmp es) → T b × T (is_sorted nat_cmp es)
      at true h = (tt, h)
      at false h = absurd h

  -- a number below each number of a list is not found in it
  pub unmet : (q x : ℕ) (es : List (ℕ × X)) → ((y : ℕ) → nat_cmp x y ≡ Less → nat_cmp q y ≡ Less) → T (below_all nat_cmp x es) → find nat_cmp q es ≡ None
  unmet q x [] below h = refl
  unmet q x (e ∷ es) below h =
      let parts = head_below x e es h in
      ap (λ r. cond (is_eq r) (Some e.1) (find nat_cmp q es)) (below e.0 parts.0) ∙ unmet q x es below parts.1

-- ---- the weights of the values of a map, added up

module _ {X : Type 0} (w : X → ℕ) where
  -- the weight of a value; nothing for one that is not there
  abbrev pub weight_in : Option X → ℕ
  weight_in None = 0
  weight_in (Some x) = w x

  -- the weights of the listed values
  abbrev listed : List (ℕ × X) → ℕ
  listed [] = 0
  listed (e ∷ es) = w e.1 + listed es

  -- added up by their values they are as much
  sum-values : (es : List (ℕ × X)) → sum_by w (list_map (λ e. e.1) es) ≡ listed es
  sum-values [] = refl
  sum-values (e ∷ es) = sum_by-cons w e.1 (list_map (λ x. x.1) es) ∙ ap (λ n. w e.1 + n) (sum-values es)

  -- a value that is put into a list takes the place of the one that stood there
  listed-put : (k : ℕ) (x : X) (es : List (ℕ × X)) → T (is_sorted nat_cmp es) → listed (put nat_cmp k x es) + weight_in (find nat_cmp k es) ≡ listed es + w x
  listed-put k x [] h = omega arith
  listed-put k x (e ∷ es) h = at (nat_cmp k e.0) refl (listed-put k x es (head_sorted w e es h).1)
    where
      at : (r : Ordering) → nat_cmp k e.0 ≡ r → listed (put nat_cmp k x es) + weight_in (find nat_cmp k es) ≡ listed es + w x
          → listed (by_order r ((k, x) ∷ e ∷ es) ((e.0, x) ∷ es) (e ∷ put nat_cmp k x es)) + weight_in (cond (is_eq r) (Some e.1) (find nat_cmp k es)) ≡ listed (e ∷ es) + w x
      at Less less again =
          let none : find nat_cmp k es ≡ None = unmet w k e.0 es (λ y q. nat_cmp_total.trans k e.0 y less q) (head_sorted w e es h).0 in rw none (omega arith)
      at Equal equal again = omega arith
      at Greater more again = omega arith

  -- in a map a new value takes the place of the one that was there
  pub sum-insert : (l : map.FinMap nat_cmp X) (k : ℕ) (x : X) → sum_by w (map.values (map.insert l k x)) + weight_in (map.get l k) ≡ sum_by w (map.values l) + w x
  sum-insert l k x =
      let before = sum-values (map.entries l) in
      let after = sum-values (map.entries (map.insert l k x)) ∙ ap listed (entries-insert nat_cmp_total l k x) in
      let found = ap weight_in (get-entries l k) in
      let put_in = listed-put k x (map.entries l) (entries_sorted l) in
      omega arith

  none_listed : (es : List (ℕ × X)) → length es ≡ 0 → sum_by w (list_map (λ e. e.1) es) ≡ 0
  none_listed [] e = refl
  none_listed (x ∷ es) e = absurd (omega arith)

  pub sum-empty : sum_by w (map.values {R = nat_cmp} map.empty) ≡ 0
  sum-empty = none_listed (map.entries map.empty) (sym (len-entries map.empty) ∙ len-empty nat_cmp X)

-- ---- how many values of a map pass a test

module _ {X : Type 0} (p : X → Bool) where
  -- one for a value that passes, nothing for one that does not or is not there
  abbrev pub one : X → ℕ
  one x = cond (p x) 1 0

  abbrev pub one_in : Option X → ℕ
  one_in o = weight_in one o

  -- in a map a new value takes the place of the one that was there
  pub count-insert : (l : map.FinMap nat_cmp X) (k : ℕ) (x : X) → count_by p (map.values (map.insert l k x)) + one_in (map.get l k) ≡ count_by p (map.values l) + one x
  count-insert l k x = sum-insert one l k x

  -- to take a value out and to put it back changes nothing
  back_again : (l : map.FinMap nat_cmp X) (k : ℕ) (x : X) → map.get l k ≡ Some x → map.insert (map.remove l k) k x ≡ l
  back_again l k x there = same_map nat_cmp_total nat_cmp-IsAntisymmetric _ _ (λ q. at q (cases_eq q k))
    where
      at : (q : ℕ) → (q ≡ k) ⊎ (q ≡ k → ⊥) → map.get (map.insert (map.remove l k) k x) q ≡ map.get l q
      at q (inl same) = rw (get-insert_by (map.remove l k) k x q, eq-eqb q k same, same, there) refl
      at q (inr other) = rw (get-insert_by (map.remove l k) k x q, ne_eqb q k other, get-remove_by l k q, ne_eqb q k other) refl

  -- a value that is taken out counts no more
  pub count-remove : (l : map.FinMap nat_cmp X) (k : ℕ) (x : X) → map.get l k ≡ Some x → count_by p (map.values (map.remove l k)) + one x ≡ count_by p (map.values l)
  count-remove l k x there =
      let gone : map.get (map.remove l k) k ≡ None = get-remove_by l k k ∙ ap (λ b. cond b None (map.get l k)) (eq-eqb k k refl) in
      let none = ap one_in gone in
      let inserted = count-insert (map.remove l k) k x in
      let same = ap (λ (m : map.FinMap nat_cmp X). count_by p (map.values m)) (back_again l k x there) in
      omega arith

  -- where a value is replaced by one that passes just where it does, as many pass
  pub count-same : (l : map.FinMap nat_cmp X) (k : ℕ) (x y : X) → map.get l k ≡ Some x → p x ≡ p y → count_by p (map.values (map.insert l k y)) ≡ count_by p (map.values l)
  count-same l k x y there alike =
      let inserted = count-insert l k y in
      let found = ap one_in there in
      let same : one x ≡ one y = ap (λ (b : Bool). cond b 1 0) alike in
      omega arith

  pub count-empty : count_by p (map.values {R = nat_cmp} map.empty) ≡ 0
  count-empty = sum-empty one

  listed-le : (es : List (ℕ × X)) → listed one es ≤ length es
  listed-le [] = omega arith
  listed-le (e ∷ es) = at (p e.1) (listed-le es)
    where
      at : (b : Bool) → listed one es ≤ length es → cond b 1 0 + listed one es ≤ length (e ∷ es)
      at true again = omega arith
      at false again = omega arith

  -- no more pass than there are
  pub count-le : (l : map.FinMap nat_cmp X) → count_by p (map.values l) ≤ map.len l
  count-le l =
      let counted = sum-values one (map.entries l) in
      let long = len-entries l in
      let le = listed-le (map.entries l) in
      omega arith

  -- ---- of a list

  -- an item that is replaced by one that passes just where it does changes no count
  pub count-set : (xs : List X) (i : ℕ) (y d : X) → p y ≡ p (get_or xs i d) → i < length xs → count_by p (slice_set xs i y) ≡ count_by p xs
  count-set xs i y d alike there =
      let replaced = sum_by-set one xs i y d there in
      let same : one y ≡ one (get_or xs i d) = ap (λ (b : Bool). cond b 1 0) alike in
      omega arith

  -- an item that passes counts
  pub count-has : (xs : List X) (i : ℕ) (d : X) → i < length xs → p d ≡ false → p (get_or xs i d) ≡ true → 1 ≤ count_by p xs
  count-has xs i d there out in_it =
      let replaced = sum_by-set one xs i d d there in
      let nothing : one d ≡ 0 = ap (λ (b : Bool). cond b 1 0) out in
      let counts : one (get_or xs i d) ≡ 1 = ap (λ (b : Bool). cond b 1 0) in_it in
      omega arith

  -- the count is 0 exactly where none passes
  pub count-none : (xs : List X) → (count_by p xs == 0) ≡ not (list_any p xs)
  count-none [] = refl
  count-none (x ∷ xs) = ap (λ n. n == 0) (sum_by-cons one x xs) ∙ at (p x) (count-none xs)
    where
      some : (n : ℕ) → (1 + n == 0) ≡ false
      some n = ne_eqb (1 + n) 0 (λ e. omega (arith, e))

      plain : (n : ℕ) → 0 + n ≡ n
      plain n = omega arith

      at : (b : Bool) → (count_by p xs == 0) ≡ not (list_any p xs) → (cond b 1 0 + count_by p xs == 0) ≡ not (b || list_any p xs)
      at true again = some (count_by p xs)
      at false again = ap (λ n. n == 0) (plain (count_by p xs)) ∙ again
