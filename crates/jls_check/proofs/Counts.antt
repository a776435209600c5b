-- Whose value in a map passes a test; and how many values of a map, or items of a list, do.
use Rattle.std.specs.Prelude.{◌≡◌, ◌⊎◌, ℕ, Bool, true, false, cond, ◌||◌, T, List, [], ◌∷◌, Some, None}
use Rattle.std.specs.List.{list_any}
use Rattle.std.specs.Ordering.{nat_cmp, is_eq}
use Rattle.std.specs.Map.{values_of}
use Rattle.std.specs.Cmp.{unsigned_tied}
use Rattle.std.specs.FinMap.Entries.{find, is_sorted, below_all}
use Rattle.std.proofs.Common.{refl, sym, ap, ◌∙◌, inl, inr}
use Rattle.std.proofs.lemmas.Bool.{cases_eq, eq-eqb, ne_eqb}
use Rattle.std.proofs.lemmas.Option.{same_Some}
use Rattle.fat_monitor.proofs.Counts.{head_sorted, unmet}
pub use Rattle.fat_monitor.proofs.Counts.{one, one_in, count-insert, count-remove, count-same, count-empty, count-le, count-set, count-has, count-none}

module _ {X : Type 0} (p : X → Bool) where
  -- where none of the values passes, none that is found does
  pub none_passes : (q : ℕ) (es : List (ℕ × X)) (x : X) → list_any p (values_of es) ≡ false → find nat_cmp q es ≡ Some x → p x ≡ false
  none_passes q [] x none found = absurd (cc)
  none_passes q (e ∷ es) x none found = by (none_passes q es x) (is_eq (nat_cmp q e.0)) found
    where
      head : (a b : Bool) → (a || b) ≡ false → (a ≡ false) × (b ≡ false)
      head true b e = absurd (cc)
      head false b e = (refl, e)

      by : (list_any p (values_of es) ≡ false → find nat_cmp q es ≡ Some x → p x ≡ false) → (b : Bool) → cond b (Some e.1) (find nat_cmp q es) ≡ Some x → p x ≡ false
      by rest true found = ap p (sym (same_Some e.1 x found)) ∙ (head (p e.1) (list_any p (values_of es)) none).0
      by rest false found = rest (head (p e.1) (list_any p (values_of es)) none).1 found

  -- where one of the values passes, it is found
  pub one_passes : (es : List (ℕ × X)) → T (is_sorted nat_cmp es) → list_any p (values_of es) ≡ true → (q : ℕ) × (x : X) × (find nat_cmp q es ≡ Some x) × (p x ≡ true)
  one_passes [] sorted some = absurd (cc)
  one_passes (e ∷ es) sorted some = by (one_passes es) (p e.1) refl some
    where
      self : is_eq (nat_cmp e.0 e.0) ≡ true
      self = unsigned_tied e.0 e.0 ∙ eq-eqb e.0 e.0 refl

      order : T (below_all nat_cmp e.0 es) × T (is_sorted nat_cmp es)
      order = head_sorted p e es sorted

      past : (q : ℕ) (x : X) → find nat_cmp q es ≡ Some x → (q ≡ e.0) ⊎ (q ≡ e.0 → ⊥) → find nat_cmp q (e ∷ es) ≡ Some x
      past q x found (inl same) = let none : find nat_cmp q es ≡ None = rw (same) (unmet p e.0 e.0 es (λ y h. h) order.0) in absurd (cc)
      past q x found (inr other) = ap (λ b. cond b (Some e.1) (find nat_cmp q es)) (unsigned_tied q e.0 ∙ ne_eqb q e.0 other) ∙ found

      by : (T (is_sorted nat_cmp es) → list_any p (values_of es) ≡ true → (q : ℕ) × (x : X) × (find nat_cmp q es ≡ Some x) × (p x ≡ true))
          → (b : Bool) → p e.1 ≡ b → (b || list_any p (values_of es)) ≡ true → (q : ℕ) × (x : X) × (find nat_cmp q (e ∷ es) ≡ Some x) × (p x ≡ true)
      by rest true h some = (e.0, e.1, ap (λ b. cond b (Some e.1) (find nat_cmp e.0 es)) self, h)
      by rest false h some = let r = rest order.1 some in (r.0, r.1, past r.0 r.1 r.2 (cases_eq r.0 e.0), r.3)
