-- A copy of slots and keys is the same slots and keys.
use Rattle.std.proofs.Common.{◌≡◌, ℕ, List, Option, None, Some, ap}
use Rattle.std.specs.List.{AllZip}
use Rattle.std.proofs.lemmas.Map.Entries.{entries_from_clone}
use Rattle.std.proofs.lemmas.List.Elements.{same_from_all_zip}
use Rattle.slab.specs.Slab.{Slab, IsSlotClone, IsSlabClone}

same_slot : {T : Type 0} (a b : Option T) → IsSlotClone (λ x y. y ≡ x) a b → b ≡ a
same_slot None b copied = copied
same_slot (Some x) None copied = absurd copied
same_slot (Some x) (Some y) copied = ap Some copied

pub same_slots : {T : Type 0} (s copy : Slab T) → IsSlabClone (λ x y. y ≡ x) s copy → copy.slots ≡ s.slots
same_slots s copy copied = same_from_all_zip (IsSlotClone (λ x y. y ≡ x)) s.slots copy.slots copied.slots same_slot

pub same_keys : (keys copy : List (ℕ × ℕ)) → AllZip (λ p q. (q.0 ≡ p.0) × (q.1 ≡ p.1)) keys copy → copy ≡ keys
same_keys = entries_from_clone (λ x y. y ≡ x) (λ x y. y ≡ x) (λ x y e. e) (λ x y e. e)
