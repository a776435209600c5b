use Rattle.std.proofs.Common.{◌≡◌, refl}
use Rattle.fat_monitor.proofs.Copies.{same_slots, same_keys}
use Rattle.fat_monitor.proofs.posts.PostsClone.clone.Goals as goal

pub invariant_of-result : goal.invariant_of-result
invariant_of-result c =
    let slots : c.in_ok-clone.field-0.slots ≡ c.self.inside.records.slots = same_slots _ _ c.in_ok-clone.ensures.cases in
    let keys : c.in_ok-clone-2.field-0.entries ≡ c.self.inside.keys.entries = same_keys _ _ c.in_ok-clone-2.ensures.cases in
    rw (slots, keys) c.self.invariant

pub returns : goal.returns
returns c =
    let slots : c.in_ok-clone.field-0.slots ≡ c.self.inside.records.slots = same_slots _ _ c.in_ok-clone.ensures.cases in
    let keys : c.in_ok-clone-2.field-0.entries ≡ c.self.inside.keys.entries = same_keys _ _ c.in_ok-clone-2.ensures.cases in
    record { cases = rw (← c.self.view_is, slots, keys) refl }
