use Rattle.std.proofs.Common.{◌≡◌, refl}
use Rattle.fat_monitor.proofs.Copies.{same_keys}
use Rattle.jls_check.proofs.threads.ThreadsClone.clone.Goals as goal

pub invariant_of-result : goal.invariant_of-result
invariant_of-result c =
    let keys : c.in_ok-clone.field-0.entries ≡ c.self.inside.positions.entries = same_keys _ _ c.in_ok-clone.ensures.cases in
    rw (c.in_ok-from_slice.ensures.items, c.deref.ensures.value, keys) c.self.invariant

pub returns : goal.returns
returns c =
    let keys : c.in_ok-clone.field-0.entries ≡ c.self.inside.positions.entries = same_keys _ _ c.in_ok-clone.ensures.cases in
    record { cases = rw (← c.self.view_is, c.in_ok-from_slice.ensures.items, c.deref.ensures.value, keys) refl }
