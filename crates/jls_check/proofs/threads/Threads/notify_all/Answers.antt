use Rattle.std.proofs.Common.{◌≡◌, ◌++◌, sym, ◌∙◌, ap, length, take, drop}
use Rattle.std.specs.Prelude.{List, map as list_map}
use Rattle.std.proofs.lemmas.List.{take_at, length-map}
use Rattle.jls_check.specs.declared.slots.Slot.{Slot}
use Rattle.jls_check.specs.Slots.{notified_slot}
use Rattle.jls_check.proofs.Positions.{leads-notified, haves-notified, records-notified}
use Rattle.jls_check.proofs.threads.Threads.notify_all.Goals as goal

written : (c : goal.After-self-1) → take c.self.inside.slots.len (c.notify_slots.new.slots ++ drop (length c.notify_slots.new.slots) c.self.inside.slots.items) ≡ list_map (notified_slot c.args.object) c.self.inside.slots.items
written c =
    let is : c.notify_slots.new.slots ≡ list_map (notified_slot c.args.object) c.self.inside.slots.items = c.notify_slots.ensures ∙ ap (list_map (notified_slot c.args.object)) c.deref_mut.ensures.value in
    let long = c.self.inside.slots.ok in
    let many : length c.notify_slots.new.slots ≡ c.self.inside.slots.len = ap (λ (xs : List Slot). length xs) is ∙ length-map c.self.inside.slots.items (notified_slot c.args.object) ∙ sym long.0 in
    take_at c.notify_slots.new.slots (drop (length c.notify_slots.new.slots) c.self.inside.slots.items) c.self.inside.slots.len many ∙ is

pub invariant_of-self : goal.invariant_of-self
invariant_of-self c =
    rw (written c) (
      leads-notified c.self.inside.slots.items c.self.inside.positions.entries c.args.object c.self.invariant.0,
      haves-notified c.self.inside.slots.items c.self.inside.positions.entries c.args.object c.self.invariant.1,
    )

pub returns : goal.returns
returns c =
    rw (written c, ← c.self.view_is) (records-notified c.self.inside.slots.items c.self.inside.positions.entries c.args.object c.self.invariant.0)
