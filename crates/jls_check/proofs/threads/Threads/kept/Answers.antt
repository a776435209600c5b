use Rattle.std.proofs.Common.{sym, ◌∙◌, arith}
use Rattle.jls_check.proofs.Positions.{record_found, no_record, slot_read, position_within}
use Rattle.jls_check.proofs.threads.Threads.kept.Goals as goal

pub returns-in_err-position : goal.returns-in_err-position
returns-in_err-position c =
    rw (← c.self.view_is) (c.from_residual.ensures ∙ sym (no_record c.self.inside.slots.items c.self.inside.positions.entries c.args.thread.0 (sym c.in_err-position.ensures)))

pub returns-in_err-slot : goal.returns-in_err-slot
returns-in_err-slot c =
    let within = position_within c.self.inside.slots.items c.self.inside.positions.entries c.args.thread.0 c.in_ok-position.position c.self.invariant.0 (sym c.in_ok-position.ensures) in
    let past = rw (c.deref-3.ensures.value) at c.in_err-slot.ensures.lookup.3 in
    absurd (omega arith)

pub returns : goal.returns
returns c =
    let slots = c.self.inside.slots.items in
    let positions = c.self.inside.positions.entries in
    let found = sym c.in_ok-position.ensures in
    let read = rw (c.deref-3.ensures.value) at c.in_ok-slot.ensures.lookup.1 in
    let there = slot_read slots positions c.args.thread.0 c.in_ok-position.position c.in_ok-slot.slot.now c.self.invariant.0 found read in
    rw (← c.self.view_is) (sym (record_found slots positions c.args.thread.0 c.in_ok-position.position c.in_ok-slot.slot.now found there))
