use Rattle.std.proofs.Common.{sym}
use Rattle.jls_check.proofs.Positions.{position_within}
use Rattle.jls_check.proofs.TakenOut.{taken_out, still_there, records-without, records-absent}
use Rattle.jls_check.proofs.threads.Threads.remove.Goals as goal

pub returns-in_default : goal.returns-in_default
returns-in_default c =
    rw (c.in_default.ensures.unchanged, ← c.self.view_is) (records-absent c.self.inside.slots.items c.self.inside.positions.entries c.args.thread.0 (sym c.in_default.ensures.value))

pub swap_remove-requires : goal.swap_remove-requires
swap_remove-requires c =
    let within = position_within c.self.inside.slots.items c.self.inside.positions.entries c.args.thread.0 c.in-Some.position c.self.invariant.0 (sym c.in-Some.ensures.value) in
    let long = c.self.inside.slots.ok in
    rw (long.0) within

pub follow-requires : goal.follow-requires
follow-requires c =
    rw (c.deref.ensures.value, c.swap_remove.ensures.items) (still_there c.self.inside.slots.items c.self.inside.positions.entries c.remove.new.self c.remove.new.self c.args.thread.0 c.in-Some.position c.swap_remove.result
    c.self.invariant.0 c.self.invariant.1 (sym c.in-Some.ensures.value) c.in-Some.ensures.updates.0)

pub invariant_of-self-2 : goal.invariant_of-self-2
invariant_of-self-2 c =
    let slots = c.self.inside.slots.items in
    let positions = c.self.inside.positions.entries in
    let found = sym c.in-Some.ensures.value in
    let stands = taken_out slots positions c.remove.new.self c.follow.new.positions c.args.thread.0 c.in-Some.position c.swap_remove.result c.self.invariant.0 c.self.invariant.1 found
    c.in-Some.ensures.updates.0 (rw (c.deref.ensures.value, c.swap_remove.ensures.items) at c.follow.ensures) in
    rw (c.free_empty.ensures, c.swap_remove.ensures.items) (stands.0, stands.1)

pub returns : goal.returns
returns c =
    let slots = c.self.inside.slots.items in
    let positions = c.self.inside.positions.entries in
    let found = sym c.in-Some.ensures.value in
    let stands = taken_out slots positions c.remove.new.self c.follow.new.positions c.args.thread.0 c.in-Some.position c.swap_remove.result c.self.invariant.0 c.self.invariant.1 found
    c.in-Some.ensures.updates.0 (rw (c.deref.ensures.value, c.swap_remove.ensures.items) at c.follow.ensures) in
    rw (c.free_empty.ensures, c.swap_remove.ensures.items, ← c.self.view_is) (records-without c.args.thread.0 slots positions _ c.follow.new.positions.entries stands)
