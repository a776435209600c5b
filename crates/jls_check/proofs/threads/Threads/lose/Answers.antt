use Rattle.std.proofs.Common.{◌-◌, ◌≤◌, Option, ap, sym, ◌∙◌, refl, subst, arith}
use Rattle.jls_check.specs.declared.threads.ThreadRecord.{ThreadRecord}
use Rattle.jls_check.specs.declared.slots.Slot.{Slot}
use Rattle.jls_check.specs.LiveThreads.{owned_in, with_owned_in}
use Rattle.jls_check.specs.Slots.{records_in}
use Rattle.jls_check.proofs.Positions.{record_found, no_record, slot_read, position_within, leads-written, haves-written, records-written}
use Rattle.jls_check.proofs.threads.Threads.lose.Goals as goal

pub returns-in_default-position_noting : goal.returns-in_default-position_noting
returns-in_default-position_noting c =
    let shown = records_in c.self.inside.slots.items c.self.inside.positions.entries in
    let none = no_record c.self.inside.slots.items c.self.inside.positions.entries c.in-Some.thread.0 (sym c.in_default-position_noting.ensures) in
    rw (c.in-Some.is, ← c.self.view_is) (ap (λ (o : Option ThreadRecord). with_owned_in shown c.in-Some.thread (owned_in o - 1) o) (sym none))

pub unreachable-requires : goal.unreachable-requires
unreachable-requires c =
    let within = position_within c.self.inside.slots.items c.self.inside.positions.entries c.in-Some.thread.0 c.in-Some-position_noting.position c.self.invariant.0 (sym c.in-Some-position_noting.ensures) in
    let past = c.in_default-get_mut.ensures.item.3 in
    omega arith

pub overflow_sub-slot : goal.overflow_sub-slot
overflow_sub-slot c =
    let slots = c.self.inside.slots.items in
    let positions = c.self.inside.positions.entries in
    let t = c.in-Some.thread.0 in
    let k = c.in-Some-position_noting.position in
    let old = c.in-Some-get_mut.slot.now in
    let found = sym c.in-Some-position_noting.ensures in
    let there = slot_read slots positions t k old c.self.invariant.0 found c.in-Some-get_mut.ensures.value in
    let is = record_found slots positions t k old found there in
    let owned = subst (λ (o : Option ThreadRecord). 1 ≤ owned_in o) is (rw (c.in-Some.is, ← c.self.view_is) at c.requires) in
    owned

pub invariant_of-self-2 : goal.invariant_of-self-2
invariant_of-self-2 c =
    let slots = c.self.inside.slots.items in
    let positions = c.self.inside.positions.entries in
    let t = c.in-Some.thread.0 in
    let k = c.in-Some-position_noting.position in
    let old = c.in-Some-get_mut.slot.now in
    let found = sym c.in-Some-position_noting.ensures in
    let there = slot_read slots positions t k old c.self.invariant.0 found c.in-Some-get_mut.ensures.value in
    let new : Slot = record { number = old.number; kept = record { live = old.kept.live; owned = old.kept.owned - 1 } } in (
      leads-written slots positions t k old new c.self.invariant.0 c.self.invariant.1 found there refl,
      haves-written slots positions t k old new c.self.invariant.0 c.self.invariant.1 found there refl,
    )

pub returns : goal.returns
returns c =
    let slots = c.self.inside.slots.items in
    let positions = c.self.inside.positions.entries in
    let t = c.in-Some.thread.0 in
    let k = c.in-Some-position_noting.position in
    let old = c.in-Some-get_mut.slot.now in
    let found = sym c.in-Some-position_noting.ensures in
    let there = slot_read slots positions t k old c.self.invariant.0 found c.in-Some-get_mut.ensures.value in
    let new : Slot = record { number = old.number; kept = record { live = old.kept.live; owned = old.kept.owned - 1 } } in
    let is = record_found slots positions t k old found there in
    rw (c.in-Some.is, ← c.self.view_is) (records-written slots positions t k old new c.self.invariant.0 c.self.invariant.1 found there refl
    ∙ ap (λ (o : Option ThreadRecord). with_owned_in (records_in slots positions) c.in-Some.thread (owned_in o - 1) o) (sym is))
