use Rattle.std.proofs.Common.{◌≡◌, Option, true, false, ap, sym, ◌∙◌, refl, arith}
use Rattle.std.specs.FinMap as map
use Rattle.jls_check.specs.declared.threads.ThreadRecord.{ThreadRecord}
use Rattle.jls_check.specs.declared.slots.Slot.{Slot}
use Rattle.jls_check.specs.LiveThreads.{live_in, owned_in}
use Rattle.jls_check.specs.Slots.{records_in}
use Rattle.jls_check.proofs.Positions.{record_found, no_record, slot_read, position_within, leads-written, haves-written, records-written}
use Rattle.jls_check.proofs.threads.Threads.set.Goals as goal

pub returns-in_err-position-clause-was : goal.returns-in_err-position-clause-was
returns-in_err-position-clause-was c =
    let none = no_record c.self.inside.slots.items c.self.inside.positions.entries c.args.thread.0 (sym c.in_err-position.ensures) in
    let never : false ≡ true = rw (← c.self.view_is, none) at c.requires in
    absurd (cc)

pub returns-in_err-position-clause-set : goal.returns-in_err-position-clause-set
returns-in_err-position-clause-set c =
    let none = no_record c.self.inside.slots.items c.self.inside.positions.entries c.args.thread.0 (sym c.in_err-position.ensures) in
    let never : false ≡ true = rw (← c.self.view_is, none) at c.requires in
    absurd (cc)

pub unreachable-requires : goal.unreachable-requires
unreachable-requires c =
    let within = position_within c.self.inside.slots.items c.self.inside.positions.entries c.args.thread.0 c.in_ok-position.position c.self.invariant.0 (sym c.in_ok-position.ensures) in
    let past = c.in_default.ensures.item.3 in
    omega arith

pub invariant_of-self-2 : goal.invariant_of-self-2
invariant_of-self-2 c =
    let slots = c.self.inside.slots.items in
    let positions = c.self.inside.positions.entries in
    let t = c.args.thread.0 in
    let k = c.in_ok-position.position in
    let old = c.in-Some.slot.now in
    let found = sym c.in_ok-position.ensures in
    let there = slot_read slots positions t k old c.self.invariant.0 found c.in-Some.ensures.value in
    let new : Slot = record { number = old.number; kept = record { live = c.args.live; owned = old.kept.owned } } in (
      leads-written slots positions t k old new c.self.invariant.0 c.self.invariant.1 found there refl,
      haves-written slots positions t k old new c.self.invariant.0 c.self.invariant.1 found there refl,
    )

pub returns-clause-was : goal.returns-clause-was
returns-clause-was c =
    let slots = c.self.inside.slots.items in
    let positions = c.self.inside.positions.entries in
    let t = c.args.thread.0 in
    let k = c.in_ok-position.position in
    let old = c.in-Some.slot.now in
    let found = sym c.in_ok-position.ensures in
    let there = slot_read slots positions t k old c.self.invariant.0 found c.in-Some.ensures.value in
    rw (← c.self.view_is) (sym (ap live_in (record_found slots positions t k old found there)))

pub returns-clause-set : goal.returns-clause-set
returns-clause-set c =
    let slots = c.self.inside.slots.items in
    let positions = c.self.inside.positions.entries in
    let t = c.args.thread.0 in
    let k = c.in_ok-position.position in
    let old = c.in-Some.slot.now in
    let found = sym c.in_ok-position.ensures in
    let there = slot_read slots positions t k old c.self.invariant.0 found c.in-Some.ensures.value in
    let new : Slot = record { number = old.number; kept = record { live = c.args.live; owned = old.kept.owned } } in
    let is = record_found slots positions t k old found there in
    rw (← c.self.view_is) (records-written slots positions t k old new c.self.invariant.0 c.self.invariant.1 found there refl
    ∙ ap (λ (o : Option ThreadRecord). map.insert (records_in slots positions) t (record { live = c.args.live; owned = owned_in o })) (sym is))
