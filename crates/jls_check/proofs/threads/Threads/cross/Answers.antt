use Rattle.std.proofs.Common.{Option, ap, sym, ◌∙◌, refl, arith}
use Rattle.std.specs.Prelude.{is_some}
use Rattle.std.specs.FinMap as map
use Rattle.jls_check.specs.declared.threads.ThreadRecord.{ThreadRecord}
use Rattle.jls_check.specs.declared.slots.Slot.{Slot}
use Rattle.jls_check.specs.CallEdges.{edge_in, crossed_in}
use Rattle.jls_check.specs.Slots.{records_in}
use Rattle.jls_check.proofs.Positions.{record_found, no_record, slot_read, position_within, leads-written, haves-written, records-written}
use Rattle.jls_check.proofs.threads.Threads.cross.Goals as goal

pub returns-in_default-clause-answer : goal.returns-in_default-clause-answer
returns-in_default-clause-answer c =
    let none = no_record c.self.inside.slots.items c.self.inside.positions.entries c.args.thread.0 (sym c.in_default.ensures) in
    rw (← c.self.view_is) (ap (λ (o : Option ThreadRecord). is_some (edge_in c.args.edge o)) (sym none))

pub returns-in_default-clause-crossed : goal.returns-in_default-clause-crossed
returns-in_default-clause-crossed c =
    let shown = records_in c.self.inside.slots.items c.self.inside.positions.entries in
    let none = no_record c.self.inside.slots.items c.self.inside.positions.entries c.args.thread.0 (sym c.in_default.ensures) in
    rw (← c.self.view_is) (ap (crossed_in shown c.args.thread c.args.edge) (sym none))

pub unreachable-requires : goal.unreachable-requires
unreachable-requires c =
    let within = position_within c.self.inside.slots.items c.self.inside.positions.entries c.args.thread.0 c.in-Some.position c.self.invariant.0 (sym c.in-Some.ensures) in
    let past = c.in_default-get_mut.ensures.item.3 in
    omega arith

pub invariant_of-self-2 : goal.invariant_of-self-2
invariant_of-self-2 c =
    let slots = c.self.inside.slots.items in
    let positions = c.self.inside.positions.entries in
    let t = c.args.thread.0 in
    let k = c.in-Some.position in
    let old = c.in-Some-get_mut.slot.now in
    let found = sym c.in-Some.ensures in
    let there = slot_read slots positions t k old c.self.invariant.0 found c.in-Some-get_mut.ensures.value in
    let new : Slot = record { number = old.number; kept = c.take_edge-taken.new.kept } in
    rw (c.give_back.ensures) (
      leads-written slots positions t k old new c.self.invariant.0 c.self.invariant.1 found there refl,
      haves-written slots positions t k old new c.self.invariant.0 c.self.invariant.1 found there refl,
    )

pub returns-clause-answer : goal.returns-clause-answer
returns-clause-answer c =
    let slots = c.self.inside.slots.items in
    let positions = c.self.inside.positions.entries in
    let t = c.args.thread.0 in
    let k = c.in-Some.position in
    let old = c.in-Some-get_mut.slot.now in
    let found = sym c.in-Some.ensures in
    let there = slot_read slots positions t k old c.self.invariant.0 found c.in-Some-get_mut.ensures.value in
    rw (← c.self.view_is) (c.take_edge-taken.ensures.answer
    ∙ sym (ap (λ (o : Option ThreadRecord). is_some (edge_in c.args.edge o)) (record_found slots positions t k old found there)))

pub returns-clause-crossed : goal.returns-clause-crossed
returns-clause-crossed c =
    let slots = c.self.inside.slots.items in
    let positions = c.self.inside.positions.entries in
    let t = c.args.thread.0 in
    let k = c.in-Some.position in
    let old = c.in-Some-get_mut.slot.now in
    let found = sym c.in-Some.ensures in
    let there = slot_read slots positions t k old c.self.invariant.0 found c.in-Some-get_mut.ensures.value in
    let new : Slot = record { number = old.number; kept = c.take_edge-taken.new.kept } in
    let is = record_found slots positions t k old found there in
    rw (c.give_back.ensures, ← c.self.view_is) (records-written slots positions t k old new c.self.invariant.0 c.self.invariant.1 found there refl
    ∙ ap (λ (r : ThreadRecord). map.insert (records_in slots positions) t r) c.take_edge-taken.ensures.crossed
    ∙ ap (crossed_in (records_in slots positions) c.args.thread c.args.edge) (sym is))
