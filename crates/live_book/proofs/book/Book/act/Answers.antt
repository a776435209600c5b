use Rattle.std.specs.Prelude.{◌<◌, length, Ok, Err}
use Rattle.std.proofs.Common.{arith, ap, sym, ◌∙◌, subst}
use Rattle.fat_monitor.specs.declared.actions.ActFault.{ActFault}
use Rattle.fat_monitor.specs.FatState.{FatState}
use Rattle.fat_monitor.proofs.MonitorEffects.{limit-outcome_of}
use Rattle.live_book.specs.Book.{BookState, told}
use Rattle.live_book.proofs.Refusals.{refused_after, done_after}
use Rattle.live_book.proofs.Books.{acts_on, act_answer-full, act_answer-told}
use Rattle.live_book.proofs.book.Book.act.Goals as goal

pub overflow_sub-self : goal.overflow_sub-self
overflow_sub-self c =
    (acts_on (record { fats = c.self.inside.fats; log = c.self.inside.log.items; passes = c.self.inside.passes; places = c.self.inside.places }) c.args.self.now c.args.thread c.args.action
    c.in-Ok.done c.act_in_place.new.self c.self.inside.kept c.free.result c.need.result c.gained-gained.result c.freed-freed.result c.waiting-waited.result c.waiting.result
    c.self.view_is c.self.invariant.0 c.self.invariant.1 c.requires.thread c.requires.action c.requires.ready c.requires.bound c.free.ensures.free c.need.ensures
    c.if-free-need.false c.in-Ok.ensures.table c.in-Ok.ensures.sound c.waiting-waited.ensures c.waiting.ensures c.gained-gained.ensures c.freed-freed.ensures).within

pub push_reserved-requires : goal.push_reserved-requires
push_reserved-requires c =
    let more =
    (acts_on (record { fats = c.self.inside.fats; log = c.self.inside.log.items; passes = c.self.inside.passes; places = c.self.inside.places }) c.args.self.now c.args.thread c.args.action
    c.in-Ok.done c.act_in_place.new.self c.self.inside.kept c.free.result c.need.result c.gained-gained.result c.freed-freed.result c.waiting-waited.result c.waiting.result
    c.self.view_is c.self.invariant.0 c.self.invariant.1 c.requires.thread c.requires.action c.requires.ready c.requires.bound c.free.ensures.free c.need.ensures
    c.if-free-need.false c.in-Ok.ensures.table c.in-Ok.ensures.sound c.waiting-waited.ensures c.waiting.ensures c.gained-gained.ensures c.freed-freed.ensures).place in
    let capacity = c.self.invariant.2 in
    omega arith

pub invariant_of-self : goal.invariant_of-self
invariant_of-self c =
    let acts =
    acts_on (record { fats = c.self.inside.fats; log = c.self.inside.log.items; passes = c.self.inside.passes; places = c.self.inside.places }) c.args.self.now c.args.thread c.args.action
    c.in-Ok.done c.act_in_place.new.self c.self.inside.kept c.free.result c.need.result c.gained-gained.result c.freed-freed.result c.waiting-waited.result c.waiting.result
    c.self.view_is c.self.invariant.0 c.self.invariant.1 c.requires.thread c.requires.action c.requires.ready c.requires.bound c.free.ensures.free c.need.ensures
    c.if-free-need.false c.in-Ok.ensures.table c.in-Ok.ensures.sound c.waiting-waited.ensures c.waiting.ensures c.gained-gained.ensures c.freed-freed.ensures in (
      rw c.push_reserved.ensures.items acts.is,
      acts.kept_now,
      rw c.push_reserved.ensures.capacity c.self.invariant.2,
    )

pub invariant_of-self-in-Err-NotDue : goal.invariant_of-self-in-Err-NotDue
invariant_of-self-in-Err-NotDue c = rw (refused_after c.self.inside.fats c.act_in_place.new.self c.args.thread c.args.action _ c.in-Err-NotDue.ensures.table) c.self.invariant

pub invariant_of-self-in-Err-Parked : goal.invariant_of-self-in-Err-Parked
invariant_of-self-in-Err-Parked c = rw (refused_after c.self.inside.fats c.act_in_place.new.self c.args.thread c.args.action _ c.in-Err-Parked.ensures.table) c.self.invariant

pub returns-in-Ok-clause-limit : goal.returns-in-Ok-clause-limit
returns-in-Ok-clause-limit c =
    ap (λ (f : FatState). f.limit) (done_after c.self.inside.fats c.act_in_place.new.self c.args.thread c.args.action (Ok c.in-Ok.done) c.in-Ok.ensures.table)
    ∙ (limit-outcome_of c.self.inside.fats c.args.thread c.args.action ∙ ap (λ (b : BookState). b.fats.limit) c.self.view_is)

pub returns-in-Ok-clause-place : goal.returns-in-Ok-clause-place
returns-in-Ok-clause-place c =
    let one =
    (acts_on (record { fats = c.self.inside.fats; log = c.self.inside.log.items; passes = c.self.inside.passes; places = c.self.inside.places }) c.args.self.now c.args.thread c.args.action
    c.in-Ok.done c.act_in_place.new.self c.self.inside.kept c.free.result c.need.result c.gained-gained.result c.freed-freed.result c.waiting-waited.result c.waiting.result
    c.self.view_is c.self.invariant.0 c.self.invariant.1 c.requires.thread c.requires.action c.requires.ready c.requires.bound c.free.ensures.free c.need.ensures
    c.if-free-need.false c.in-Ok.ensures.table c.in-Ok.ensures.sound c.waiting-waited.ensures c.waiting.ensures c.gained-gained.ensures c.freed-freed.ensures).place in
    let less : length c.self.inside.log.items < c.self.inside.places = omega arith in
    subst (λ (b : BookState). length b.log < b.places) c.self.view_is less

pub returns-then-free-need-clause-answer : goal.returns-then-free-need-clause-answer
returns-then-free-need-clause-answer c = act_answer-full c.args.self.now c.args.thread c.args.action _ _ c.free.ensures.free c.need.ensures c.if-free-need.true

pub returns-in-Ok-clause-answer : goal.returns-in-Ok-clause-answer
returns-in-Ok-clause-answer c =
    act_answer-told c.self.inside.fats c.args.self.now c.args.thread c.args.action c.act_in_place.new.self (Ok c.in-Ok.done) _ _
    (ap (λ (b : BookState). b.fats) c.self.view_is) c.free.ensures.free c.need.ensures c.if-free-need.false c.in-Ok.ensures.table

pub returns-in-Err-NotDue-clause-answer : goal.returns-in-Err-NotDue-clause-answer
returns-in-Err-NotDue-clause-answer c =
    ap (λ (e : ActFault). told (Err e)) (sym c.in-Err-NotDue.field-0-is)
    ∙ act_answer-told c.self.inside.fats c.args.self.now c.args.thread c.args.action c.act_in_place.new.self (Err c.in-Err-NotDue.field-0) _ _
    (ap (λ (b : BookState). b.fats) c.self.view_is) c.free.ensures.free c.need.ensures c.if-free-need.false c.in-Err-NotDue.ensures.table
