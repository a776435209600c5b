use Rattle.std.specs.Prelude.{◌≡◌, length, false}
use Rattle.std.proofs.Common.{refl, ap, sym, ◌∙◌, subst}
use Rattle.fat_monitor.specs.Binding.{Binding as Receipt}
use Rattle.step_core.specs.declared.places.Place.TheVariants.{InCall}
use Rattle.step_core.specs.declared.places.Stage.TheVariants.{Binding, Inflated}
use Rattle.step_core.specs.declared.paths.Point.{Point}
use Rattle.step_core.specs.declared.paths.Point.TheVariants.{At}
use Rattle.live_turns.specs.declared.standings.Turned.{Turned}
use Rattle.live_book.specs.Book.{bindings}
use Rattle.live_turns.specs.Ways.{Went}
use Rattle.live_turns.proofs.Going.{inflated_way, refused_way, halted_here}
use Rattle.live_turns.proofs.Gates.{covers_kept, covers_bound, binds_bound, may_halt, gave_up_after, ok_after}
use Rattle.live_turns.proofs.Refusing.{full_behind}
use Rattle.live_turns.proofs.Visits.{visit_same, same_visit}
use Rattle.live_turns.proofs.turns.Turns.inflate_and_act.Goals as goal

pub publish-requires-clause-bound : goal.publish-requires-clause-bound
publish-requires-clause-bound g c =
    binds_bound (bindings c.args.desk.now.value.book) (bindings c.bind.new.desk.value.book) c.args.call.object c.in-Ok.receipt.monitor c.in-Ok.ensures.noted.bound (ap (λ (b : Receipt). b.monitor) c.in-Ok.ensures.noted.receipt)

pub act_on-requires : goal.act_on-requires
act_on-requires g c =
    let value : c.monitor-monitor.result ≡ c.in-Ok.receipt.monitor = c.monitor-monitor.ensures.value in
    record {
      binds = rw value (binds_bound (bindings c.args.desk.now.value.book) (bindings c.bind.new.desk.value.book) c.args.call.object c.in-Ok.receipt.monitor c.in-Ok.ensures.noted.bound
          (ap (λ (b : Receipt). b.monitor) c.in-Ok.ensures.noted.receipt));
    }

pub returns-in-Ok-clause-covers : goal.returns-in-Ok-clause-covers
returns-in-Ok-clause-covers g c =
    let xs = bindings c.args.desk.now.value.book in
    let ys = bindings c.bind.new.desk.value.book in
    let number = ap (λ (b : Receipt). b.monitor) c.in-Ok.ensures.noted.receipt in
    covers_kept ys (bindings c.act_on.new.desk.value.book) c.publish.new.hand.words c.act_on.new.self.words c.act_on.ensures.inflated.bound c.act_on.ensures.inflated.words
    (c.publish.ensures.covers ys (covers_bound xs ys c.args.call.object c.bind.new.self.words.seen c.in-Ok.ensures.noted.bound (covers_kept xs xs c.args.hand.now.words c.bind.new.self.words refl c.bind.ensures.words c.requires.covers))
    (binds_bound xs ys c.args.call.object c.in-Ok.receipt.monitor c.in-Ok.ensures.noted.bound number))

pub returns-in-Ok-clause-went : goal.returns-in-Ok-clause-went
returns-in-Ok-clause-went g c =
    let a = c.args in
    let m = length (bindings c.args.desk.now.value.book) in
    let number = ap (λ (b : Receipt). b.monitor) c.in-Ok.ensures.noted.receipt in
    let value : c.monitor-monitor.result ≡ c.in-Ok.receipt.monitor = c.monitor-monitor.ensures.value in
    ok_after c.act_on.result (At (InCall (Binding a.call a.count))) (At (InCall (Inflated a.call c.in-Ok.receipt.monitor))) c.args.hand.now c.publish.new.hand c.act_on.new.self
    (inflated_way a.call a.count m c.in-Ok.receipt.monitor c.args.hand.now c.bind.new.self c.publish.new.hand number c.bind.ensures.words c.in-Ok.ensures.noted.noted (c.publish.ensures.went false))
    (rw value at c.act_on.ensures.inflated.went)

pub returns-in-Ok-clause-full : goal.returns-in-Ok-clause-full
returns-in-Ok-clause-full g c =
    full_behind c.act_on.result c.args.desk.now.value.book c.args.call c.monitor-monitor.result c.publish.new.hand c.act_on.new.self c.act_on.ensures.inflated.went

pub returns-in-Ok-clause-halted : goal.returns-in-Ok-clause-halted
returns-in-Ok-clause-halted g c =
    let a = c.args in
    let m = length (bindings c.args.desk.now.value.book) in
    let number = ap (λ (b : Receipt). b.monitor) c.in-Ok.ensures.noted.receipt in
    gave_up_after c.act_on.result (At (InCall (Binding a.call a.count))) (Inflated a.call c.in-Ok.receipt.monitor) c.args.hand.now c.publish.new.hand c.act_on.new.self
    (inflated_way a.call a.count m c.in-Ok.receipt.monitor c.args.hand.now c.bind.new.self c.publish.new.hand number c.bind.ensures.words c.in-Ok.ensures.noted.noted (c.publish.ensures.went false))
    tt c.act_on.ensures.inflated.words c.act_on.ensures.inflated.none c.act_on.ensures.inflated.fault

pub returns-in-Ok-clause-visit : goal.returns-in-Ok-clause-visit
returns-in-Ok-clause-visit g c =
    visit_same c.args.hand.now.words c.publish.new.hand.words c.act_on.new.self.words (rw c.bind.ensures.words at c.publish.ensures.visit) c.act_on.ensures.inflated.words

pub returns-in-Err-Cause-clause-covers : goal.returns-in-Err-Cause-clause-covers
returns-in-Err-Cause-clause-covers g c =
    covers_kept (bindings c.args.desk.now.value.book) (bindings c.bind.new.desk.value.book) c.args.hand.now.words c.bind.new.self.words c.in-Err-Cause.ensures.noted.same c.bind.ensures.words c.requires.covers

pub returns-in-Err-Cause-clause-went : goal.returns-in-Err-Cause-clause-went
returns-in-Err-Cause-clause-went g c =
    subst (λ (u : Point). Went (At (InCall (Binding c.args.call c.args.count))) u c.args.hand.now c.bind.new.self) (sym (ap (λ (x : Turned). x.point) c.said.ensures))
    (refused_way c.args.call c.args.count _ c.args.hand.now c.bind.new.self
    (c.in-Err-Cause.cause-is ∙ (rw c.in-Err-Cause.field-0-is at c.in-Err-Cause.ensures.noted.fault).0) c.bind.ensures.words c.in-Err-Cause.ensures.noted.none)

pub returns-in-Err-Cause-clause-visit : goal.returns-in-Err-Cause-clause-visit
returns-in-Err-Cause-clause-visit g c = same_visit c.args.hand.now.words c.bind.new.self.words c.bind.ensures.words

pub returns-in-Err-Fault-clause-covers : goal.returns-in-Err-Fault-clause-covers
returns-in-Err-Fault-clause-covers g c =
    covers_kept (bindings c.args.desk.now.value.book) (bindings c.bind.new.desk.value.book) c.args.hand.now.words c.bind.new.self.words c.in-Err-Fault.ensures.noted.same c.bind.ensures.words c.requires.covers

pub returns-in-Err-Fault-clause-halted : goal.returns-in-Err-Fault-clause-halted
returns-in-Err-Fault-clause-halted g c =
    rw c.in-Err-Fault.fault-is (halted_here c.in-Err-Fault.fault (At (InCall (Binding c.args.call c.args.count))) c.args.hand.now c.bind.new.self
    (may_halt c.in-Err-Fault.fault (Binding c.args.call c.args.count) (rw c.in-Err-Fault.field-0-is at c.in-Err-Fault.ensures.noted.fault) tt) c.bind.ensures.words c.in-Err-Fault.ensures.noted.none)

pub returns-in-Err-Fault-clause-visit : goal.returns-in-Err-Fault-clause-visit
returns-in-Err-Fault-clause-visit g c = same_visit c.args.hand.now.words c.bind.new.self.words c.bind.ensures.words
