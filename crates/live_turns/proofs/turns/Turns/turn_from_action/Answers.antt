use Rattle.std.proofs.Common.{refl}
use Rattle.step_core.specs.declared.places.Place.TheVariants.{InCall}
use Rattle.step_core.specs.declared.places.Stage.TheVariants.{Acting}
use Rattle.step_core.specs.declared.paths.Point.TheVariants.{At}
use Rattle.live_book.specs.Book.{bindings}
use Rattle.live_turns.proofs.Gates.{published_still, covers_kept, gave_up}
use Rattle.live_turns.proofs.TurnLaws.{turned_away, held_turn}
use Rattle.live_turns.proofs.Visits.{same_visit}
use Rattle.live_turns.proofs.turns.Turns.turn_from_action.Goals as goal

pub act_on-told-requires : goal.act_on-told-requires
act_on-told-requires g c = record {
  binds =
      published_still (bindings c.in-Some.desk.value.book) c.args.monitor c.args.call.object.0 c.args.hand.now.words c.take.new.hand.words c.in-Some.ensures.0.0 c.in-Some.ensures.2
      c.requires.published;
}

pub give-requires-clause-covers : goal.give-requires-clause-covers
give-requires-clause-covers g c =
    covers_kept (bindings c.in-Some.desk.value.book) (bindings c.act_on-told.new.desk.value.book) c.take.new.hand.words c.act_on-told.new.self.words
    c.act_on-told.ensures.acting.bound c.act_on-told.ensures.acting.words c.in-Some.ensures.2

pub returns-in_default : goal.returns-in_default
returns-in_default g c =
    turned_away c.args.self.now (At (InCall (Acting c.args.call c.args.monitor))) c.at.result c.args.hand.now c.take.new.hand c.requires.belongs c.at.ensures refl c.requires.published c.in_default.ensures

pub returns : goal.returns
returns g c =
    held_turn c.args.self.now (At (InCall (Acting c.args.call c.args.monitor))) c.act_on-told.result c.args.hand.now c.take.new.hand c.act_on-told.new.self c.give.new.hand c.requires.belongs
    c.in-Some.ensures.0 (same_visit c.take.new.hand.words c.act_on-told.new.self.words c.act_on-told.ensures.acting.words) c.give.ensures.gave c.give.ensures.belongs refl c.act_on-told.ensures.acting.went
    (gave_up c.act_on-told.result (Acting c.args.call c.args.monitor) c.take.new.hand c.act_on-told.new.self tt c.act_on-told.ensures.acting.words c.act_on-told.ensures.acting.none c.act_on-told.ensures.acting.fault)
    c.act_on-told.ensures.acting.rests
