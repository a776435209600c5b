use Rattle.std.proofs.Common.{refl}
use Rattle.step_core.specs.declared.places.Place.TheVariants.{InCall}
use Rattle.step_core.specs.declared.places.Stage.TheVariants.{Direct}
use Rattle.step_core.specs.declared.paths.Point.TheVariants.{At}
use Rattle.live_book.specs.Book.{bindings}
use Rattle.live_turns.proofs.Gates.{covers_kept, gave_up}
use Rattle.live_turns.proofs.TurnLaws.{turned_away, held_turn}
use Rattle.live_turns.proofs.Visits.{same_visit}
use Rattle.live_turns.proofs.turns.Turns.turn_from_direct.Goals as goal

pub give-requires-clause-covers : goal.give-requires-clause-covers
give-requires-clause-covers g c =
    covers_kept (bindings c.in-Some.desk.value.book) (bindings c.act_about-told.new.desk.value.book) c.take.new.hand.words c.act_about-told.new.self.words
    c.act_about-told.ensures.bound c.act_about-told.ensures.words c.in-Some.ensures.2

pub returns-in_default : goal.returns-in_default
returns-in_default g c = turned_away c.args.self.now (At (InCall (Direct c.args.call))) c.at.result c.args.hand.now c.take.new.hand c.requires.belongs c.at.ensures refl tt c.in_default.ensures

pub returns : goal.returns
returns g c =
    held_turn c.args.self.now (At (InCall (Direct c.args.call))) c.act_about-told.result c.args.hand.now c.take.new.hand c.act_about-told.new.self c.give.new.hand c.requires.belongs
    c.in-Some.ensures.0 (same_visit c.take.new.hand.words c.act_about-told.new.self.words c.act_about-told.ensures.words) c.give.ensures.gave c.give.ensures.belongs refl c.act_about-told.ensures.went
    (gave_up c.act_about-told.result (Direct c.args.call) c.take.new.hand c.act_about-told.new.self tt c.act_about-told.ensures.words c.act_about-told.ensures.none c.act_about-told.ensures.fault)
    c.act_about-told.ensures.rests
