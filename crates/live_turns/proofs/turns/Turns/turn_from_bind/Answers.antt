use Rattle.std.specs.Prelude.{◌<◌, length}
use Rattle.std.proofs.Common.{refl, sym, subst}
use Rattle.header_words.specs.Passes.{Opening}
use Rattle.step_core.specs.declared.places.Place.TheVariants.{InCall}
use Rattle.step_core.specs.declared.places.Stage.TheVariants.{Binding}
use Rattle.step_core.specs.declared.paths.Point.TheVariants.{At}
use Rattle.live_turns.proofs.TurnLaws.{turned_away, held_turn}
use Rattle.live_turns.proofs.turns.Turns.turn_from_bind.Goals as goal

pub returns-in_default : goal.returns-in_default
returns-in_default g c =
    turned_away c.args.self.now (At (InCall (Binding c.args.call c.args.count))) c.at.result c.args.hand.now c.take.new.hand c.requires.belongs c.at.ensures refl
    (subst (λ (o : Opening). c.args.call.object.0 < length o.lows) (sym c.requires.belongs.0) c.requires.object, c.requires.holds, c.requires.few) c.in_default.ensures

pub returns : goal.returns
returns g c =
    held_turn c.args.self.now (At (InCall (Binding c.args.call c.args.count))) c.inflate_and_act-told.result c.args.hand.now c.take.new.hand c.inflate_and_act-told.new.hand c.give.new.hand c.requires.belongs
    c.in-Some.ensures.0 c.inflate_and_act-told.ensures.visit c.give.ensures.gave c.give.ensures.belongs refl c.inflate_and_act-told.ensures.went c.inflate_and_act-told.ensures.halted
    c.inflate_and_act-told.ensures.rests
