use Rattle.std.specs.Prelude.{◌<◌, false, length, None, Ok}
use Rattle.std.proofs.Common.{refl, sym, subst}
use Rattle.fat_monitor.specs.declared.actions.Reply.TheVariants as reply
use Rattle.header_words.specs.Passes.{Opening}
use Rattle.step_core.specs.declared.places.Place.TheVariants.{InCall}
use Rattle.step_core.specs.declared.places.Stage.TheVariants.{Won}
use Rattle.step_core.specs.declared.paths.Point.TheVariants.{At, Said}
use Rattle.live_turns.specs.declared.standings.Turned.{Turned}
use Rattle.live_turns.specs.Points.{IsTurnFrom}
use Rattle.live_turns.proofs.TurnLaws.{turned_away, held_turn}
use Rattle.live_turns.proofs.turns.Turns.turn_from_won.Goals as goal

pub returns-in_default : goal.returns-in_default
returns-in_default g c =
    turned_away c.args.self.now (At (InCall (Won c.args.object))) c.at.result c.args.hand.now c.take.new.hand c.requires.belongs c.at.ensures refl
    (subst (λ (o : Opening). c.args.object.0 < length o.lows) (sym c.requires.belongs.0) c.requires.object, c.requires.holds) c.in_default.ensures

pub returns : goal.returns
returns g c =
    subst (λ (x : Turned). IsTurnFrom c.args.self.now (At (InCall (Won c.args.object))) (Ok x) c.args.hand.now c.give.new.hand) (sym c.said.ensures)
    (held_turn c.args.self.now (At (InCall (Won c.args.object))) (Ok (record { point = Said reply.Entered; gate_taken = false; granted = None })) c.args.hand.now c.take.new.hand c.inflate_won.new.hand c.give.new.hand
    c.requires.belongs c.in-Some.ensures.0 c.inflate_won.ensures.visit c.give.ensures.gave c.give.ensures.belongs refl c.inflate_won.ensures.went tt (refl, tt))
