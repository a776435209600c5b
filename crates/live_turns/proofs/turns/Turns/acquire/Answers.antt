use Rattle.std.specs.Prelude.{true, false}
use Rattle.std.proofs.Common.{refl, ap, sym, subst, ◌∙◌}
use Rattle.fast_path.specs.declared.calls.MonitorCall.{MonitorCall}
use Rattle.step_core.specs.declared.places.Place.TheVariants.{InCall}
use Rattle.step_core.specs.declared.places.Stage.TheVariants.{Begun, Taking, Won}
use Rattle.step_core.specs.declared.paths.Point.{Point}
use Rattle.step_core.specs.declared.paths.Point.TheVariants.{At}
use Rattle.live_turns.specs.declared.standings.Turned.{Turned}
use Rattle.live_turns.specs.Ways.{Holding, Went}
use Rattle.live_turns.proofs.Going.{went_then}
use Rattle.live_turns.proofs.Words.{win_way, lose_way}
use Rattle.live_turns.specs.Points.{Loaded}
use Rattle.live_turns.proofs.Visits.{event_visit, loaded_at}
use Rattle.live_turns.proofs.turns.Turns.acquire.Goals as goal

pub returns-then-not-acquire-clause-went : goal.returns-then-not-acquire-clause-went
returns-then-not-acquire-clause-went g c =
    let p : Holding = record { words = c.hand.inside.words; own = c.hand.inside.own.list.items } in
    let q : Holding = record { words = c.acquire.new.pass; own = c.hand.inside.own.list.items } in
    rw (← c.hand.view_is) (subst (λ (u : Point). Went (At (InCall (Taking c.args.object c.args.contended))) u p q) (sym (ap (λ (x : Turned). x.point) c.at.ensures ∙ ap (λ (d : MonitorCall). At (InCall (Begun d true))) c.entering-call.ensures))
    (lose_way c.args.object c.args.contended c.if-not-acquire.ensures.lost.0 p q c.if-not-acquire.ensures.lost.1 refl))

pub returns-then-contended-clause-went : goal.returns-then-contended-clause-went
returns-then-contended-clause-went g c =
    let p : Holding = record { words = c.hand.inside.words; own = c.hand.inside.own.list.items } in
    let q : Holding = record { words = c.acquire.new.pass; own = c.hand.inside.own.list.items } in
    rw (← c.hand.view_is, c.if-contended.true) (went_then (At (InCall (Taking c.args.object true))) (At (InCall (Won c.args.object))) c.turn_from_won.result.point p q c.turn_from_won.new.hand
    (win_way c.args.object true _ p q c.if-not-acquire.ensures.won refl) c.turn_from_won.ensures.went)

pub returns-clause-went : goal.returns-clause-went
returns-clause-went g c =
    let p : Holding = record { words = c.hand.inside.words; own = c.hand.inside.own.list.items } in
    let q : Holding = record { words = c.acquire.new.pass; own = c.hand.inside.own.list.items } in
    rw (← c.hand.view_is, c.if-contended.false) (subst (λ (u : Point). Went (At (InCall (Taking c.args.object false))) u p q) (sym (ap (λ (x : Turned). x.point) c.said.ensures))
    (win_way c.args.object false _ p q c.if-not-acquire.ensures.won refl))

pub returns-then-not-acquire-clause-loaded : goal.returns-then-not-acquire-clause-loaded
returns-then-not-acquire-clause-loaded g c =
    rw (← c.hand.view_is) (subst (λ (x : Turned). Loaded x.gate_taken x.point c.hand.inside.words c.acquire.new.pass) (sym c.at.ensures)
    (event_visit c.args.object.0 _ c.if-not-acquire.ensures.lost.0 c.hand.inside.words c.acquire.new.pass c.if-not-acquire.ensures.lost.1))

pub returns-then-contended-clause-loaded : goal.returns-then-contended-clause-loaded
returns-then-contended-clause-loaded g c =
    rw (← c.hand.view_is) (loaded_at c.turn_from_won.result.gate_taken c.turn_from_won.result.point c.hand.inside.words c.acquire.new.pass c.turn_from_won.new.hand.words
    (event_visit c.args.object.0 _ _ c.hand.inside.words c.acquire.new.pass c.if-not-acquire.ensures.won).1 c.turn_from_won.ensures.did)

pub returns-clause-loaded : goal.returns-clause-loaded
returns-clause-loaded g c =
    rw (← c.hand.view_is) (subst (λ (x : Turned). Loaded x.gate_taken x.point c.hand.inside.words c.acquire.new.pass) (sym c.said.ensures) tt)
