use Rattle.std.proofs.Common.{◌≡◌, ◌∙◌, sym, subst, rules}
use Rattle.step_core.specs.declared.paths.Point.{Point}
use Rattle.step_core.specs.declared.paths.Point.TheVariants.{Said}
use Rattle.live_turns.specs.Ways.{Went}
use Rattle.live_turns.proofs.Going.{went_then, halted_then}
use Rattle.live_threads.proofs.Calling.{said_at, rests_there}
use Rattle.live_threads.proofs.live.Live.finish.Goals as goal

pub loop-preserved : goal.loop-preserved
loop-preserved g c =
    let same : c.turn.new.pass.point ≡ c.in_ok-turned.turned.point = c.in_ok-turned.ensures.point
    ∙ rests_there c.in_ok-turned.turned.gate_taken c.in_ok-turned.turned.point (λ r e. c.in_default.not-Said r (c.standing-standing.ensures ∙ e)) in
    record {
      here = c.in_ok-turned.ensures.belongs.0 ∙ c.self.view_is;
      gate = c.in_ok-turned.ensures.belongs.1;
      went = went_then c.args.pass.now.point c.loop.pass.point c.turn.new.pass.point c.args.pass.now.holding c.loop.pass.holding c.turn.new.pass.holding c.loop.invariant.went
          (subst (λ (s : Point). Went c.loop.pass.point s c.loop.pass.holding c.turn.new.pass.holding) (sym same) c.in_ok-turned.ensures.went);
    }

pub returns-in-Said-clause-went : goal.returns-in-Said-clause-went
returns-in-Said-clause-went g c =
    let said : c.in_ok-turned.turned.point ≡ Said c.in-Said.reply =
    said_at c.in_ok-turned.turned.gate_taken c.in_ok-turned.turned.point c.in-Said.reply (sym c.standing-standing.ensures ∙ c.in-Said.is) in
    went_then c.args.pass.now.point c.loop.pass.point (Said c.in-Said.reply) c.args.pass.now.holding c.loop.pass.holding c.turn.new.pass.holding c.loop.invariant.went
    (subst (λ (s : Point). Went c.loop.pass.point s c.loop.pass.holding c.turn.new.pass.holding) said c.in_ok-turned.ensures.went)

pub returns-in_err-turned-clause-halted : goal.returns-in_err-turned-clause-halted
returns-in_err-turned-clause-halted g c =
    let halted =
    halted_then c.in_err-turned.field-0.0 c.args.pass.now.point c.loop.pass.point c.args.pass.now.holding c.loop.pass.holding c.turn.new.pass.holding c.loop.invariant.went c.in_err-turned.ensures.fault in
    search (rules, halted)
