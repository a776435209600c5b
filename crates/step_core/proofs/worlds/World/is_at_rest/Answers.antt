use Rattle.step_core.proofs.Relaying.Whole.{rest_fails}
use Rattle.step_core.proofs.worlds.World.is_at_rest.Goals as goal

pub returns-then-not-rests : goal.returns-then-not-rests
returns-then-not-rests c =
    rest_fails c.args.self.now c.loop-berth.berth _ c.rests.result (rw c.indices-berth-end.ensures at c.loop-berth-test.true) c.loop-berth.invariant c.rests.ensures c.if-not-rests.true
