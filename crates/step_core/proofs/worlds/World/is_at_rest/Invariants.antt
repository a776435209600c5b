use Rattle.std.proofs.Common.{◌≡◌, true}
use Rattle.step_core.specs.Relayout.{rest_below}
use Rattle.step_core.proofs.worlds.World.is_at_rest.Given as goal

abbrev pub invariant-loop-berth : goal.invariant-loop-berth
invariant-loop-berth l = rest_below l.self l.berth ≡ true
