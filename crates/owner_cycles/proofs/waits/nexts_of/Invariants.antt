use Rattle.std.proofs.Common.{◌≡◌, map, take}
use Rattle.step_core.specs.Cycles.{next}
use Rattle.step_core.specs.Shown.{shown}
use Rattle.owner_cycles.proofs.waits.nexts_of.Given as goal

abbrev pub invariant-threads : goal.invariant-threads
invariant-threads l = l.nexts.items ≡ map (next (shown l.world)) (take l.thread-index l.threads)
