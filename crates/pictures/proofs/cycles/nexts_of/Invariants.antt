use Rattle.std.proofs.Common.{◌≡◌, map, take}
use Rattle.jls_check.specs.MachineState.{state}
use Rattle.step_core.specs.Cycles.{next}
use Rattle.pictures.proofs.cycles.nexts_of.Given as goal

abbrev pub invariant-threads : goal.invariant-threads
invariant-threads l = l.nexts.items ≡ map (next (state l.machine)) (take l.thread-index l.threads)
