use Rattle.std.proofs.Common.{◌≡◌, map}
use Rattle.lock_word.specs.declared.ThreadId.{ThreadId}
use Rattle.step_core.specs.declared.machine.Move.TheVariants as move
use Rattle.explore_java.specs.JavaRuns.{threads_below}
use Rattle.explore_runs.proofs.histories.attaches_of.Given as goal

abbrev pub invariant-threads : goal.invariant-threads
invariant-threads l = l.moves.items ≡ map (λ (t : ThreadId). move.Attach t) (threads_below l.thread)
