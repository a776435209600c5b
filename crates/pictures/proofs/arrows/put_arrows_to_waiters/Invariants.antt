use Rattle.std.proofs.Common.{◌≡◌, ◌++◌, take}
use Rattle.std.specs.List.{flat_map}
use Rattle.jls_check.specs.MachineState.{state}
use Rattle.pictures.specs.Arrows.{arrow_to_waiter}
use Rattle.pictures.proofs.arrows.put_arrows_to_waiters.Given as goal

abbrev pub invariant-threads : goal.invariant-threads
invariant-threads l = l.arrows.items ≡ l.fn.arrows.items ++ flat_map (arrow_to_waiter (state l.machine) l.column l.from l.object) (take l.thread-index l.threads)
