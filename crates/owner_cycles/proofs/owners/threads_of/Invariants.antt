use Rattle.std.proofs.Common.{◌≡◌, map, take}
use Rattle.owner_cycles.specs.Threads.{thread_at_position}
use Rattle.owner_cycles.proofs.owners.threads_of.Given as goal

abbrev pub invariant-positions : goal.invariant-positions
invariant-positions l = l.found.items ≡ map (thread_at_position l.threads) (take l.position-index l.positions)
