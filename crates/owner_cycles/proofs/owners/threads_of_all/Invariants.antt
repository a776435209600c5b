use Rattle.std.proofs.Common.{◌≡◌, map, take, vec_items}
use Rattle.owner_cycles.specs.Threads.{thread_at_position}
use Rattle.owner_cycles.proofs.owners.threads_of_all.Given as goal

abbrev pub invariant-lists : goal.invariant-lists
invariant-lists l = map vec_items l.all.items ≡ map (map (thread_at_position l.threads)) (map vec_items (take l.positions-index l.lists))
