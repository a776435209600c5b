use Rattle.std.proofs.Common.{◌≡◌, ◌≤◌, ◌+◌, ◌++◌, length, map, reverse, vec_capacity}
use Rattle.live_threads.proofs.driving.taken_back.Given as goal

abbrev pub invariant-loop-job : goal.invariant-loop-job
invariant-loop-job g l = record {
  room : length l.works.items + length l.jobs.items ≤ vec_capacity l.works;
  row : l.works.items ++ reverse (map (λ j. j.work) l.jobs.items) ≡ l.fn.works.items ++ reverse (map (λ j. j.work) l.fn.jobs.items);
}

abbrev pub decreases-loop-job : goal.decreases-loop-job
decreases-loop-job g l = length l.jobs.items
