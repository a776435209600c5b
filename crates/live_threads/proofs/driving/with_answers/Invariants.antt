use Rattle.std.proofs.Common.{◌≡◌, ◌≤◌, ◌+◌, ◌++◌, length, map, reverse, vec_capacity}
use Rattle.live_threads.proofs.driving.with_answers.Given as goal

abbrev pub invariant-loop-work : goal.invariant-loop-work
invariant-loop-work g l = record {
  back_room : length l.works.items + length l.jobs.items ≤ vec_capacity l.works;
  room : length l.works.items + length l.jobs.items ≤ vec_capacity l.jobs;
  row : l.works.items ++ reverse (map (λ j. j.work) l.jobs.items) ≡ l.fn.works.items;
}

abbrev pub decreases-loop-work : goal.decreases-loop-work
decreases-loop-work g l = length l.works.items
