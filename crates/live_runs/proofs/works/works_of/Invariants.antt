use Rattle.std.proofs.Common.{◌≡◌, ◌≤◌, ◌+◌, ◌++◌, length, map, reverse, vec_capacity}
use Rattle.live_runs.proofs.works.works_of.Given as goal

abbrev pub invariant-loop-pass : goal.invariant-loop-pass
invariant-loop-pass g l = record {
  len : length l.rows.items ≡ length l.passes.items;
  room : length l.passes.items + length l.works.items ≤ vec_capacity l.works;
  passes : l.passes.items ++ reverse (map (λ w. w.pass) l.works.items) ≡ l.fn.passes.items;
  calls : l.rows.items ++ reverse (map (λ w. w.calls) l.works.items) ≡ l.fn.rows.items;
}

abbrev pub decreases-loop-pass : goal.decreases-loop-pass
decreases-loop-pass g l = length l.passes.items
