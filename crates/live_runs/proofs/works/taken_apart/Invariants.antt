use Rattle.std.proofs.Common.{◌≡◌, ◌≤◌, ◌+◌, ◌++◌, length, map, reverse, vec_capacity}
use Rattle.live_runs.specs.Runs.{told_in, told_in_row}
use Rattle.live_runs.proofs.works.taken_apart.Given as goal

abbrev pub invariant-loop-worked : goal.invariant-loop-worked
invariant-loop-worked g l = record {
  room : length l.worked.items + length l.passes.items ≤ vec_capacity l.passes;
  space : length l.worked.items + length l.told.items ≤ vec_capacity l.told;
  passes : map (λ d. d.pass) l.worked.items ++ reverse l.passes.items ≡ map (λ d. d.pass) l.fn.worked.items;
  told : map told_in l.worked.items ++ reverse (map told_in_row l.told.items) ≡ map told_in l.fn.worked.items;
}

abbrev pub decreases-loop-worked : goal.decreases-loop-worked
decreases-loop-worked g l = length l.worked.items
