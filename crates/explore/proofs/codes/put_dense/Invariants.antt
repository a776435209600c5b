use Rattle.std.proofs.Common.{◌≡◌, ◌++◌, ◌≤◌, ◌-◌, drop, length}
use Rattle.explore.specs.Codes.{dense}
use Rattle.explore.proofs.codes.put_dense.Given as goal

abbrev pub invariant-numbers : goal.invariant-numbers
invariant-numbers l = record {
  within : l.at ≤ length l.numbers;
  rest : l.bytes.items ++ dense (drop l.at l.numbers) ≡ dense l.numbers;
}

abbrev pub decreases-numbers : goal.decreases-numbers
decreases-numbers l = length l.numbers - l.at
