use Rattle.std.proofs.Common.{◌≡◌}
use Rattle.long_run.proofs.keeping.go_on.Given as goal

abbrev pub invariant-loop : goal.invariant-loop
invariant-loop g l = l.pass.words.opening ≡ l.live
