use Rattle.std.proofs.Common.{◌≡◌}
use Rattle.live_tests.proofs.threads.go_through.Given as goal

abbrev pub invariant-loop-who : goal.invariant-loop-who
invariant-loop-who g l = record {
  first : l.first.words.opening ≡ l.live;
  second : l.second.words.opening ≡ l.live;
}
