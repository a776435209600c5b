use Rattle.std.specs.List.{All}
use Rattle.live_threads.specs.Driving.{IsLive}
use Rattle.live_tests.proofs.threads.works.rounds.Given as goal

abbrev pub invariant-loop : goal.invariant-loop
invariant-loop l = All IsLive l.calls.items
