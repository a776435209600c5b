use Rattle.std.proofs.Common.{◌≡◌}
use Rattle.std.specs.List.{All}
use Rattle.live_threads.specs.Driving.{CanDrive}
use Rattle.long_run.proofs.passes.works_of.Given as goal

abbrev pub invariant-loop-plan : goal.invariant-loop-plan
invariant-loop-plan g l = record {
  here : All (λ p. p.words.opening ≡ l.live) l.passes.items;
  can : All (CanDrive l.live) l.works.items;
}
