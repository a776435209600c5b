use Rattle.std.proofs.Common.{◌≡◌}
use Rattle.explore.specs.Allowed.{doing_at}
use Rattle.explore.specs.Searches.{IsSifted}
use Rattle.explore.proofs.choices.sift.Given as goal

abbrev pub invariant-sifting : goal.invariant-sifting
invariant-sifting l = record {
  sifted : IsSifted l.program l.state l.choices l.choice-index l.possible.items;
  known : l.doing ≡ doing_at l.state.world l.thread;
}
