use Rattle.std.proofs.Common.{◌≡◌, ◌≤◌, ◌-◌, length, take}
use Rattle.explore.specs.Trails.{AreReached, choices_along}
use Rattle.explore.proofs.trail.Trail.walk_on.Given as goal

abbrev pub invariant-walking : goal.invariant-walking
invariant-walking l = record {
  reached : AreReached l.program l.self.reached.items;
  within : length l.self.reached.items ≤ length l.choices;
  same : choices_along l.self.reached.items ≡ take (length l.self.reached.items) l.choices;
}

abbrev pub decreases-walking : goal.decreases-walking
decreases-walking l = length l.choices - length l.self.reached.items
