use Rattle.std.proofs.Common.{◌≡◌, ◌≤◌, length, take}
use Rattle.explore.specs.Trails.{choices_along}
use Rattle.explore.proofs.trail.Trail.shared_with.Given as goal

abbrev pub invariant-comparing : goal.invariant-comparing
invariant-comparing l = record {
  here : l.shared ≡ l.reached-index;
  within : l.shared ≤ length l.choices;
  same : choices_along (take l.shared l.self.reached.items) ≡ take l.shared l.choices;
}
