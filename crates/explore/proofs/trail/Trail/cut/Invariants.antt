use Rattle.std.proofs.Common.{◌≡◌, take, length}
use Rattle.explore.proofs.trail.Trail.cut.Given as goal

abbrev pub invariant-cutting : goal.invariant-cutting
invariant-cutting l = record {
  first : l.self.reached.items ≡ take (length l.self.reached.items) l.fn.self.reached.items;
  enough : take l.most l.self.reached.items ≡ take l.most l.fn.self.reached.items;
}

abbrev pub decreases-cutting : goal.decreases-cutting
decreases-cutting l = goal.left-cutting l
