use Rattle.std.specs.Prelude.{◌≡◌, ℕ, ◌<◌, Some, length}
use Rattle.owner_cycles.specs.Rows.{IsWay, leads_to}
use Rattle.owner_cycles.proofs.Marks.{unseen}
use Rattle.owner_cycles.proofs.rows.walk_from.Given as goal

abbrev pub invariant-walk : goal.invariant-walk
invariant-walk l = record {
  way : IsWay (leads_to l.row) l.fn.seen l.seen (Some l.start) l.path.items l.at;
  within : (v : ℕ) → l.at ≡ Some v → v < length l.row;
}

abbrev pub decreases-walk : goal.decreases-walk
decreases-walk l = unseen l.seen
