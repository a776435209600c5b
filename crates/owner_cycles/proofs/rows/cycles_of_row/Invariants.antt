use Rattle.std.specs.Prelude.{map, vec_items}
use Rattle.owner_cycles.proofs.RowWalks.{AreListed}
use Rattle.owner_cycles.proofs.rows.cycles_of_row.Given as goal

abbrev pub invariant-starts : goal.invariant-starts
invariant-starts l = AreListed l.row l.seen.items (map vec_items l.cycles.items) l.start
