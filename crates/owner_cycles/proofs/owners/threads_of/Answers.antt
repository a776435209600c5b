use Rattle.std.proofs.Common.{◌<◌, length, get_or, rules}
use Rattle.owner_cycles.proofs.Parts.{in_at}
use Rattle.owner_cycles.proofs.owners.threads_of.Goals as goal

pub bounds-threads-position : goal.bounds-threads-position
bounds-threads-position c = c.requires _ (in_at c.args.positions.now c.positions.position-index 0 c.positions-test.true)

pub offset_bounds-threads-position : goal.offset_bounds-threads-position
offset_bounds-threads-position c =
    let inside : get_or c.args.positions.now c.positions.position-index 0 < length c.args.threads.now = c.requires _ (in_at c.args.positions.now c.positions.position-index 0 c.positions-test.true) in search rules
