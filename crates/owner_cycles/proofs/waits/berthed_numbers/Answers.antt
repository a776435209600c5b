use Rattle.owner_cycles.proofs.Berths.{berths_more}
use Rattle.owner_cycles.proofs.waits.berthed_numbers.Goals as goal

pub berths-preserved : goal.berths-preserved
berths-preserved c =
    rw c.in_ok-add_holder.ensures (berths_more c.args.world.now.berths c.berths.berth c.berths.numbers.items c.thread_at.result c.berths.invariant c.thread_at.ensures)
