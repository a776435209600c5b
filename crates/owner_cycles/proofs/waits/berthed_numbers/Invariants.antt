use Rattle.owner_cycles.specs.Threads.{HaveBerths}
use Rattle.owner_cycles.proofs.waits.berthed_numbers.Given as goal

abbrev pub invariant-berths : goal.invariant-berths
invariant-berths l = HaveBerths l.world.berths l.berth l.numbers.items
