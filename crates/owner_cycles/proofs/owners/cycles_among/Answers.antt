use Rattle.std.proofs.Common.{rules}
use Rattle.step_core.specs.Shown.{shown}
use Rattle.owner_cycles.proofs.owners.cycles_among.Goals as goal

pub cycles_along-requires : goal.cycles_along-requires
cycles_along-requires c = (shown c.args.world.now, record { rising = c.requires.rising; all = c.requires.all; nexts_are = rw c.deref.ensures.value c.in_ok-nexts.ensures })

pub returns : goal.returns
returns c = search rules
