use Rattle.jls_check.specs.MachineState.{state}
use Rattle.pictures.proofs.cycles.cycles_of.Goals as goal

pub cycles_along-requires : goal.cycles_along-requires
cycles_along-requires c = (state c.args.machine.now, record { rising = c.requires.rising; all = c.requires.all; nexts_are = rw c.deref.ensures.value c.in_ok-nexts.ensures })
