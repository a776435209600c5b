-- What the fields of a checker show.
use Rattle.jls_check.specs.declared.machine.Machine.TheInside.{Inside}
use Rattle.jls_check.specs.MachineState.{MachineState}

abbrev pub machine_in : Inside → MachineState
machine_in a = record { threads = a.threads; objects = a.objects.items; moment = a.moment }
