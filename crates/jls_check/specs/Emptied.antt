-- A checker without the wait set of an object.
use Rattle.lock_word.specs.declared.ObjectId.{ObjectId}
use Rattle.jls_check.specs.LiveThreads.{all_back}
use Rattle.jls_check.specs.Monitors.{with_waiting}
use Rattle.jls_check.specs.MachineState.{MachineState}

-- every member of the wait set of o has left it, and none is counted
abbrev pub emptied : MachineState → ObjectId → MachineState
emptied v o = record v { threads = all_back v.threads o; objects = with_waiting v.objects o 0 }
