-- What is written for a fault, and its number.
use Rattle.std.specs.Prelude.{ℕ, List, codes}
use Rattle.step_core.specs.declared.steps.Fault.{Fault}
use Rattle.step_core.specs.declared.worlds.relayout.RelayoutFault.{RelayoutFault}
use Rattle.step_core.specs.declared.worlds.relayout.RelayoutFault.TheVariants as relayout
use Rattle.step_core.specs.declared.steps.Fault.TheVariants.{NoIndex, Memory, Known, NoThread, NoObject, InCall}
use Rattle.step_core.specs.declared.steps.Fault.TheVariants.{NotCalling, Parked, NotDue, Backwards, NotWaiting}

abbrev pub fault_name : Fault → List ℕ
fault_name NoIndex = codes "NoIndex"
fault_name Memory = codes "Memory"
fault_name Known = codes "Known"
fault_name NoThread = codes "NoThread"
fault_name NoObject = codes "NoObject"
fault_name InCall = codes "InCall"
fault_name NotCalling = codes "NotCalling"
fault_name Parked = codes "Parked"
fault_name NotDue = codes "NotDue"
fault_name Backwards = codes "Backwards"
fault_name NotWaiting = codes "NotWaiting"

abbrev pub fault_number : Fault → ℕ
fault_number NoIndex = 1
fault_number Memory = 2
fault_number Known = 3
fault_number NoThread = 4
fault_number NoObject = 5
fault_number InCall = 6
fault_number NotCalling = 7
fault_number Parked = 8
fault_number NotDue = 9
fault_number Backwards = 10
fault_number NotWaiting = 28

abbrev pub relayout_fault_name : RelayoutFault → List ℕ
relayout_fault_name relayout.Memory = codes "Memory"
relayout_fault_name relayout.NoMonitor = codes "NoMonitor"
relayout_fault_name relayout.NotAtRest = codes "NotAtRest"
relayout_fault_name relayout.IndexTooWide = codes "IndexTooWide"

abbrev pub relayout_fault_number : RelayoutFault → ℕ
relayout_fault_number relayout.Memory = 2
relayout_fault_number relayout.NoMonitor = 11
relayout_fault_number relayout.NotAtRest = 29
relayout_fault_number relayout.IndexTooWide = 30
