-- What is written for a fault.
use Rattle.std.specs.Prelude.{ℕ, List, codes}
use Rattle.jls_check.specs.declared.faults.MoveFault.{MoveFault}
use Rattle.jls_check.specs.declared.faults.MoveFault.TheVariants.{Broken, Memory}

abbrev pub fault_text : MoveFault → List ℕ
fault_text Broken = codes "the move is not lawful"
fault_text Memory = codes "out of memory"
