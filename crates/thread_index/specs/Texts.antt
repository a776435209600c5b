-- What a refused take prints.
use Rattle.std.specs.Prelude.{ℕ, List, codes}
use Rattle.thread_index.specs.declared.TakeFault.{TakeFault}
use Rattle.thread_index.specs.declared.TakeFault.TheVariants.{Known, NoIndex, Memory}

-- the text of a fault
abbrev pub take_fault_text : TakeFault → List ℕ
take_fault_text Known = codes "the thread has an index"
take_fault_text NoIndex = codes "every index is taken"
take_fault_text Memory = codes "out of memory"
