-- The fault of an order to explore, back to its cause.
use Rattle.std.proofs.Common.{◌≡◌, ℕ}
use Rattle.explore_runs.specs.declared.faults.ExploreTextFault.{ExploreTextFault}
use Rattle.explore_runs.specs.declared.faults.ExploreTextFault.TheVariants as exploring
use Rattle.command_line.specs.declared.ends.TaskFault.TheVariants.{TooManyStates}
use Rattle.command_line.specs.ProgramEnds.{fault_of_exploring}

pub caused : (cause : ExploreTextFault) (n : ℕ) → fault_of_exploring cause ≡ TooManyStates n → cause ≡ exploring.TooManyStates n
caused (exploring.File fault) n e = absurd (cc)
caused (exploring.TooManyStates m) n e = cc
