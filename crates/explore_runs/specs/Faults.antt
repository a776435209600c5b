-- Why a program was not explored.
use Rattle.std.specs.Prelude.{◌≡◌, ℕ, List}
use Rattle.text_streams.specs.declared.faults.FileFault.TheVariants as faults
use Rattle.explore.specs.Found.{HasMore}
use Rattle.program_text.specs.Programs.{IsProgramIn, IsProgramReason}
use Rattle.program_text.specs.declared.numbering.NamedProgram.{NamedProgram}
use Rattle.explore_runs.specs.declared.faults.ExploreTextFault.{ExploreTextFault}
use Rattle.explore_runs.specs.declared.faults.ExploreTextFault.TheVariants.{File, TooManyStates}

abbrev pub out_of_memory : ExploreTextFault
out_of_memory = File faults.Memory

-- they are the text of a program that has more states than were asked for
pub record HasTooMany (bytes : List ℕ) (most n : ℕ) : Type 0 where
  pub told : n ≡ most
  pub named : NamedProgram
  pub read : IsProgramIn bytes named
  pub more : HasMore named.program most

-- Why these bytes have no report, where at most so many states are asked for.
abbrev pub IsExploreReason : List ℕ → ℕ → ExploreTextFault → Type 0
IsExploreReason bytes most (File fault) = IsProgramReason bytes fault
IsExploreReason bytes most (TooManyStates n) = HasTooMany bytes most n
