-- The report of a program that was given as a text.
use Rattle.std.specs.Prelude.{ℕ, ◌≤◌, List, length}
use Rattle.explore.specs.Found.{FindsAll, FoundStates}
use Rattle.program_text.specs.Programs.{IsProgramIn}
use Rattle.program_text.specs.declared.numbering.NamedProgram.{NamedProgram}
use Rattle.explore_runs.specs.declared.reports.WitnessForm.{WitnessForm}
use Rattle.explore_runs.specs.Reports.{IsReport}

-- The bytes are the text of a program, all of whose states were found, at most so many; and this is the report, with
-- what stands behind each outcome in this form.
pub record IsReportOfText (bytes : List ℕ) (most : ℕ) (form : WitnessForm) (text : List ℕ) : Type 0 where
  pub named : NamedProgram
  pub read : IsProgramIn bytes named
  pub found : FoundStates
  pub all : FindsAll named.program found
  pub few : length found.witnesses ≤ most
  pub report : IsReport form named.names named.program found text
