-- The report of a program that was explored on the Java machine.
use Rattle.std.specs.Prelude.{◌≡◌, ℕ, zero, suc, ◌+◌, ◌<◌, ◌≤◌, List, [], ◌∷◌, ◌++◌, length, codes, decimal}
use Rattle.history.specs.NameLists.{NameLists}
use Rattle.explore.specs.declared.programs.Program.{Program}
use Rattle.program_text.specs.Programs.{IsProgramIn, IsProgramReason}
use Rattle.program_text.specs.declared.numbering.NamedProgram.{NamedProgram}
use Rattle.explore_java.specs.JavaFound.{FindsAll, FoundJavaStates, HasMore, IsAt, end_at, witness_at}
use Rattle.explore_java.specs.JavaRuns.{attaches_of}
use Rattle.explore_java.specs.JavaStates.{JavaProgramState}
use Rattle.explore_runs.specs.JavaOutcomes.{IsJavaOutcome}
use Rattle.explore_runs.specs.Reports.{counts_part, history_text, text_at}
use Rattle.explore_runs.specs.Tallies.{OutcomeTally, tallied, tally_at}
use Rattle.explore_runs.specs.declared.faults.ExploreTextFault.{ExploreTextFault}
use Rattle.explore_runs.specs.declared.faults.ExploreTextFault.TheVariants.{File, TooManyStates}

-- the end with a number among the ends is of a state with this text
abbrev pub JavaEndsAs : NameLists → Program → FoundJavaStates → ℕ → List ℕ → Type 0
JavaEndsAs names p f i text = (s : JavaProgramState) × IsAt p f.witnesses (end_at f i) s × IsJavaOutcome names p s text

-- These are the texts of the ends, in their order.
pub record AreJavaOutcomes (names : NameLists) (p : Program) (f : FoundJavaStates) (texts : List (List ℕ))
    : Type 0 where
  pub long : length texts ≡ length f.ends
  pub each : (i : ℕ) → i < length f.ends → JavaEndsAs names p f i (text_at texts i)

-- These are the outcomes of all ends.
pub record AreJavaTallied (names : NameLists) (p : Program) (f : FoundJavaStates) (ts : List OutcomeTally)
    : Type 0 where
  pub texts : List (List ℕ)
  pub outcomes : AreJavaOutcomes names p f texts
  pub counted : ts ≡ tallied texts (length texts)

-- the history that leads to an end: the moves of its witness, behind the attaches
abbrev pub java_history : Program → FoundJavaStates → ℕ → List ℕ
java_history p f i = history_text (length p.lows.items) (attaches_of p ++ witness_at f.witnesses (end_at f i))

-- an outcome: its number, how many ends have it, its text, and the history that leads to the first of them
abbrev pub java_part : Program → FoundJavaStates → ℕ → OutcomeTally → List ℕ
java_part p f number t =
    codes "outcome " ++ decimal number ++ codes " ends " ++ decimal t.ends ++ 10 ∷ (t.text ++ java_history p f t.first)

-- the first outcomes, one behind the other
abbrev pub java_parts : Program → FoundJavaStates → List OutcomeTally → ℕ → List ℕ
java_parts p f ts zero = []
java_parts p f ts (suc n) = java_parts p f ts n ++ java_part p f (n + 1) (tally_at ts n)

-- A line that counts states and steps, and then each outcome once, in the order in which it was found.
pub record IsJavaReport (names : NameLists) (p : Program) (f : FoundJavaStates) (text : List ℕ) : Type 0 where
  pub tallies : List OutcomeTally
  pub outcomes : AreJavaTallied names p f tallies
  pub says : text ≡ counts_part (length f.witnesses) f.steps ++ java_parts p f tallies (length tallies)

-- The bytes are the text of a program, all of whose states on the Java machine were found, at most so many; and this is
-- the report.
pub record IsJavaReportOfText (bytes : List ℕ) (most : ℕ) (text : List ℕ) : Type 0 where
  pub named : NamedProgram
  pub read : IsProgramIn bytes named
  pub found : FoundJavaStates
  pub all : FindsAll named.program found
  pub few : length found.witnesses ≤ most
  pub report : IsJavaReport named.names named.program found text

-- they are the text of a program that has more states than were asked for
pub record HasTooManyJava (bytes : List ℕ) (most n : ℕ) : Type 0 where
  pub told : n ≡ most
  pub named : NamedProgram
  pub read : IsProgramIn bytes named
  pub more : HasMore named.program most

-- Why these bytes have no report, where at most so many states are asked for.
abbrev pub IsExploreJavaReason : List ℕ → ℕ → ExploreTextFault → Type 0
IsExploreJavaReason bytes most (File fault) = IsProgramReason bytes fault
IsExploreJavaReason bytes most (TooManyStates n) = HasTooManyJava bytes most n
