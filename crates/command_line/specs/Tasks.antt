-- What was done where a task was carried out.
use Rattle.std.specs.Prelude.{ℕ, List, Option, IfSome}
use Rattle.std.specs.Io.KnownBytes.{Appends}
use Rattle.history_check.specs.Histories.{run_text}
use Rattle.history_check.specs.Replays.{IsReadAsRun}
use Rattle.history.specs.Histories.{IsHistoryOf}
use Rattle.history.specs.Plans.{IsPlanOf}
use Rattle.history.specs.Reports.{IsReportOf}
use Rattle.history.specs.declared.plans.Plan.{Plan}
use Rattle.dump.specs.Dumps.{IsDumpOf}
use Rattle.explore_runs.specs.Faults.{HasTooMany}
use Rattle.explore_runs.specs.JavaReports.{HasTooManyJava, IsJavaReportOfText}
use Rattle.explore_runs.specs.Runs.{IsReportOfText}
use Rattle.live_runs.specs.Runs.{IsTextOfRun}
use Rattle.drawing.specs.Drawings.{IsHistoryDrawing, IsScriptDrawing}
use Rattle.command_line.specs.declared.orders.Task.{Task}
use Rattle.command_line.specs.declared.orders.Task.TheVariants.{Run, Moves, Check, Dump, Live, Explore}
use Rattle.command_line.specs.declared.orders.Task.TheVariants.{ExploreJava, Draw, DrawMoves}

-- the program has more states than the order lets it have, and the number told is the most that the order allows
abbrev pub HasTooManyStates : Task → List ℕ → ℕ → Type 0
HasTooManyStates (Explore x) input n = HasTooMany input x.most n
HasTooManyStates (ExploreJava most) input n = HasTooManyJava input most n
HasTooManyStates task input n = ⊥

-- What a task says of the bytes that were left before and after, how many were given, and those that are held before
-- and after.
abbrev pub IsDone : Task → Option (List ℕ) → Option (List ℕ) → ℕ → Option (List ℕ) → Option (List ℕ)
    → Type 0
-- a script was read, and its report was written
IsDone Run left rest given held holds =
    (plan : Plan) × IfSome left (IsPlanOf plan) × (report : List ℕ) × IsReportOf plan report
    × Appends held holds report
-- a script was read, and its history was written
IsDone Moves left rest given held holds =
    (plan : Plan) × IfSome left (IsPlanOf plan) × (history : List ℕ) × IsHistoryOf plan history
    × Appends held holds history
-- a history was read whose moves are a run, and their number was written
IsDone Check left rest given held holds =
    (count : ℕ) × IsReadAsRun left rest given count × Appends held holds (run_text count)
-- a script was read, and a dump of the world that it leads to was written
IsDone Dump left rest given held holds =
    (text : List ℕ) × IfSome left (λ input. IsDumpOf input text) × Appends held holds text
-- a live script was read, and the text of a run of it was written
IsDone Live left rest given held holds =
    (text : List ℕ) × IfSome left (λ input. IsTextOfRun input text) × Appends held holds text
-- a program was read, and the report of its outcomes was written
IsDone (Explore x) left rest given held holds =
    (text : List ℕ) × IfSome left (λ input. IsReportOfText input x.most x.witness text) × Appends held holds text
-- a program was read, and the report of its outcomes on the Java machine itself was written
IsDone (ExploreJava most) left rest given held holds =
    (text : List ℕ) × IfSome left (λ input. IsJavaReportOfText input most text) × Appends held holds text
-- a script was read, and a picture of it was written
IsDone (Draw window) left rest given held holds =
    (text : List ℕ) × IfSome left (λ input. IsScriptDrawing window input text) × Appends held holds text
-- a history was read, and a picture of it was written
IsDone (DrawMoves window) left rest given held holds =
    (text : List ℕ) × IfSome left (λ input. IsHistoryDrawing window input text) × Appends held holds text
