-- Why a live script was not run to its end.
use Rattle.std.specs.Prelude.{◌≡◌, ℕ, List}
use Rattle.text_streams.specs.declared.faults.FileFault.TheVariants as faults
use Rattle.script_text.specs.declared.lines.Line.{Line}
use Rattle.header_words.specs.Passes.{Opening}
use Rattle.live_scripts.specs.Rules.{IsLiveReasonFor}
use Rattle.live_turns.specs.Ends.{Disagrees}
use Rattle.live_turns.specs.Ways.{PassState}
use Rattle.live_runs.specs.declared.faults.RunFault.{RunFault}
use Rattle.live_runs.specs.declared.faults.RunFault.TheVariants.{File, Torn}
use Rattle.live_runs.specs.Runs.{IsTornRun, IsTornText}

abbrev pub out_of_memory : RunFault
out_of_memory = File faults.Memory

-- a fault of a close, with so many monitors, of a service of this opening by these passes, which are all there
abbrev pub IsOfClose : Opening → ℕ → List PassState → RunFault → Type 0
IsOfClose z limit ps (File fault) = fault ≡ faults.Memory
IsOfClose z limit ps Torn = Disagrees z limit ps

-- a fault of the run of these lines itself
abbrev pub IsOfRun : List Line → RunFault → Type 0
IsOfRun ls (File fault) = fault ≡ faults.Memory
IsOfRun ls Torn = IsTornRun ls

-- why these bytes were not run
abbrev pub IsRunReason : List ℕ → RunFault → Type 0
IsRunReason bytes (File fault) = IsLiveReasonFor bytes fault
IsRunReason bytes Torn = IsTornText bytes
