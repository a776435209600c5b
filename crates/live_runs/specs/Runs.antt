-- What a run of a live script came to.
use Rattle.std.specs.Prelude.{◌≡◌, ◌<◌, ℕ, Bool, false, true, List, length, map, Vec, vec_items, Result}
use Rattle.std.specs.List.{All}
use Rattle.std.specs.declared.alloc.Global.{Global}
use Rattle.fat_monitor.specs.declared.actions.Reply.{Reply}
use Rattle.fast_path.specs.declared.calls.Call.{Call}
use Rattle.script_text.specs.declared.lines.Line.{Line}
use Rattle.script_text.specs.Lines.{script_text}
use Rattle.header_words.specs.Passes.{Opening, new_passes}
use Rattle.live_scripts.specs.Rules.{IsLiveScript, attached_threads}
use Rattle.live_scripts.specs.Plans.{calls_of, lows_of, monitors_in, objects_of}
use Rattle.live_turns.specs.declared.closed.Closed.{Closed}
use Rattle.live_book.specs.declared.faults.LiveFault.{LiveFault}
use Rattle.live_turns.specs.Ends.{IsEnd, Disagrees}
use Rattle.live_turns.specs.Ways.{Holding, new_holding}
use Rattle.live_threads.specs.declared.driving.Worked.{Worked}
use Rattle.live_threads.specs.Driving.{Answered}
use Rattle.live_threads.specs.Ends.{at_rest}
use Rattle.live_runs.specs.Texts.{live_text}

-- a worker: what its pass had, its calls, what they came to, whether it was stopped, and what its pass has then
pub record Worker : Type 0 where
  pub before : Holding
  pub calls : List Call
  pub answers : List (Result Reply LiveFault)
  pub stopped : Bool
  pub after : Holding

-- it made its calls in order: all of them unless it was stopped, and not all of them if it was and had any
pub record HasWorked (z : Opening) (w : Worker) : Type 0 where
  pub answered : Answered z w.calls w.answers w.before w.after
  pub whole : w.stopped ≡ false → length w.answers ≡ length w.calls
  pub cut : w.stopped ≡ true → 0 < length w.calls → length w.answers < length w.calls

-- what is told of a worker
abbrev pub told_of : Worker → List (Result Reply LiveFault) × Bool
told_of w = (w.answers, w.stopped)

-- the same of what a worker gave back
abbrev pub told_in : {L : Type 0} → Worked L → List (Result Reply LiveFault) × Bool
told_in d = (vec_items d.answers, d.stopped)

-- and of a row in which it was kept
abbrev pub told_in_row : Vec (Result Reply LiveFault) Global × Bool → List (Result Reply LiveFault) × Bool
told_in_row w = (vec_items w.0, w.1)

-- What the threads of these lines did: they made their calls on a service with their objects, each on a pass of its own
-- from thread 1 on.
pub record HaveRun (ls : List Line) (z : Opening) (workers : List Worker) : Type 0 where
  pub lows : z.lows ≡ lows_of ls
  pub count : z.count ≡ length (attached_threads ls)
  pub starts : map (λ (w : Worker). w.before) workers ≡ map new_holding (new_passes z 1 z.count)
  pub calls : map (λ (w : Worker). w.calls) workers
      ≡ map (λ t. calls_of (objects_of ls) (attached_threads ls) t ls) (attached_threads ls)
  pub worked : All (HasWorked z) workers

-- The text of a run of these lines: their threads ran, and the service was closed then. Its text has what they came to.
pub record IsLiveRun (ls : List Line) (text : List ℕ) : Type 0 where
  pub opening : Opening
  pub workers : List Worker
  pub ran : HaveRun ls opening workers
  pub closed : Closed
  pub end : IsEnd opening (monitors_in ls) (map (λ (w : Worker). at_rest w.after) workers) closed
  pub says : text ≡ live_text ls (map told_of workers) closed

-- A run of these lines that was not closed: their threads ran, and there is a record that replays and is as long as
-- their deeds together, but does not have just those of each pass under its number.
pub record IsTornRun (ls : List Line) : Type 0 where
  pub opening : Opening
  pub workers : List Worker
  pub ran : HaveRun ls opening workers
  pub torn : Disagrees opening (monitors_in ls) (map (λ (w : Worker). at_rest w.after) workers)

-- the bytes are the text of a live script, and this is the text of a run of it
pub record IsTextOfRun (bytes text : List ℕ) : Type 0 where
  pub lines : List Line
  pub script : IsLiveScript lines
  pub read : bytes ≡ script_text lines
  pub run : IsLiveRun lines text

-- the bytes are the text of a live script, of which this is so
pub record IsTornText (bytes : List ℕ) : Type 0 where
  pub lines : List Line
  pub script : IsLiveScript lines
  pub read : bytes ≡ script_text lines
  pub torn : IsTornRun lines
