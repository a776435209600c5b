-- The states of a program, and what each choice leads to.
use Rattle.std.specs.Prelude.{ℕ, zero, suc, ◌+◌, true, if◌then◌else◌, nat_lt, List, [], ◌∷◌, length, replicate}
use Rattle.std.specs.Prelude.{slice_index_or, slice_get, slice_set, Option, Some, None, Result, Ok, Err}
use Rattle.lock_word.specs.declared.ThreadId.{ThreadId}
use Rattle.fat_monitor.specs.declared.actions.Reply.{Reply}
use Rattle.fast_path.specs.declared.calls.Call.{Call}
use Rattle.step_core.specs.declared.steps.Did.{Did}
use Rattle.step_core.specs.declared.steps.Fault.{Fault}
use Rattle.step_core.specs.declared.steps.Step.{Step}
use Rattle.step_core.specs.declared.steps.Step.TheVariants as step
use Rattle.step_core.specs.World.{WorldState, opening_world}
use Rattle.step_core.specs.Step.{step_of}
use Rattle.explore.specs.declared.programs.Program.{Program}
use Rattle.explore.specs.declared.programs.Choice.{Choice}
use Rattle.explore.specs.declared.programs.Choice.TheVariants as choice

-- A state: the world; for each thread, where its next call stands in the list of all calls; the reply of each call
-- that has one; and how many moments the clock has told.
pub record ProgramState : Type 0 where
  pub world : WorldState
  pub nexts : List ℕ
  pub replies : List (Option Reply)
  pub told : ℕ

abbrev pub thread_of : ℕ → ThreadId
thread_of k = record { 0 = k }

-- the world in which the threads below a number were attached, in their order
abbrev pub attached : WorldState → ℕ → WorldState
attached w zero = w
attached w (suc n) = (step_of true (attached w n) (step.Attach (thread_of n))).after

-- where a program begins
abbrev pub opening : Program → ProgramState
opening p = record {
  world = attached (opening_world p.lows.items p.monitors p.indices p.split) (length p.starts.items);
  nexts = p.starts.items;
  replies = replicate (length p.calls.items) None;
  told = 0;
}

-- where the calls of a thread begin
abbrev pub start_of : Program → ℕ → ℕ
start_of p k = slice_index_or p.starts.items k 0

-- where the calls of a thread end: at the beginning of the next thread's, or with the list
abbrev pub end_of : Program → ℕ → ℕ
end_of p k = slice_index_or p.starts.items (k + 1) (length p.calls.items)

-- the begin of a call
abbrev pub begin_of : ℕ → Option Call → Option Step
begin_of k (Some c) = Some (step.Begin (thread_of k) c)
begin_of k None = None

-- the call that stands at a position, if that is below the thread's end
abbrev pub call_below : Program → ℕ → ℕ → Option Call
call_below p k n = if nat_lt n (end_of p k) then slice_get p.calls.items n else None

-- the step of a choice of thread k, whose next call has this position
abbrev pub step_at : Program → Choice → ℕ → Option Step
step_at p (choice.Begin k) n = begin_of k (call_below p k n)
step_at p (choice.Go k) n = Some (step.Go (thread_of k))
step_at p (choice.Expire k) n = Some (step.Expire (thread_of k))
step_at p (choice.Spurious k) n = if p.spurious then Some (step.Spurious (thread_of k)) else None
step_at p choice.Tick n = None

-- a choice of thread k means a step where the program has the thread
abbrev pub step_of_thread : Program → Choice → ℕ → Option ℕ → Option Step
step_of_thread p c k (Some n) = if nat_lt k (length p.starts.items) then step_at p c n else None
step_of_thread p c k None = None

abbrev pub tick_of : Option ℕ → Option Step
tick_of (Some now) = Some (step.Tick now)
tick_of None = None

-- the thread of a choice
abbrev pub chosen : Choice → ℕ
chosen (choice.Begin k) = k
chosen (choice.Go k) = k
chosen (choice.Expire k) = k
chosen (choice.Spurious k) = k
chosen choice.Tick = 0

-- the step that a choice means in a state, if it means one there
abbrev pub step_for : Program → ProgramState → Choice → Option Step
step_for p s choice.Tick = tick_of (slice_get p.moments.items s.told)
step_for p s (choice.Begin k) = step_of_thread p (choice.Begin k) k (slice_get s.nexts k)
step_for p s (choice.Go k) = step_of_thread p (choice.Go k) k (slice_get s.nexts k)
step_for p s (choice.Expire k) = step_of_thread p (choice.Expire k) k (slice_get s.nexts k)
step_for p s (choice.Spurious k) = step_of_thread p (choice.Spurious k) k (slice_get s.nexts k)

-- how many moments were told behind a choice
abbrev pub told_after : Choice → ℕ → ℕ
told_after choice.Tick n = n + 1
told_after (choice.Begin k) n = n
told_after (choice.Go k) n = n
told_after (choice.Expire k) n = n
told_after (choice.Spurious k) n = n

-- the state with this reply to the call that stands at a position, which is the next of thread k
abbrev pub with_reply : ProgramState → ℕ → Reply → Option ℕ → ProgramState
with_reply s k r (Some n) =
    if nat_lt n (length s.replies)
    then record s { nexts = slice_set s.nexts k (n + 1); replies = slice_set s.replies n (Some r) }
    else s
with_reply s k r None = s

-- the same, where the call of thread k may have no reply yet
abbrev pub replied : ProgramState → ℕ → Option Reply → ProgramState
replied s k None = s
replied s k (Some r) = with_reply s k r (slice_get s.nexts k)

-- the state with this world, behind a choice
abbrev pub moved : ProgramState → Choice → WorldState → ProgramState
moved s c w = record s { world = w; told = told_after c s.told }

-- an accepted step leads on, and a refused one does not
abbrev pub after_answer : ProgramState → Choice → Result Did Fault → WorldState → Option ProgramState
after_answer s c (Ok d) w = Some (replied (moved s c w) (chosen c) d.reply)
after_answer s c (Err f) w = None

abbrev pub after_step : ProgramState → Choice → Option Step → Option ProgramState
after_step s c (Some x) = after_answer s c (step_of true s.world x).answer (step_of true s.world x).after
after_step s c None = None

-- The state behind a choice; None where it cannot be made.
abbrev pub after : Program → ProgramState → Choice → Option ProgramState
after p s c = after_step s c (step_for p s c)

-- what an accepted step did
abbrev pub did_in : Result Did Fault → Option Did
did_in (Ok d) = Some d
did_in (Err f) = None

abbrev pub did_by : WorldState → Option Step → Option Did
did_by w None = None
did_by w (Some x) = did_in (step_of true w x).answer

-- What the step of a choice does; None where it cannot be made.
abbrev pub did_of : Program → ProgramState → Choice → Option Did
did_of p s c = did_by s.world (step_for p s c)

-- the state behind a list of choices; None where one of them cannot be made
abbrev pub played_from : Program → List Choice → Option ProgramState → Option ProgramState
played_from p [] s = s
played_from p (c ∷ cs) (Some s) = played_from p cs (after p s c)
played_from p (c ∷ cs) None = None

abbrev pub played : Program → List Choice → Option ProgramState
played p cs = played_from p cs (Some (opening p))
