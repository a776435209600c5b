-- The states of a program on the Java machine, and what each move leads to.
use Rattle.std.specs.Prelude.{ℕ, zero, suc, ◌+◌, ◌-◌, ◌==◌, nat_eq, nat_lt, Bool, true, false, ◌&&◌, if◌then◌else◌}
use Rattle.std.specs.Prelude.{List, [], ◌∷◌, ◌++◌, length, map, replicate, take, drop}
use Rattle.std.specs.Prelude.{slice_get, slice_set, Option, Some, None}
use Rattle.std.specs.List.{filter_map}
use Rattle.std.specs.Option.{option_map}
use Rattle.std.specs.Cmp.Lexicographic.{pointwise}
use Rattle.fat_monitor.specs.declared.actions.Cause.{Cause}
use Rattle.fat_monitor.specs.declared.actions.Cause.TheVariants as cause
use Rattle.fat_monitor.specs.declared.actions.Reply.{Reply}
use Rattle.fast_path.specs.declared.calls.Call.{Call}
use Rattle.step_core.specs.declared.machine.Move.{Move}
use Rattle.step_core.specs.declared.machine.Move.TheVariants as move
use Rattle.jls_check.specs.MachineState.{MachineState, IsSound, opening_machine}
use Rattle.jls_check.specs.Numbers.{AreBelow, call_numbers, numbers_of}
use Rattle.jls_check.specs.Taking.{after_move, takes}
use Rattle.explore.specs.Codes.{answer_number}
use Rattle.explore.specs.declared.programs.Program.{Program}
use Rattle.explore.specs.States.{call_below, end_of, start_of, thread_of}

-- A state: the machine; for each thread, where the call that it makes next stands in the list of all calls; the reply
-- with which each call has returned, if it has; and how many moments the clock has told.
pub record JavaProgramState : Type 0 where
  pub machine : MachineState
  pub nexts : List ℕ
  pub replies : List (Option Reply)
  pub told : ℕ

abbrev pub count_of : Program → ℕ
count_of p = length p.starts.items

-- the machine in which the threads below a number were attached, in their order
abbrev pub attached : MachineState → ℕ → MachineState
attached v zero = v
attached v (suc n) = (after_move true (attached v n) (move.Attach (thread_of n))).after

-- where a program begins
abbrev pub opening : Program → JavaProgramState
opening p = record {
  machine = attached (opening_machine (length p.lows.items)) (count_of p);
  nexts = p.starts.items;
  replies = replicate (length p.calls.items) None;
  told = 0;
}

-- ---- what a program leaves to the machine

-- calls are compared by their numbers, which no two calls share
abbrev pub is_same_call : Call → Call → Bool
is_same_call c d = pointwise nat_eq (call_numbers c) (call_numbers d)

-- the call is this one, if there is one
abbrev pub is_call : Call → Option Call → Bool
is_call c None = false
is_call c (Some d) = is_same_call c d

-- the moment is this one, if there is one
abbrev pub is_moment : ℕ → Option ℕ → Bool
is_moment now None = false
is_moment now (Some m) = now == m

-- the next call of thread k, if it has one left
abbrev pub call_at : Program → ℕ → Option ℕ → Option Call
call_at p k None = None
call_at p k (Some n) = call_below p k n

abbrev pub next_call : Program → JavaProgramState → ℕ → Option Call
next_call p s k = if nat_lt k (count_of p) then call_at p k (slice_get s.nexts k) else None

-- a refusal for want of a monitor or of memory, which the machine allows, and of which the Java specification knows
-- nothing
abbrev pub is_want : Cause → Bool
is_want cause.NoMonitor = true
is_want cause.Memory = true
is_want cause.TooDeep = false
is_want cause.StillOwner = false
is_want cause.NoThread = false

-- The program leaves this move to the machine, and it is no refusal for want: the next call of each thread; a wake-up
-- for no reason where the program says so; the next moment of the clock; and any other move but an attach. `IsLeft` of
-- `JavaRuns` is the same behind the moves of a run, and has the refusals for want, too.
abbrev pub is_left : Program → JavaProgramState → Move → Bool
is_left p s (move.Attach t) = false
is_left p s (move.Call t c) = is_call c (next_call p s t.0)
is_left p s (move.Spurious t) = p.spurious
is_left p s (move.Refuse t c) = if is_want c then false else true
is_left p s (move.Time now) = is_moment now (slice_get p.moments.items s.told)
is_left p s m = true

-- ---- what a move leads to

-- the state in which thread k has made the call that stands at a position
abbrev pub with_call : JavaProgramState → ℕ → Option ℕ → JavaProgramState
with_call s k None = s
with_call s k (Some n) = record s { nexts = slice_set s.nexts k (n + 1) }

-- the state in which the call that stands just before a position has this reply, where there is one
abbrev pub with_reply : JavaProgramState → Reply → Option ℕ → JavaProgramState
with_reply s r None = s
with_reply s r (Some n) =
    if nat_lt 0 n && nat_lt (n - 1) (length s.replies)
    then record s { replies = slice_set s.replies (n - 1) (Some r) }
    else s

-- the state with this machine, behind a move
abbrev pub noted : JavaProgramState → Move → MachineState → JavaProgramState
noted s (move.Call t c) v = with_call (record s { machine = v }) t.0 (slice_get s.nexts t.0)
noted s (move.Return t r) v = with_reply (record s { machine = v }) r (slice_get s.nexts t.0)
noted s (move.Time now) v = record s { machine = v; told = s.told + 1 }
noted s m v = record s { machine = v }

-- The state behind a move; None where it cannot be made.
abbrev pub after : Program → JavaProgramState → Move → Option JavaProgramState
after p s m = if is_left p s m then option_map (noted s m) (takes s.machine m) else None

-- the state behind a list of moves; None where one of them cannot be made
abbrev pub played_from : Program → List Move → Option JavaProgramState → Option JavaProgramState
played_from p [] s = s
played_from p (m ∷ ms) (Some s) = played_from p ms (after p s m)
played_from p (m ∷ ms) None = None

abbrev pub played : Program → List Move → Option JavaProgramState
played p ms = played_from p ms (Some (opening p))

-- the replies that a state has for the calls of a thread, in their order; a call that has none yet is left out
abbrev pub replies_of : Program → JavaProgramState → ℕ → List Reply
replies_of p s k =
    filter_map (λ (r : Option Reply). r) (take (end_of p k - start_of p k) (drop (start_of p k) s.replies))

-- ---- the numbers of a state

abbrev pub code_of : Program → JavaProgramState → List ℕ
code_of p s = numbers_of (count_of p) s.machine ++ (s.told ∷ length s.nexts ∷ (s.nexts ++ map answer_number s.replies))

-- what holds of each state that moves lead to
pub record IsProper (p : Program) (s : JavaProgramState) : Type 0 where
  pub sound : IsSound s.machine
  pub below : AreBelow (count_of p) s.machine
