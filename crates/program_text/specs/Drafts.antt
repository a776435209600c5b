-- A program as far as its text has come, and which lines may follow.
use Rattle.std.specs.Prelude.{◌≡◌, ℕ, ◌+◌, ◌≤◌, Bool, true, false, ◌&&◌, ◌||◌, not, ◌==◌, nat_lt, nat_le, if◌then◌else◌}
use Rattle.std.specs.Prelude.{List, [], ◌∷◌, ◌++◌, length, Option, Some, None, option_and_then, Result, Ok, Err}
use Rattle.lock_word.specs.declared.Split.{Split}
use Rattle.lock_word.specs.Layout.{greatest_index}
use Rattle.script_text.specs.declared.lines.Call.{Call as CallLine}
use Rattle.script_text.specs.declared.lines.Call.TheVariants as call
use Rattle.script_text.specs.Names.{is_named, position_of, with_name}
use Rattle.script_text.specs.Lines.{parts_of}
use Rattle.history.specs.NameLists.{NameLists}
use Rattle.explore.specs.Starts.{rise_to}
use Rattle.program_text.specs.declared.drafts.Part.{Part}
use Rattle.program_text.specs.declared.drafts.Part.TheVariants as part
use Rattle.program_text.specs.declared.lines.ProgramLine.{ProgramLine}
use Rattle.program_text.specs.declared.lines.ProgramLine.TheVariants.{World, Object, Thread, Call, Clock, Spurious}
use Rattle.program_text.specs.Lines.{program_line_at}

-- What the lines so far say: how many there are, and which part of the text they have come to.
pub record DraftState : Type 0 where
  pub monitors : ℕ
  pub indices : ℕ
  pub split : Split
  pub names : NameLists
  pub lows : List ℕ
  pub starts : List ℕ
  pub calls : List CallLine
  pub moments : List ℕ
  pub spurious : ℕ
  pub part : Part
  pub lines : ℕ

-- the limits of a program
pub record IsWithin (d : DraftState) : Type 0 where
  pub monitors_fit : d.monitors ≤ 8388608
  pub has_indices : 1 ≤ d.indices
  pub indices_fit : d.indices ≤ greatest_index d.split
  pub objects_fit : length d.lows ≤ 65535
  pub starts_rise : rise_to 0 d.starts (length d.calls) ≡ true
  pub threads_fit : length d.starts ≤ 64
  pub threads_are_live : length d.starts ≤ d.indices
  pub calls_fit : length d.calls ≤ 1024
  pub moments_fit : length d.moments ≤ 1048576

-- behind the first line
abbrev pub opened : ℕ → ℕ → Split → DraftState
opened monitors indices split = record {
  monitors = monitors;
  indices = indices;
  split = split;
  names = record { threads = []; objects = [] };
  lows = [];
  starts = [];
  calls = [];
  moments = [];
  spurious = 0;
  part = part.Objects;
  lines = 1;
}

-- ---- what may follow

abbrev pub is_before_threads : Part → Bool
is_before_threads part.Objects = true
is_before_threads part.Threads = false
is_before_threads part.Clock = false
is_before_threads part.Spurious = false

abbrev pub is_among_threads : Part → Bool
is_among_threads part.Objects = false
is_among_threads part.Threads = true
is_among_threads part.Clock = false
is_among_threads part.Spurious = false

abbrev pub is_before_spurious : Part → Bool
is_before_spurious part.Objects = false
is_before_spurious part.Threads = true
is_before_spurious part.Clock = true
is_before_spurious part.Spurious = false

-- none of these names is this one: it would get the next number
abbrev pub is_new : List (List ℕ) → List ℕ → Bool
is_new names name = position_of names name == length names

-- moments that never fall
abbrev pub rise_from : ℕ → List ℕ → Bool
rise_from last [] = true
rise_from last (m ∷ ms) = nat_le last m && rise_from m ms

-- an object that a call names is declared
abbrev pub names_declared : List (List ℕ) → CallLine → Bool
names_declared objects (call.Enter object) = nat_lt (position_of objects object) (length objects)
names_declared objects (call.Exit object) = nat_lt (position_of objects object) (length objects)
names_declared objects (call.Wait object millis nanos) = nat_lt (position_of objects object) (length objects)
names_declared objects (call.Notify object) = nat_lt (position_of objects object) (length objects)
names_declared objects (call.NotifyAll object) = nat_lt (position_of objects object) (length objects)
names_declared objects (call.Holds object) = nat_lt (position_of objects object) (length objects)
names_declared objects (call.Interrupt target) = true
names_declared objects call.Interrupted = true
names_declared objects (call.IsInterrupted target) = true
names_declared objects call.End = true

-- Objects stand behind the world, at most 65,535, each with a name of its own.
abbrev pub may_declare : DraftState → List ℕ → Bool
may_declare d name =
    is_before_threads d.part && (not (is_named d.names.objects name) && nat_lt (length d.lows) 65535)

-- Threads stand behind the objects, at most 64 and as many as the world has indices, each with a name of its own.
abbrev pub may_add : DraftState → List ℕ → Bool
may_add d name =
    (is_before_threads d.part || is_among_threads d.part)
    && (nat_lt (length d.starts) 64 && (nat_lt (length d.starts) d.indices && is_new d.names.threads name))

-- A call stands behind a thread; there are at most 1,024.
abbrev pub may_call : DraftState → CallLine → Bool
may_call d c = is_among_threads d.part && (nat_lt (length d.calls) 1024 && names_declared d.names.objects c)

-- The clock stands behind the threads, and tells at most 1,048,576 moments.
abbrev pub may_tell : DraftState → List ℕ → Bool
may_tell d ms = is_among_threads d.part && (nat_le (length ms) 1048576 && rise_from 0 ms)

abbrev pub with_object : DraftState → List ℕ → ℕ → DraftState
with_object d name low = record d {
  names = record { threads = d.names.threads; objects = d.names.objects ++ name ∷ [] };
  lows = d.lows ++ low ∷ [];
  lines = d.lines + 1;
}

-- the calls of a thread begin behind those that are there
abbrev pub with_thread : DraftState → List ℕ → DraftState
with_thread d name = record d {
  names = record { threads = with_name d.names.threads name; objects = d.names.objects };
  starts = d.starts ++ length d.calls ∷ [];
  part = part.Threads;
  lines = d.lines + 1;
}

-- The draft with one line more, if it may follow.
abbrev pub with_line : DraftState → ProgramLine → Option DraftState
with_line d (World monitors indices split) = None
with_line d (Object name low) = if may_declare d name then Some (with_object d name low) else None
with_line d (Thread name) = if may_add d name then Some (with_thread d name) else None
with_line d (Call c) = if may_call d c then Some (record d { calls = d.calls ++ c ∷ []; lines = d.lines + 1 }) else None
with_line d (Clock ms) =
    if may_tell d ms then Some (record d { moments = ms; part = part.Clock; lines = d.lines + 1 }) else None
with_line d (Spurious n) =
    if is_before_spurious d.part
    then Some (record d { spurious = n; part = part.Spurious; lines = d.lines + 1 })
    else None

-- the draft behind the line that these bytes are, if it may follow
unfoldable pub next_draft : DraftState → List ℕ → Option DraftState
next_draft d bytes = option_and_then (with_line d) (program_line_at bytes)

-- nothing stands behind the last line, and there is a thread
abbrev pub is_whole : DraftState → List ℕ → Bool
is_whole d rest = length rest == 0 && nat_lt 0 (length d.starts)

-- The draft behind the lines that these parts are, or the number of the first bad line. The last part is empty, since
-- each line is ended by a line feed, and a program has a thread.
unfoldable pub draft_from : DraftState → List (List ℕ) → Result DraftState ℕ
draft_from d [] = Err (d.lines + 1)
draft_from d (p ∷ []) = if is_whole d p then Ok d else Err (d.lines + 1)
draft_from d (p ∷ q ∷ ps) = elim (next_draft d p) [
  | None ↦ Err (d.lines + 1)
  | Some e ↦ draft_from e (q ∷ ps)
]

-- the first line is the world, within its limits
abbrev pub first_draft : ProgramLine → Option DraftState
first_draft (World monitors indices split) =
    if nat_le monitors 8388608 && (nat_le 1 indices && nat_le indices (greatest_index split))
    then Some (opened monitors indices split)
    else None
first_draft (Object name low) = None
first_draft (Thread name) = None
first_draft (Call c) = None
first_draft (Clock ms) = None
first_draft (Spurious n) = None

abbrev pub first_in : List ℕ → Option DraftState
first_in bytes = option_and_then first_draft (program_line_at bytes)

unfoldable pub draft_of : List (List ℕ) → Result DraftState ℕ
draft_of [] = Err 1
draft_of (p ∷ []) = Err 1
draft_of (p ∷ q ∷ ps) = elim (first_in p) [
  | None ↦ Err 1
  | Some d ↦ draft_from d (q ∷ ps)
]

-- what some bytes say as the text of a program, or the number of the first bad line
abbrev pub draft_in : List ℕ → Result DraftState ℕ
draft_in bytes = draft_of (parts_of bytes)
