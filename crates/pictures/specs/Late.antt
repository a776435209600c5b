-- Lanes that lag behind the columns.
use Rattle.std.specs.Prelude.{◌≡◌, ℕ, ◌-◌, ◌≤◌, true, List, [], ◌++◌, Option, length}
use Rattle.std.specs.Prelude.{map as list_map}
use Rattle.lock_word.specs.declared.ThreadId.{ThreadId}
use Rattle.jls_check.specs.declared.threads.Live.{Live}
use Rattle.step_core.specs.Machine.{State}
use Rattle.pictures.specs.declared.columns.Column.{Column}
use Rattle.pictures.specs.declared.late.LateLane.{LateLane}
use Rattle.pictures.specs.declared.marks.CallMade.{CallMade}
use Rattle.pictures.specs.declared.marks.ReplyMade.{ReplyMade}
use Rattle.pictures.specs.declared.picture.Lane.{Lane}
use Rattle.pictures.specs.declared.touched.Touched.{Touched}
use Rattle.pictures.specs.Made.{own_calls, own_replies}
use Rattle.pictures.specs.Marks.{call_marks, reply_marks}
use Rattle.pictures.specs.Spans.{covered, repeated, said_of}
use Rattle.pictures.specs.Touched.{is_touched}

-- What a lane says of the first n columns: in those that it does not cover, its thread is as state s says.
abbrev pub said_through : ℕ → State → LateLane → List (Option Live)
said_through n s l = covered l.lane.spans.items ++ repeated (n - l.covered) (said_of l.lane.thread s)

-- a lane before the first column, with its own of all calls and replies
pub record IsOpenLane (calls : List CallMade) (replies : List ReplyMade) (t : ThreadId) (l : LateLane) : Type 0 where
  pub thread : l.lane.thread ≡ t
  pub spans : l.lane.spans.items ≡ []
  pub calls_are : l.lane.calls.items ≡ own_calls t calls
  pub replies_are : l.lane.replies.items ≡ own_replies t replies
  pub none : l.covered ≡ 0

-- a lane that says of its thread what each state says, where the machine is in state s now
pub record IsLate (cs : List Column) (states : List State) (s : State) (t : ThreadId) (l : LateLane) : Type 0 where
  pub thread : l.lane.thread ≡ t
  pub within : l.covered ≤ length states
  pub said : said_through (length states) s l ≡ list_map (said_of t) states
  pub calls : l.lane.calls.items ≡ call_marks t 0 cs
  pub replies : l.lane.replies.items ≡ reply_marks t 0 cs

-- While the machine went from s to s' in column n, the lane went on to say the same of the columns in front.
pub record IsKept (n : ℕ) (s s' : State) (l m : LateLane) : Type 0 where
  pub thread : m.lane.thread ≡ l.lane.thread
  pub calls : m.lane.calls.items ≡ l.lane.calls.items
  pub replies : m.lane.replies.items ≡ l.lane.replies.items
  pub within : l.covered ≤ n → m.covered ≤ n
  pub said : said_through n s' m ≡ said_through n s l

-- The lane says the same of the columns in front of n, and covers them if its thread is touched.
pub record IsBrought (n : ℕ) (s : State) (touched : Touched) (l m : LateLane) : Type 0 where
  pub kept : IsKept n s s l m
  pub done : is_touched s touched l.lane.thread ≡ true → n ≤ m.covered

-- the lane with n columns
pub record IsFinished (n : ℕ) (s : State) (l : LateLane) (m : Lane) : Type 0 where
  pub thread : m.thread ≡ l.lane.thread
  pub calls : m.calls.items ≡ l.lane.calls.items
  pub replies : m.replies.items ≡ l.lane.replies.items
  pub spans : covered m.spans.items ≡ said_through n s l
