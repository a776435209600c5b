-- The calls, replies, moments and refusals of a list of columns, each at its column.
use Rattle.std.specs.Prelude.{ℕ, ◌+◌, List, [], ◌∷◌, ◌++◌, ◌==◌, if◌then◌else◌, Option, Some, None}
use Rattle.std.specs.List.{flat_map}
use Rattle.lock_word.specs.declared.ThreadId.{ThreadId}
use Rattle.step_core.specs.declared.machine.Move.{Move}
use Rattle.step_core.specs.declared.machine.Move.TheVariants as move
use Rattle.step_core.specs.Step.{moves_made}
use Rattle.pictures.specs.declared.columns.Column.{Column}
use Rattle.pictures.specs.declared.columns.Refusal.{Refusal}
use Rattle.pictures.specs.declared.picture.CallMark.{CallMark}
use Rattle.pictures.specs.declared.picture.ReplyMark.{ReplyMark}
use Rattle.pictures.specs.declared.picture.MomentMark.{MomentMark}
use Rattle.pictures.specs.declared.picture.RefusalMark.{RefusalMark}

-- the moves of a column
abbrev pub moves_in : Column → List Move
moves_in c = moves_made c.moves

-- the call that a move makes, if it is there and one of this thread
abbrev pub call_mark : ThreadId → ℕ → Option Move → List CallMark
call_mark t n (Some (move.Call u c)) = if u.0 == t.0 then record { column = n; call = c } ∷ [] else []
call_mark t n m = []

abbrev pub reply_mark : ThreadId → ℕ → Option Move → List ReplyMark
reply_mark t n (Some (move.Return u r)) = if u.0 == t.0 then record { column = n; reply = r } ∷ [] else []
reply_mark t n m = []

abbrev pub moment_mark : ℕ → Option Move → List MomentMark
moment_mark n (Some (move.Time now)) = record { column = n; now = now } ∷ []
moment_mark n m = []

-- what is refused, if something is
abbrev pub refusal_mark : ℕ → Option Refusal → List RefusalMark
refusal_mark n None = []
refusal_mark n (Some r) = record { column = n; refusal = r } ∷ []

-- the same of each move of a column
abbrev pub call_marks_in : ThreadId → ℕ → List (Option Move) → List CallMark
call_marks_in t n moves = flat_map (call_mark t n) moves

abbrev pub reply_marks_in : ThreadId → ℕ → List (Option Move) → List ReplyMark
reply_marks_in t n moves = flat_map (reply_mark t n) moves

abbrev pub moment_marks_in : ℕ → List (Option Move) → List MomentMark
moment_marks_in n moves = flat_map (moment_mark n) moves

-- the same of some columns, of which the first has number n
abbrev pub call_marks : ThreadId → ℕ → List Column → List CallMark
call_marks t n [] = []
call_marks t n (c ∷ cs) = call_marks_in t n c.moves ++ call_marks t (n + 1) cs

abbrev pub reply_marks : ThreadId → ℕ → List Column → List ReplyMark
reply_marks t n [] = []
reply_marks t n (c ∷ cs) = reply_marks_in t n c.moves ++ reply_marks t (n + 1) cs

abbrev pub moment_marks : ℕ → List Column → List MomentMark
moment_marks n [] = []
moment_marks n (c ∷ cs) = moment_marks_in n c.moves ++ moment_marks (n + 1) cs

abbrev pub refusal_marks : ℕ → List Column → List RefusalMark
refusal_marks n [] = []
refusal_marks n (c ∷ cs) = refusal_mark n c.refusal ++ refusal_marks (n + 1) cs
