-- The calls and replies of a list of columns, each at its column and with whose it is; and those of one thread.
use Rattle.std.specs.Prelude.{ℕ, ◌+◌, List, [], ◌∷◌, ◌++◌, ◌==◌, if◌then◌else◌, Option, Some}
use Rattle.std.specs.List.{flat_map}
use Rattle.lock_word.specs.declared.ThreadId.{ThreadId}
use Rattle.step_core.specs.declared.machine.Move.{Move}
use Rattle.step_core.specs.declared.machine.Move.TheVariants as move
use Rattle.pictures.specs.declared.columns.Column.{Column}
use Rattle.pictures.specs.declared.marks.CallMade.{CallMade}
use Rattle.pictures.specs.declared.marks.ReplyMade.{ReplyMade}
use Rattle.pictures.specs.declared.picture.CallMark.{CallMark}
use Rattle.pictures.specs.declared.picture.ReplyMark.{ReplyMark}

-- the call that a move makes in column n, if it is there and makes one
abbrev pub call_made : ℕ → Option Move → List CallMade
call_made n (Some (move.Call t c)) = record { thread = t; mark = record { column = n; call = c } } ∷ []
call_made n m = []

abbrev pub reply_made : ℕ → Option Move → List ReplyMade
reply_made n (Some (move.Return t r)) = record { thread = t; mark = record { column = n; reply = r } } ∷ []
reply_made n m = []

-- the same of each move of a column
abbrev pub calls_made_in : ℕ → List (Option Move) → List CallMade
calls_made_in n moves = flat_map (call_made n) moves

abbrev pub replies_made_in : ℕ → List (Option Move) → List ReplyMade
replies_made_in n moves = flat_map (reply_made n) moves

-- the same of some columns, of which the first has number n
abbrev pub calls_made : ℕ → List Column → List CallMade
calls_made n [] = []
calls_made n (c ∷ cs) = calls_made_in n c.moves ++ calls_made (n + 1) cs

abbrev pub replies_made : ℕ → List Column → List ReplyMade
replies_made n [] = []
replies_made n (c ∷ cs) = replies_made_in n c.moves ++ replies_made (n + 1) cs

-- ---- those of one thread

abbrev pub own_call : ThreadId → CallMade → List CallMark
own_call t c = if c.thread.0 == t.0 then c.mark ∷ [] else []

abbrev pub own_calls : ThreadId → List CallMade → List CallMark
own_calls t calls = flat_map (own_call t) calls

abbrev pub own_reply : ThreadId → ReplyMade → List ReplyMark
own_reply t r = if r.thread.0 == t.0 then r.mark ∷ [] else []

abbrev pub own_replies : ThreadId → List ReplyMade → List ReplyMark
own_replies t replies = flat_map (own_reply t) replies
