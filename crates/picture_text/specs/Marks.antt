-- The calls of a thread and its replies, each at its column.
use Rattle.std.specs.Prelude.{ℕ, zero, suc, ◌+◌, ◌-◌, Bool, true, false, List, [], ◌∷◌, Option, None, Some, codes}
use Rattle.std.specs.Prelude.{slice_get, if◌then◌else◌}
use Rattle.lock_word.specs.declared.ThreadId.{ThreadId}
use Rattle.fat_monitor.specs.declared.actions.Reply.{Reply}
use Rattle.fat_monitor.specs.declared.actions.Reply.TheVariants as reply
use Rattle.fat_monitor.specs.Names.{cause_name, reply_name}
use Rattle.pictures.specs.declared.picture.CallMark.{CallMark}
use Rattle.pictures.specs.declared.picture.ReplyMark.{ReplyMark}
use Rattle.picture_text.specs.declared.layout.Layout.{Layout}
use Rattle.picture_text.specs.declared.naming.Naming.{Naming}
use Rattle.picture_text.specs.Nodes.{Node, Words, Figure, Nothing, Then, in_turn}
use Rattle.picture_text.specs.Pieces.{group, line, tick_node, title}
use Rattle.picture_text.specs.Labels.{cut_label, room_in}
use Rattle.picture_text.specs.Layout.{right_of, x_at}
use Rattle.picture_text.specs.Naming.{thread_node, call_text}

-- the number of a column in the whole history
unfoldable pub column_node : Layout → ℕ → Node
column_node l column = Then (Words (codes ", column ")) (Figure (l.first + column))

-- a call has room up to the next one of its thread, or to the right edge of the picture
abbrev pub call_limit : Layout → Option CallMark → ℕ
call_limit l None = right_of l
call_limit l (Some mark) = x_at l mark.column

unfoldable pub call_title : Naming → Layout → ThreadId → CallMark → Node
call_title naming l t mark = title (in_turn (
    thread_node naming t ∷ Words (codes " calls ") ∷ Words (call_text naming mark.call)
    ∷ column_node l mark.column ∷ []))

unfoldable pub call_node : Naming → Layout → ThreadId → ℕ → ℕ → CallMark → Node
call_node naming l t top limit mark = group (codes "call") (in_turn (
    call_title naming l t mark
    ∷ tick_node (x_at l mark.column) (top + 2) (x_at l mark.column) (top + 14)
    ∷ cut_label (codes "label") (x_at l mark.column + 2) (top + 10) (room_in (limit - x_at l mark.column))
    (call_text naming mark.call)
    ∷ []))

abbrev pub call_in : Naming → Layout → ThreadId → ℕ → ℕ → Option CallMark → Node
call_in naming l t top limit None = Nothing
call_in naming l t top limit (Some mark) = call_node naming l t top limit mark

-- the call with a number
unfoldable pub call_at : Naming → Layout → ThreadId → ℕ → List CallMark → ℕ → Node
call_at naming l t top calls n = call_in naming l t top (call_limit l (slice_get calls (n + 1))) (slice_get calls n)

-- the first calls of a thread
abbrev pub calls_below : Naming → Layout → ThreadId → ℕ → List CallMark → ℕ → Node
calls_below naming l t top calls zero = Nothing
calls_below naming l t top calls (suc n) = Then (calls_below naming l t top calls n) (call_at naming l t top calls n)

-- ---- replies

abbrev pub is_refused : Reply → Bool
is_refused (reply.Refused c) = true
is_refused r = false

-- of a refusal the cause alone is told, beside its cross
abbrev pub reply_words : Reply → List ℕ
reply_words (reply.Refused c) = cause_name c
reply_words r = reply_name r

abbrev pub cross_lines : ℕ → ℕ → Node
cross_lines x y =
    Then (line (codes "cross") x y (x + 8) (y + 8) Nothing) (line (codes "cross") x (y + 8) (x + 8) y Nothing)

unfoldable pub cross_node : Reply → ℕ → ℕ → Node
cross_node r x y = if is_refused r then cross_lines x y else Nothing

-- where a label begins: behind the cross, if there is one
abbrev pub indent_of : Reply → ℕ
indent_of r = if is_refused r then 10 else 2

abbrev pub reply_limit : Layout → Option ReplyMark → ℕ
reply_limit l None = right_of l
reply_limit l (Some mark) = x_at l mark.column

unfoldable pub reply_title : Naming → Layout → ThreadId → ReplyMark → Node
reply_title naming l t mark = title (in_turn (
    thread_node naming t ∷ Words (codes " returns with ") ∷ Words (reply_name mark.reply)
    ∷ column_node l mark.column ∷ []))

unfoldable pub reply_node : Naming → Layout → ThreadId → ℕ → ℕ → ReplyMark → Node
reply_node naming l t top limit mark = group (codes "reply") (in_turn (
    reply_title naming l t mark
    ∷ tick_node (x_at l mark.column) top (x_at l mark.column) (top + 12)
    ∷ cross_node mark.reply (x_at l mark.column + 1) (top + 3)
    ∷ cut_label (codes "label") (x_at l mark.column + indent_of mark.reply) (top + 10)
    (room_in (limit - (x_at l mark.column + indent_of mark.reply))) (reply_words mark.reply)
    ∷ []))

abbrev pub reply_in : Naming → Layout → ThreadId → ℕ → ℕ → Option ReplyMark → Node
reply_in naming l t top limit None = Nothing
reply_in naming l t top limit (Some mark) = reply_node naming l t top limit mark

-- the reply with a number
unfoldable pub reply_at : Naming → Layout → ThreadId → ℕ → List ReplyMark → ℕ → Node
reply_at naming l t top replies n =
    reply_in naming l t top (reply_limit l (slice_get replies (n + 1))) (slice_get replies n)

-- the first replies of a thread
abbrev pub replies_below : Naming → Layout → ThreadId → ℕ → List ReplyMark → ℕ → Node
replies_below naming l t top replies zero = Nothing
replies_below naming l t top replies (suc n) =
    Then (replies_below naming l t top replies n) (reply_at naming l t top replies n)
