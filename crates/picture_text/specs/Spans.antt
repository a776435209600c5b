-- What a thread is doing, drawn from column to column.
use Rattle.std.specs.Prelude.{ℕ, zero, suc, ◌+◌, ◌-◌, Bool, true, false, List, [], ◌∷◌}
use Rattle.std.specs.Prelude.{Option, None, Some, codes, min}
use Rattle.std.specs.Prelude.{slice_get, nat_lt, if◌then◌else◌}
use Rattle.lock_word.specs.declared.ObjectId.{ObjectId}
use Rattle.lock_word.specs.declared.ThreadId.{ThreadId}
use Rattle.fast_path.specs.declared.calls.Call.{Call}
use Rattle.fast_path.specs.declared.calls.Call.TheVariants as call
use Rattle.fat_monitor.specs.declared.actions.Why.{Why}
use Rattle.fat_monitor.specs.declared.actions.Why.TheVariants as why
use Rattle.fat_monitor.specs.declared.actions.Reply.{Reply}
use Rattle.fat_monitor.specs.Names.{reply_name}
use Rattle.step_core.specs.declared.machine.Doing.{Doing}
use Rattle.step_core.specs.declared.machine.Doing.TheVariants.{Idle, Wants, Waits, Back, Has}
use Rattle.jls_check.specs.declared.threads.Live.{Live}
use Rattle.pictures.specs.declared.picture.Span.{Span}
use Rattle.picture_text.specs.declared.layout.Layout.{Layout}
use Rattle.picture_text.specs.declared.layout.Stretch.{Stretch}
use Rattle.picture_text.specs.declared.naming.Naming.{Naming}
use Rattle.picture_text.specs.Nodes.{Node, Words, Figure, Nothing, Then, in_turn}
use Rattle.picture_text.specs.Pieces.{box, label, line, title}
use Rattle.picture_text.specs.Labels.{cut_label, room_in}
use Rattle.picture_text.specs.Layout.{x_at, width_of}
use Rattle.picture_text.specs.Naming.{thread_node, object_node, call_text}

-- the numbers of some columns in the whole history
unfoldable pub columns_node : Layout → Stretch → Node
columns_node l s = in_turn (
    Words (codes ", columns ") ∷ Figure (l.first + s.from) ∷ Words (codes " to ") ∷ Figure (l.first + s.to - 1) ∷ [])

abbrev pub why_words : Why → List ℕ
why_words why.Notified = codes "notified"
why_words why.Interrupted = codes "interrupted"
why_words why.Elapsed = codes "its time is over"
why_words why.Spurious = codes "spurious"

-- what a thread is doing, in words
abbrev pub wants_node : Naming → Call → Node
wants_node naming c = Then (Words (codes " wants ")) (Words (call_text naming c))

abbrev pub waits_node : Naming → ObjectId → ℕ → Node
waits_node naming o n = in_turn (
    Words (codes " waits on ") ∷ object_node naming o ∷ Words (codes ", gave up ") ∷ Figure n ∷ [])

abbrev pub back_node : Naming → ObjectId → ℕ → Why → Node
back_node naming o n w = in_turn (
    Words (codes " back from ") ∷ object_node naming o ∷ Words (codes " (") ∷ Words (why_words w)
    ∷ Words (codes "), holds ") ∷ Figure n ∷ [])

abbrev pub has_node : Reply → Node
has_node r = Then (Words (codes " has reply ")) (Words (reply_name r))

unfoldable pub doing_node : Naming → Doing → Node
doing_node naming Idle = Words (codes " is in no call")
doing_node naming (Wants c) = wants_node naming c
doing_node naming (Waits o n d) = waits_node naming o n
doing_node naming (Back o n w) = back_node naming o n w
doing_node naming (Has r) = has_node r

unfoldable pub span_title : Naming → Layout → ThreadId → Doing → Stretch → Node
span_title naming l t act s =
    title (in_turn (thread_node naming t ∷ doing_node naming act ∷ columns_node l s ∷ []))

-- how a box looks, and the word in it
abbrev pub doing_look : Doing → List ℕ
doing_look Idle = codes "idle"
doing_look (Wants (call.Enter o)) = codes "entry"
doing_look (Wants c) = codes "wants"
doing_look (Waits o n d) = codes "waits"
doing_look (Back o n w) = codes "back"
doing_look (Has r) = codes "has"

abbrev pub is_idle : Doing → Bool
is_idle Idle = true
is_idle (Wants c) = false
is_idle (Waits o n d) = false
is_idle (Back o n w) = false
is_idle (Has r) = false

-- a thin line for a thread that is in no call
unfoldable pub idle_node : Naming → Layout → ThreadId → Doing → Stretch → ℕ → Node
idle_node naming l t act s top =
    line (codes "idle") (x_at l s.from) (top + 23) (x_at l s.to) (top + 23) (span_title naming l t act s)

-- a box for another, and a word in it where there is room
unfoldable pub state_node : Naming → Layout → ThreadId → Doing → Stretch → ℕ → Node
state_node naming l t act s top = Then (
    box (doing_look act) (x_at l s.from) (top + 14) (width_of l s) 18 (span_title naming l t act s)) (
    cut_label (codes "state") (x_at l s.from + 3) (top + 27) (room_in (width_of l s)) (doing_look act))

unfoldable pub doing_shape : Naming → Layout → ThreadId → Doing → Stretch → ℕ → Node
doing_shape naming l t act s top =
    if is_idle act then idle_node naming l t act s top else state_node naming l t act s top

-- a mark at the right end, where there is room for it
unfoldable pub flag_mark : ℕ → ℕ → ℕ → Node
flag_mark x y width = if nat_lt width 8 then Nothing else label (codes "mark") (x + width - 8) y (Words (codes "!"))

unfoldable pub flag_title : Naming → Layout → ThreadId → Stretch → Node
flag_title naming l t s =
    title (in_turn (thread_node naming t ∷ Words (codes " interrupted") ∷ columns_node l s ∷ []))

unfoldable pub flag_node : Naming → Layout → ThreadId → Bool → Stretch → ℕ → Node
flag_node naming l t false s top = Nothing
flag_node naming l t true s top = in_turn (
    box (codes "flag") (x_at l s.from) (top + 34) (width_of l s) 3 (flag_title naming l t s)
    ∷ flag_mark (x_at l s.from) (top + 31) (width_of l s) ∷ [])

abbrev pub live_node : Naming → Layout → ThreadId → Live → Stretch → ℕ → Node
live_node naming l t live s top =
    Then (doing_shape naming l t live.act s top) (flag_node naming l t live.flag s top)

-- nothing where the thread is not live
unfoldable pub span_node : Naming → Layout → ThreadId → Option Live → Stretch → ℕ → Node
span_node naming l t None s top = Nothing
span_node naming l t (Some live) s top = live_node naming l t live s top

-- where a span ends that begins there
unfoldable pub end_from : Layout → ℕ → Option Span → ℕ
end_from l from None = from
end_from l from (Some span) = min (from + span.columns) l.columns

-- where the span with a number begins
abbrev pub begin_of : Layout → List Span → ℕ → ℕ
begin_of l spans zero = 0
begin_of l spans (suc n) = end_from l (begin_of l spans n) (slice_get spans n)

unfoldable pub span_from : Naming → Layout → ThreadId → ℕ → ℕ → Option Span → Node
span_from naming l t top from None = Nothing
span_from naming l t top from (Some span) =
    span_node naming l t span.live (record { from = from; to = min (from + span.columns) l.columns }) top

-- the first spans of a thread
abbrev pub spans_below : Naming → Layout → ThreadId → ℕ → List Span → ℕ → Node
spans_below naming l t top spans zero = Nothing
spans_below naming l t top spans (suc n) =
    Then (spans_below naming l t top spans n) (span_from naming l t top (begin_of l spans n) (slice_get spans n))
