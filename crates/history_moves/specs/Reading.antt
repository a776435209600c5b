-- Reading a move from data: by its name, and then by how many members there are.
use Rattle.std.specs.Prelude.{ℕ, List, Bool, ◌&&◌, ◌||◌, ◌==◌, nat_lt, if◌then◌else◌, Option, None, Some, option_map}
use Rattle.std.specs.Prelude.{option_and_then, codes}
use Rattle.std.specs.Str.{bytes_eq}
use Rattle.serde_json.specs.Data.{Data}
use Rattle.lock_word.specs.declared.ThreadId.{ThreadId}
use Rattle.fat_monitor.specs.declared.actions.Cause.{Cause}
use Rattle.fat_monitor.specs.declared.actions.Reply.TheVariants as reply
use Rattle.fast_path.specs.declared.calls.Call.{Call as CallData}
use Rattle.fast_path.specs.declared.calls.Call.TheVariants as call
use Rattle.step_core.specs.declared.machine.Move.{Move}
use Rattle.step_core.specs.declared.machine.Move.TheVariants as move
use Rattle.history_moves.specs.Members.{count_in, text_at, whole_at, now_at, millis_at, nanos_at, thread_number}
use Rattle.history_moves.specs.Members.{thread_at, object_at, chosen_at}
use Rattle.history_moves.specs.Words.{among, object_calls, target_calls, bare_calls, short_replies, causes, plain_from}

-- ---- shapes

abbrev pub object_call : Data → List ℕ → Option CallData
object_call d verb = option_and_then (λ o. option_map (λ made. made o) (among object_calls verb)) (object_at d)

abbrev pub target_call : Data → List ℕ → Option CallData
target_call d verb =
    option_and_then (λ u. option_map (λ made. made u) (among target_calls verb)) (thread_number (codes "target") d)

abbrev pub wait_call : Data → Option CallData
wait_call d =
    option_and_then (λ o. option_and_then (λ m. option_map (λ n. call.Wait o m n) (nanos_at d)) (millis_at d))
    (object_at d)

abbrev pub is_targeted : List ℕ → Bool
is_targeted verb = bytes_eq verb (codes "Interrupt") || bytes_eq verb (codes "IsInterrupted")

abbrev pub call_of : ℕ → Data → List ℕ → Option CallData
call_of n d verb = if n == 3 then among bare_calls verb
    else (if n == 4 && is_targeted verb then target_call d verb
    else (if n == 4 then object_call d verb
    else (if n == 6 && bytes_eq verb (codes "Wait") then wait_call d else None)))

abbrev pub call_from : ℕ → Data → ThreadId → Option Move
call_from n d t =
    option_and_then (λ verb. option_map (λ c. move.Call t c) (call_of n d verb)) (text_at (codes "call") d)

abbrev pub reply_from : Data → ThreadId → Option Move
reply_from d t =
    option_and_then (λ word. option_map (λ r. move.Return t r) (among short_replies word)) (text_at (codes "reply") d)

abbrev pub cause_at : Data → Option Cause
cause_at d = option_and_then (among causes) (text_at (codes "cause") d)

abbrev pub refused_from : Data → ThreadId → Option Move
refused_from d t =
    option_and_then
    (λ word. if bytes_eq word (codes "Refused")
    then option_map (λ c. move.Return t (reply.Refused c)) (cause_at d) else None)
    (text_at (codes "reply") d)

abbrev pub notify_from : Data → ThreadId → Option Move
notify_from d t = option_map (λ u. move.Notify t u) (chosen_at d)

abbrev pub refuse_from : Data → ThreadId → Option Move
refuse_from d t = option_map (λ c. move.Refuse t c) (cause_at d)

-- a move of a thread, with so many members and this name
abbrev pub three_from : Data → List ℕ → ThreadId → Option Move
three_from d name t = if bytes_eq name (codes "Return") then reply_from d t
    else (if bytes_eq name (codes "Notify") then notify_from d t
    else (if bytes_eq name (codes "Refuse") then refuse_from d t else None))

abbrev pub thread_move : ℕ → Data → List ℕ → ThreadId → Option Move
thread_move n d name t = if n == 2 then plain_from name t
    else (if bytes_eq name (codes "Call") then call_from n d t
    else (if n == 3 then three_from d name t
    else (if n == 4 && bytes_eq name (codes "Return") then refused_from d t else None)))

abbrev pub move_named : ℕ → Data → List ℕ → Option Move
move_named n d name = if n == 2 && bytes_eq name (codes "Time") then option_map (λ now. move.Time now) (now_at d)
    else option_and_then (thread_move n d name) (thread_at d)

unfoldable pub move_from : Data → Option Move
move_from d = option_and_then (λ n. option_and_then (move_named n d) (text_at (codes "move") d)) (count_in d)

-- ---- the first line

abbrev pub objects_at : Data → Option ℕ
objects_at d = option_and_then (λ n. if nat_lt n 65536 then Some n else None) (whole_at (codes "objects") d)

unfoldable pub first_from : Data → Option ℕ
first_from d = option_and_then (λ n. if n == 1 then objects_at d else None) (count_in d)
