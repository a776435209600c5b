-- What a Go leaves and does, from the load of a word to an action on the fat monitors.
use Rattle.std.specs.Prelude.{ℕ, ◌+◌, Bool, true, false, if◌then◌else◌, nat_lt, List, length, slice_set, Option, Some}
use Rattle.std.specs.Prelude.{None, Result, Ok, Err}
use Rattle.lock_word.specs.declared.ThreadId.{ThreadId}
use Rattle.lock_word.specs.declared.ObjectId.{ObjectId}
use Rattle.lock_word.specs.declared.Word.{Word}
use Rattle.lock_word.specs.declared.Lock.{Lock}
use Rattle.lock_word.specs.declared.Lock.TheVariants.{Free, Thin, Fat}
use Rattle.lock_word.specs.Layout.{with_lock, count_of}
use Rattle.fat_monitor.specs.declared.actions.Cause.{Cause}
use Rattle.fat_monitor.specs.declared.actions.Cause.TheVariants as cause
use Rattle.fat_monitor.specs.declared.actions.Reply.{Reply}
use Rattle.fat_monitor.specs.declared.actions.Reply.TheVariants as reply
use Rattle.fat_monitor.specs.declared.actions.Action.{Action}
use Rattle.fat_monitor.specs.declared.actions.Action.TheVariants as action
use Rattle.fat_monitor.specs.declared.actions.Answer.{Answer}
use Rattle.fat_monitor.specs.declared.actions.Answer.TheVariants as answer
use Rattle.fat_monitor.specs.declared.actions.Done.{Done}
use Rattle.fat_monitor.specs.declared.actions.ActFault.{ActFault}
use Rattle.fat_monitor.specs.FatState.{FatState, bound_with}
use Rattle.fat_monitor.specs.Acting.{outcome_of}
use Rattle.fast_path.specs.declared.calls.Call.{Call}
use Rattle.fast_path.specs.declared.calls.Operation.{Operation}
use Rattle.fast_path.specs.declared.calls.Operation.TheVariants as op
use Rattle.fast_path.specs.declared.calls.MonitorCall.{MonitorCall}
use Rattle.fast_path.specs.declared.calls.InterruptCall.{InterruptCall}
use Rattle.fast_path.specs.declared.calls.InterruptCall.TheVariants as about
use Rattle.fast_path.specs.declared.Next.{Next}
use Rattle.fast_path.specs.declared.Next.TheVariants as next
use Rattle.fast_path.specs.Calls.{call_of, call_about}
use Rattle.fast_path.specs.Table.{next_of}
use Rattle.step_core.specs.declared.places.Place.{Place}
use Rattle.step_core.specs.declared.places.Place.TheVariants.{Idle, InCall, Ending, AtPost}
use Rattle.step_core.specs.declared.places.Stage.{Stage}
use Rattle.step_core.specs.declared.places.Stage.TheVariants.{Begun, Taking, Storing, Binding, Acting, Won, Bound}
use Rattle.step_core.specs.declared.places.Stage.TheVariants.{Inflated, Direct}
use Rattle.step_core.specs.declared.machine.Move.TheVariants as move
use Rattle.step_core.specs.declared.steps.Atomic.{Atomic}
use Rattle.step_core.specs.declared.steps.Atomic.TheVariants as atomic
use Rattle.step_core.specs.declared.steps.Did.{Did}
use Rattle.step_core.specs.World.{WorldState, word_at, lock_at}
use Rattle.step_core.specs.Did.{move_for, no_move, one_move, move_and_return, return_alone, did_action}

-- What a Go leaves: the words, the fat state and the place of its thread; and what it did.
pub record AfterGo : Type 0 where
  pub words : List Word
  pub fats : FatState
  pub place : Place
  pub did : Did

-- the world with what a Go of the thread at berth k leaves
abbrev pub with_go : WorldState → ℕ → AfterGo → WorldState
with_go w k a = record w { words = a.words; fats = a.fats; places = slice_set w.places k a.place }

-- nothing but the place changes
abbrev pub place_only : WorldState → Place → Did → AfterGo
place_only w p d = record { words = w.words; fats = w.fats; place = p; did = d }

-- the word of o becomes x
abbrev pub word_written : WorldState → ObjectId → Word → Place → Did → AfterGo
word_written w o x p d = record { words = slice_set w.words o.0 x; fats = w.fats; place = p; did = d }

-- the fat state becomes f
abbrev pub fats_changed : WorldState → FatState → Place → Did → AfterGo
fats_changed w f p d = record { words = w.words; fats = f; place = p; did = d }

-- the word of o with this lock
abbrev pub new_word : WorldState → ObjectId → Lock → Word
new_word w o l = record { 0 = with_lock w.split (word_at w o.0).0 l }

-- the load of the word of o
abbrev pub load_of : WorldState → ObjectId → Atomic
load_of w o = atomic.Load o (word_at w o.0)

-- the word of o is not the free one
abbrev pub lost_at : WorldState → ObjectId → Atomic
lost_at w o = atomic.Lost o (word_at w o.0)

-- the word of o becomes one with this lock, by an exchange or by a store
abbrev pub won_at : WorldState → ObjectId → Lock → Atomic
won_at w o l = atomic.Won o (word_at w o.0) (new_word w o l)

abbrev pub stored_at : WorldState → ObjectId → Lock → Atomic
stored_at w o l = atomic.Stored o (word_at w o.0) (new_word w o l)

-- a load of a word that calls for this
abbrev pub after_load : WorldState → ThreadId → MonitorCall → Bool → Next → AfterGo
after_load w t c contended (next.Reply r) =
    place_only w Idle (move_and_return (load_of w c.object) (move_for (call_of c) r None t) t r)
after_load w t c contended (next.Cas l) =
    place_only w (InCall (Taking c.object contended)) (no_move (load_of w c.object))
after_load w t c contended (next.Store l) = place_only w (InCall (Storing c l)) (no_move (load_of w c.object))
after_load w t c contended next.Bind =
    place_only w (InCall (Binding c (count_of (lock_at w c.object.0)))) (no_move (load_of w c.object))
after_load w t c contended (next.Fat m) = place_only w (InCall (Acting c m)) (no_move (load_of w c.object))
after_load w t c contended next.Spin = place_only w (InCall (Begun c true)) (no_move (load_of w c.object))

-- the call that enters o
abbrev pub entering : ObjectId → MonitorCall
entering o = record { object = o; operation = op.Enter }

-- an exchange that finds this lock: only the free one is taken
abbrev pub after_take : WorldState → ℕ → ThreadId → ObjectId → Bool → Lock → AfterGo
after_take w k t o true Free =
    word_written w o (new_word w o (Thin (k + 1) 0)) (InCall (Won o))
    (one_move (won_at w o (Thin (k + 1) 0)) (move.Lock t))
after_take w k t o false Free =
    word_written w o (new_word w o (Thin (k + 1) 0)) Idle
    (move_and_return (won_at w o (Thin (k + 1) 0)) (move.Lock t) t reply.Entered)
after_take w k t o contended (Thin i c) = place_only w (InCall (Begun (entering o) true)) (no_move (lost_at w o))
after_take w k t o contended (Fat m) = place_only w (InCall (Begun (entering o) true)) (no_move (lost_at w o))

-- what a call replies when its thin or free word is stored: only an enter and an exit store one
abbrev pub stored_reply : Operation → Reply
stored_reply op.Exit = reply.Exited
stored_reply p = reply.Entered

-- the store of a thin or free word
abbrev pub after_store : WorldState → ThreadId → MonitorCall → Lock → AfterGo
after_store w t c l =
    word_written w c.object (new_word w c.object l) Idle
    (move_and_return (stored_at w c.object l) (move_for (call_of c) (stored_reply c.operation) None t) t
    (stored_reply c.operation))

-- A bind of an object that is held n times; refused for a cause, or not. A contended enter that has won
-- has its reply, and drops the inflation where it is refused.
abbrev pub after_bind : WorldState → ThreadId → MonitorCall → Bool → ℕ → Option Cause → AfterGo
after_bind w t c won n None =
    fats_changed w (bound_with w.fats c.object t n) (InCall (Bound c won (length w.fats.monitors)))
    (no_move (atomic.Bound c.object (length w.fats.monitors)))
after_bind w t c true n (Some cause) = place_only w Idle (return_alone (atomic.NotBound c.object cause) t reply.Entered)
after_bind w t c false n (Some cause) =
    place_only w Idle (move_and_return (atomic.NotBound c.object cause) (move.Refuse t cause) t (reply.Refused cause))

-- the store of a fat word
abbrev pub after_publish : WorldState → ThreadId → MonitorCall → Bool → ℕ → AfterGo
after_publish w t c true m =
    word_written w c.object (new_word w c.object (Fat m)) Idle
    (return_alone (stored_at w c.object (Fat m)) t reply.Entered)
after_publish w t c false m =
    word_written w c.object (new_word w c.object (Fat m)) (InCall (Inflated c m))
    (no_move (stored_at w c.object (Fat m)))

-- the fat action of an operation's own name
abbrev pub action_on : Operation → ℕ → Action
action_on op.Enter m = action.Enter m
action_on op.Exit m = action.Exit m
action_on (op.Wait millis nanos) m = action.Wait m millis nanos
action_on op.Notify m = action.Notify m
action_on op.NotifyAll m = action.NotifyAll m
action_on op.Holds m = action.Holds m

-- the fat action of the own name of a call about interrupts
abbrev pub action_about : InterruptCall → Action
action_about (about.Interrupt u) = action.Interrupt u
action_about about.Interrupted = action.Interrupted
action_about (about.IsInterrupted u) = action.IsInterrupted u

-- where the call stands then
abbrev pub place_after : Answer → Place
place_after (answer.Reply r) = Idle
place_after a = AtPost

-- The fat action of a call, which is never refused: only an Expire, a Spurious and a Collect may be.
abbrev pub after_told : WorldState → ThreadId → Call → Action → Result Done ActFault → FatState → AfterGo
after_told w t c a (Ok d) f = fats_changed w f (place_after d.answer) (did_action c a f t d)
after_told w t c a (Err e) f = place_only w Idle (no_move atomic.Label)

abbrev pub after_act : WorldState → ThreadId → Call → Action → AfterGo
after_act w t c a = after_told w t c a (outcome_of w.fats t a).answer (outcome_of w.fats t a).after

-- why a bind is refused, if it is; room says whether the memory is granted
abbrev pub bind_cause : Bool → FatState → Option Cause
bind_cause room f =
    if nat_lt (length f.monitors) f.limit then (if room then None else Some cause.Memory) else Some cause.NoMonitor

-- a load by a thread that is to end, of a word that is its own thin one or not
abbrev pub after_look_as : WorldState → ThreadId → ℕ → Bool → AfterGo
after_look_as w t n true =
    place_only w Idle
    (move_and_return (load_of w (record { 0 = n })) (move.Refuse t cause.StillOwner) t (reply.Refused cause.StillOwner))
after_look_as w t n false = place_only w (Ending (n + 1)) (no_move (load_of w (record { 0 = n })))

-- What a Go does at each stage of a call.
abbrev pub after_stage : Bool → WorldState → ℕ → ThreadId → Stage → AfterGo
after_stage room w k t (Begun c contended) =
    after_load w t c contended (next_of w.split c.operation (lock_at w c.object.0) (k + 1))
after_stage room w k t (Taking o contended) = after_take w k t o contended (lock_at w o.0)
after_stage room w k t (Storing c l) = after_store w t c l
after_stage room w k t (Binding c n) = after_bind w t c false (n + 1) (bind_cause room w.fats)
after_stage room w k t (Acting c m) = after_act w t (call_of c) (action_on c.operation m)
after_stage room w k t (Won o) = after_bind w t (entering o) true 1 (bind_cause room w.fats)
after_stage room w k t (Bound c won m) = after_publish w t c won m
after_stage room w k t (Inflated c m) = after_act w t (call_of c) (action_on c.operation m)
after_stage room w k t (Direct c) = after_act w t (call_about c) (action_about c)
