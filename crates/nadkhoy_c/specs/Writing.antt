-- What a step did, as numbers.
use Rattle.std.specs.Prelude.{ℕ, pos, map, Option, Some, None}
use Rattle.lock_word.specs.declared.ThreadId.{ThreadId}
use Rattle.lock_word.specs.declared.ObjectId.{ObjectId}
use Rattle.lock_word.specs.declared.Word.{Word}
use Rattle.fast_path.specs.declared.calls.Call.{Call}
use Rattle.fast_path.specs.declared.calls.Call.TheVariants as call
use Rattle.fat_monitor.specs.Names.{cause_number}
use Rattle.fat_monitor.specs.declared.actions.Reply.{Reply}
use Rattle.fat_monitor.specs.declared.actions.Reply.TheVariants as reply
use Rattle.fat_monitor.specs.declared.actions.Action.{Action}
use Rattle.fat_monitor.specs.declared.actions.Action.TheVariants as action
use Rattle.fat_monitor.specs.declared.actions.Answer.{Answer}
use Rattle.fat_monitor.specs.declared.actions.Answer.TheVariants as answer
use Rattle.step_core.specs.declared.machine.Move.{Move}
use Rattle.step_core.specs.declared.machine.Move.TheVariants as move
use Rattle.step_core.specs.declared.steps.Atomic.{Atomic}
use Rattle.step_core.specs.declared.steps.Atomic.TheVariants as atomic
use Rattle.step_core.specs.declared.steps.Did.{Did}
use Rattle.nadkhoy_c.specs.declared.plain.PlainCall.{PlainCall}
use Rattle.nadkhoy_c.specs.declared.plain.PlainMove.{PlainMove}
use Rattle.nadkhoy_c.specs.declared.plain.PlainAtomic.{PlainAtomic}
use Rattle.nadkhoy_c.specs.declared.plain.PlainDid.{PlainDid}

abbrev pub plain_call_about : ℕ → ℕ → PlainCall
plain_call_about n target = record { millis = pos 0; nanos = pos 0; kind = n; target = target }

abbrev pub plain_call : Call → PlainCall
plain_call (call.Enter o) = plain_call_about 1 o.0
plain_call (call.Exit o) = plain_call_about 2 o.0
plain_call (call.Wait o millis nanos) =
    record { millis = millis; nanos = nanos; kind = 3; target = o.0 }
plain_call (call.Notify o) = plain_call_about 4 o.0
plain_call (call.NotifyAll o) = plain_call_about 5 o.0
plain_call (call.Holds o) = plain_call_about 6 o.0
plain_call (call.Interrupt u) = plain_call_about 7 u.0
plain_call call.Interrupted = plain_call_about 8 0
plain_call (call.IsInterrupted u) = plain_call_about 9 u.0
plain_call call.End = plain_call_about 10 0

abbrev pub reply_number : Reply → ℕ
reply_number reply.Entered = 1
reply_number reply.Exited = 2
reply_number reply.WaitOver = 3
reply_number reply.Interrupted = 4
reply_number reply.Notified = 5
reply_number reply.Yes = 6
reply_number reply.No = 7
reply_number reply.Done = 8
reply_number reply.Ended = 9
reply_number reply.IllegalMonitorState = 10
reply_number reply.IllegalArgument = 11
reply_number (reply.Refused c) = 12

-- the cause of a refusal, and 0 for another reply
abbrev pub cause_of : Reply → ℕ
cause_of reply.Entered = 0
cause_of reply.Exited = 0
cause_of reply.WaitOver = 0
cause_of reply.Interrupted = 0
cause_of reply.Notified = 0
cause_of reply.Yes = 0
cause_of reply.No = 0
cause_of reply.Done = 0
cause_of reply.Ended = 0
cause_of reply.IllegalMonitorState = 0
cause_of reply.IllegalArgument = 0
cause_of (reply.Refused c) = cause_number c

abbrev pub no_plain_move : PlainMove
no_plain_move =
    record {
      kind = 0;
      thread = 0;
      reply = 0;
      cause = 0;
      has_chosen = 0;
      chosen = 0;
      moment = 0;
      call = plain_call_about 0 0;
    }

abbrev pub of_thread : ℕ → ThreadId → PlainMove
of_thread n t = record no_plain_move { kind = n; thread = t.0 }

abbrev pub plain_move : Move → PlainMove
plain_move (move.Attach t) = of_thread 1 t
plain_move (move.Call t c) = record (of_thread 2 t) { call = plain_call c }
plain_move (move.Return t r) = record (of_thread 3 t) { reply = reply_number r; cause = cause_of r }
plain_move (move.Lock t) = of_thread 4 t
plain_move (move.Unlock t) = of_thread 5 t
plain_move (move.Illegal t) = of_thread 6 t
plain_move (move.BadArgument t) = of_thread 7 t
plain_move (move.Early t) = of_thread 8 t
plain_move (move.Wait t) = of_thread 9 t
plain_move (move.Notify t None) = of_thread 10 t
plain_move (move.Notify t (Some u)) = record (of_thread 10 t) { has_chosen = 1; chosen = u.0 }
plain_move (move.NotifyAll t) = of_thread 11 t
plain_move (move.Interrupt t) = of_thread 12 t
plain_move (move.TestClear t) = of_thread 13 t
plain_move (move.Expire t) = of_thread 14 t
plain_move (move.Spurious t) = of_thread 15 t
plain_move (move.Relock t) = of_thread 16 t
plain_move (move.Ask t) = of_thread 17 t
plain_move (move.Refuse t c) = record (of_thread 18 t) { cause = cause_number c }
plain_move (move.End t) = of_thread 19 t
plain_move (move.Time n) = record no_plain_move { kind = 20; moment = n }

abbrev pub plain_move_or_none : Option Move → PlainMove
plain_move_or_none None = no_plain_move
plain_move_or_none (Some m) = plain_move m

abbrev pub action_number : Action → ℕ
action_number (action.Enter m) = 1
action_number (action.Exit m) = 2
action_number (action.Wait m millis nanos) = 3
action_number (action.Notify m) = 4
action_number (action.NotifyAll m) = 5
action_number (action.Holds m) = 6
action_number (action.Interrupt u) = 7
action_number action.Interrupted = 8
action_number (action.IsInterrupted u) = 9
action_number action.Expire = 10
action_number action.Spurious = 11
action_number action.Collect = 12
action_number action.End = 13

abbrev pub answer_number : Answer → ℕ
answer_number (answer.Reply r) = 1
answer_number answer.Parked = 2
answer_number answer.Quiet = 3

abbrev pub no_change : PlainAtomic
no_change =
    record { kind = 0; object = 0; before = 0; after = 0; monitor = 0; cause = 0; action = 0; answer = 0 }

abbrev pub on_word : ℕ → ObjectId → Word → Word → PlainAtomic
on_word n o v w = record no_change { kind = n; object = o.0; before = v.0; after = w.0 }

abbrev pub plain_atomic : Atomic → PlainAtomic
plain_atomic atomic.Label = no_change
plain_atomic (atomic.Load o w) = on_word 1 o w w
plain_atomic (atomic.Won o v w) = on_word 2 o v w
plain_atomic (atomic.Lost o w) = on_word 3 o w w
plain_atomic (atomic.Stored o v w) = on_word 4 o v w
plain_atomic (atomic.Bound o m) = record no_change { kind = 5; object = o.0; monitor = m }
plain_atomic (atomic.NotBound o c) =
    record no_change { kind = 6; object = o.0; cause = cause_number c }
plain_atomic (atomic.Acted a x) =
    record no_change { kind = 7; action = action_number a; answer = answer_number x }

-- 0 where there is no reply yet
abbrev pub reply_or_none : Option Reply → ℕ
reply_or_none None = 0
reply_or_none (Some r) = reply_number r

abbrev pub cause_or_none : Option Reply → ℕ
cause_or_none None = 0
cause_or_none (Some r) = cause_of r

abbrev pub plain_did : Did → PlainDid
plain_did d =
    record {
      atomic = plain_atomic d.atomic;
      reply = reply_or_none d.reply;
      cause = cause_or_none d.reply;
      moves = map plain_move_or_none d.moves;
    }
