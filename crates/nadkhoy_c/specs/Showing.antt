-- What the calls that read a world answer.
use Rattle.std.specs.Prelude.{ℕ, Bool, if◌then◌else◌, nat_lt, ◌/◌, ◌%◌, ◌^◌, length, Option, Some, None}
use Rattle.lock_word.specs.declared.ThreadId.{ThreadId}
use Rattle.lock_word.specs.declared.ObjectId.{ObjectId}
use Rattle.fat_monitor.specs.declared.actions.Why.{Why}
use Rattle.fat_monitor.specs.declared.actions.Why.TheVariants as why
use Rattle.thread_index.specs.Indices.{index_of, holder_of}
use Rattle.step_core.specs.declared.machine.Doing.{Doing}
use Rattle.step_core.specs.declared.machine.Doing.TheVariants as doing
use Rattle.step_core.specs.Machine.{Thread, Monitor, is_waiting}
use Rattle.step_core.specs.World.{WorldState, word_at}
use Rattle.step_core.specs.Shown.{shown}
use Rattle.nadkhoy_c.specs.declared.plain.PlainDoing.{PlainDoing}
use Rattle.nadkhoy_c.specs.declared.plain.PlainSizes.{PlainSizes}
use Rattle.nadkhoy_c.specs.declared.plain.PlainObject.{PlainObject}
use Rattle.nadkhoy_c.specs.declared.plain.PlainThread.{PlainThread}
use Rattle.nadkhoy_c.specs.declared.status.Status.{Status}
use Rattle.nadkhoy_c.specs.declared.status.Status.TheVariants as status
use Rattle.nadkhoy_c.specs.Statuses.{status_number}
use Rattle.nadkhoy_c.specs.Reading.{object, thread}
use Rattle.nadkhoy_c.specs.Writing.{plain_call, plain_call_about, reply_number, cause_of}

abbrev pub one_if : Bool → ℕ
one_if b = if b then 1 else 0

abbrev pub why_number : Why → ℕ
why_number why.Notified = 1
why_number why.Interrupted = 2
why_number why.Elapsed = 3
why_number why.Spurious = 4

abbrev pub no_doing : PlainDoing
no_doing =
    record {
      kind = 0;
      object = 0;
      holds = 0;
      why = 0;
      reply = 0;
      cause = 0;
      has_deadline = 0;
      deadline_high = 0;
      deadline_low = 0;
      call = plain_call_about 0 0;
    }

abbrev pub waits_until : ObjectId → ℕ → Option ℕ → PlainDoing
waits_until o n None = record no_doing { kind = 3; object = o.0; holds = n }
waits_until o n (Some d) =
    record no_doing {
      kind = 3;
      object = o.0;
      holds = n;
      has_deadline = 1;
      deadline_high = d / 2 ^ 64;
      deadline_low = d % 2 ^ 64;
    }

abbrev pub plain_doing : Doing → PlainDoing
plain_doing doing.Idle = record no_doing { kind = 1 }
plain_doing (doing.Wants c) = record no_doing { kind = 2; call = plain_call c }
plain_doing (doing.Waits o n d) = waits_until o n d
plain_doing (doing.Back o n w) =
    record no_doing { kind = 4; object = o.0; holds = n; why = why_number w }
plain_doing (doing.Has r) = record no_doing { kind = 5; reply = reply_number r; cause = cause_of r }

-- the status, and what stands where the call writes
pub record Reading (X : Type 0) : Type 0 where
  pub answer : ℕ
  pub out : X

abbrev pub unread : {X : Type 0} → Status → X → Reading X
unread s x = record { answer = status_number s; out = x }

abbrev pub found : {X : Type 0} → X → Reading X
found x = record { answer = 0; out = x }

-- a reading of the world in the slot
abbrev pub read : {X : Type 0} → (WorldState → X → Reading X) → Option WorldState → X → Reading X
read f None x = unread status.Closed x
read f (Some w) x = f w x

abbrev pub plain_sizes : WorldState → PlainSizes
plain_sizes w =
    record { moment = (shown w).moment; objects = (shown w).objects; indices = length w.berths }

abbrev pub sizes_shown : WorldState → PlainSizes → Reading PlainSizes
sizes_shown w x = found (plain_sizes w)

abbrev pub is_owned : Option ThreadId → ℕ
is_owned None = 0
is_owned (Some t) = 1

abbrev pub owner_or_none : Option ThreadId → ℕ
owner_or_none None = 0
owner_or_none (Some t) = t.0

abbrev pub plain_object : WorldState → ℕ → Monitor → PlainObject
plain_object w n m =
    record {
      word = (word_at w n).0;
      is_owned = is_owned m.owner;
      owner = owner_or_none m.owner;
      holds = m.count;
    }

abbrev pub object_shown : WorldState → ℕ → PlainObject → Reading PlainObject
object_shown w n x =
    if nat_lt n (length w.words) then found (plain_object w n ((shown w).monitor (object n)))
    else unread status.NoObject x

abbrev pub plain_thread : ℕ → Thread → PlainThread
plain_thread i x = record { index = i; is_interrupted = one_if x.flag; doing = plain_doing x.act }

abbrev pub thread_as : Option ℕ → Option Thread → PlainThread → Reading PlainThread
thread_as (Some i) (Some t) x = found (plain_thread i t)
thread_as (Some i) None x = unread status.NoThread x
thread_as None t x = unread status.NoThread x

abbrev pub thread_shown : WorldState → ℕ → PlainThread → Reading PlainThread
thread_shown w n x = thread_as (index_of w.berths (thread n)) ((shown w).thread (thread n)) x

abbrev pub waiting_shown : WorldState → ℕ → ℕ → ℕ → Reading ℕ
waiting_shown w o t x =
    if nat_lt o (length w.words) then found (one_if (is_waiting ((shown w).thread (thread t)) (object o)))
    else unread status.NoObject x

abbrev pub holder_as : Option ThreadId → ℕ → Reading ℕ
holder_as (Some t) x = found t.0
holder_as None x = unread status.NoThread x

abbrev pub holder_shown : WorldState → ℕ → ℕ → Reading ℕ
holder_shown w i x = holder_as (holder_of w.berths i) x
