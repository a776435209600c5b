-- What the words stand for that name moves, calls, replies and causes.
use Rattle.std.specs.Prelude.{List, ℕ, [], ◌∷◌, if◌then◌else◌, Option, None, Some, option_map, codes}
use Rattle.std.specs.Str.{bytes_eq}
use Rattle.lock_word.specs.declared.ThreadId.{ThreadId}
use Rattle.lock_word.specs.declared.ObjectId.{ObjectId}
use Rattle.fat_monitor.specs.declared.actions.Cause.{Cause}
use Rattle.fat_monitor.specs.declared.actions.Cause.TheVariants as cause
use Rattle.fat_monitor.specs.declared.actions.Reply.{Reply}
use Rattle.fat_monitor.specs.declared.actions.Reply.TheVariants as reply
use Rattle.fast_path.specs.declared.calls.Call.{Call as CallData}
use Rattle.fast_path.specs.declared.calls.Call.TheVariants as call
use Rattle.step_core.specs.declared.machine.Move.{Move}
use Rattle.step_core.specs.declared.machine.Move.TheVariants as move

-- what a name stands for
pub record Row (A : Type 0) : Type 0 where
  pub name : List ℕ
  pub made : A

abbrev pub among : {A : Type 0} → List (Row A) → List ℕ → Option A
among [] name = None
among (p ∷ ps) name = if bytes_eq name p.name then Some p.made else among ps name

abbrev pub plain_moves : List (Row (ThreadId → Move))
plain_moves =
    record { name = codes "Attach"; made = λ t. move.Attach t }
    ∷ record { name = codes "Lock"; made = λ t. move.Lock t }
    ∷ record { name = codes "Unlock"; made = λ t. move.Unlock t }
    ∷ record { name = codes "Illegal"; made = λ t. move.Illegal t }
    ∷ record { name = codes "BadArgument"; made = λ t. move.BadArgument t }
    ∷ record { name = codes "Early"; made = λ t. move.Early t }
    ∷ record { name = codes "Wait"; made = λ t. move.Wait t }
    ∷ record { name = codes "NotifyAll"; made = λ t. move.NotifyAll t }
    ∷ record { name = codes "Interrupt"; made = λ t. move.Interrupt t }
    ∷ record { name = codes "TestClear"; made = λ t. move.TestClear t }
    ∷ record { name = codes "Ask"; made = λ t. move.Ask t }
    ∷ record { name = codes "Expire"; made = λ t. move.Expire t }
    ∷ record { name = codes "Spurious"; made = λ t. move.Spurious t }
    ∷ record { name = codes "Relock"; made = λ t. move.Relock t }
    ∷ record { name = codes "End"; made = λ t. move.End t }
    ∷ []

abbrev pub object_calls : List (Row (ObjectId → CallData))
object_calls =
    record { name = codes "Enter"; made = λ o. call.Enter o }
    ∷ record { name = codes "Exit"; made = λ o. call.Exit o }
    ∷ record { name = codes "Notify"; made = λ o. call.Notify o }
    ∷ record { name = codes "NotifyAll"; made = λ o. call.NotifyAll o }
    ∷ record { name = codes "Holds"; made = λ o. call.Holds o }
    ∷ []

abbrev pub target_calls : List (Row (ThreadId → CallData))
target_calls =
    record { name = codes "Interrupt"; made = λ u. call.Interrupt u }
    ∷ record { name = codes "IsInterrupted"; made = λ u. call.IsInterrupted u }
    ∷ []

abbrev pub bare_calls : List (Row CallData)
bare_calls =
    record { name = codes "Interrupted"; made = call.Interrupted }
    ∷ record { name = codes "End"; made = call.End }
    ∷ []

abbrev pub short_replies : List (Row Reply)
short_replies =
    record { name = codes "Entered"; made = reply.Entered }
    ∷ record { name = codes "Exited"; made = reply.Exited }
    ∷ record { name = codes "WaitOver"; made = reply.WaitOver }
    ∷ record { name = codes "Interrupted"; made = reply.Interrupted }
    ∷ record { name = codes "Notified"; made = reply.Notified }
    ∷ record { name = codes "Yes"; made = reply.Yes }
    ∷ record { name = codes "No"; made = reply.No }
    ∷ record { name = codes "Done"; made = reply.Done }
    ∷ record { name = codes "Ended"; made = reply.Ended }
    ∷ record { name = codes "IllegalMonitorState"; made = reply.IllegalMonitorState }
    ∷ record { name = codes "IllegalArgument"; made = reply.IllegalArgument }
    ∷ []

abbrev pub causes : List (Row Cause)
causes =
    record { name = codes "NoMonitor"; made = cause.NoMonitor }
    ∷ record { name = codes "Memory"; made = cause.Memory }
    ∷ record { name = codes "TooDeep"; made = cause.TooDeep }
    ∷ record { name = codes "StillOwner"; made = cause.StillOwner }
    ∷ record { name = codes "NoThread"; made = cause.NoThread }
    ∷ []

abbrev pub plain_from : List ℕ → ThreadId → Option Move
plain_from name t = option_map (λ made. made t) (among plain_moves name)
