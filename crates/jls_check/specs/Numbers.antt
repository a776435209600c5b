-- The numbers of a machine: two machines whose threads have numbers below the same one share them exactly where they
-- are the same.
use Rattle.std.specs.Prelude.{◌≡◌, ℕ, zero, suc, ◌+◌, ◌≤◌, List, [], ◌∷◌, ◌++◌, length, Option, Some, None}
use Rattle.std.specs.FinMap as map
use Rattle.fat_monitor.specs.Numbers.{deadline_numbers, owner_number, reply_number, truth_number, why_number}
use Rattle.fast_path.specs.declared.calls.Call.{Call}
use Rattle.fast_path.specs.declared.calls.Call.TheVariants as call
use Rattle.step_core.specs.Numbers.{signed_numbers}
use Rattle.step_core.specs.declared.machine.Doing.{Doing}
use Rattle.step_core.specs.declared.machine.Doing.TheVariants.{Idle, Wants, Waits, Back, Has}
use Rattle.jls_check.specs.declared.monitors.ObjectRecord.{ObjectRecord}
use Rattle.jls_check.specs.declared.threads.ThreadRecord.{ThreadRecord}
use Rattle.jls_check.specs.LiveThreads.{LiveThreads}
use Rattle.jls_check.specs.MachineState.{MachineState}

abbrev pub call_numbers : Call → List ℕ
call_numbers (call.Enter o) = 0 ∷ o.0 ∷ []
call_numbers (call.Exit o) = 1 ∷ o.0 ∷ []
call_numbers (call.Wait o millis nanos) = 2 ∷ o.0 ∷ (signed_numbers millis ++ signed_numbers nanos)
call_numbers (call.Notify o) = 3 ∷ o.0 ∷ []
call_numbers (call.NotifyAll o) = 4 ∷ o.0 ∷ []
call_numbers (call.Holds o) = 5 ∷ o.0 ∷ []
call_numbers (call.Interrupt t) = 6 ∷ t.0 ∷ []
call_numbers call.Interrupted = 7 ∷ 0 ∷ []
call_numbers (call.IsInterrupted t) = 8 ∷ t.0 ∷ []
call_numbers call.End = 9 ∷ 0 ∷ []

abbrev pub doing_numbers : Doing → List ℕ
doing_numbers Idle = 0 ∷ []
doing_numbers (Wants c) = 1 ∷ call_numbers c
doing_numbers (Waits o n d) = 2 ∷ o.0 ∷ n ∷ deadline_numbers d
doing_numbers (Back o n w) = 3 ∷ o.0 ∷ n ∷ why_number w ∷ []
doing_numbers (Has r) = 4 ∷ reply_number r ∷ []

-- 0 where the thread is not live
abbrev pub record_numbers : Option ThreadRecord → List ℕ
record_numbers None = 0 ∷ []
record_numbers (Some r) = (truth_number r.live.flag + 1) ∷ r.owned ∷ doing_numbers r.live.act

-- the threads below a number, in their order
abbrev pub threads_numbers : LiveThreads → ℕ → List ℕ
threads_numbers l zero = []
threads_numbers l (suc n) = threads_numbers l n ++ record_numbers (map.get l n)

abbrev pub object_numbers : ObjectRecord → List ℕ
object_numbers r = owner_number r.held.owner ∷ r.held.count ∷ r.waiting ∷ []

abbrev pub objects_numbers : List ObjectRecord → List ℕ
objects_numbers [] = []
objects_numbers (r ∷ rs) = object_numbers r ++ objects_numbers rs

-- of a machine whose threads have numbers below this one
abbrev pub numbers_of : ℕ → MachineState → List ℕ
numbers_of n v = v.moment ∷ length v.objects ∷ (objects_numbers v.objects ++ threads_numbers v.threads n)

-- no thread from this number on is live
abbrev pub AreBelow : ℕ → MachineState → Type 0
AreBelow n v = (k : ℕ) → n ≤ k → map.get v.threads k ≡ None
