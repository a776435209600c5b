-- What lasts: a thread that left a wait set stays back until it has its reply, and a notified one keeps the interrupt
-- that it has; and a reply is kept until it is returned.
use Rattle.std.specs.Prelude.{◌≡◌, ◌⊎◌, ℕ, Bool, true, List, [], ◌∷◌, Option, Some, Ok}
use Rattle.lock_word.specs.declared.ThreadId.{ThreadId}
use Rattle.lock_word.specs.declared.ObjectId.{ObjectId}
use Rattle.fat_monitor.specs.declared.actions.Reply.{Reply}
use Rattle.fat_monitor.specs.declared.actions.Reply.TheVariants.{WaitOver}
use Rattle.fat_monitor.specs.declared.actions.Why.{Why}
use Rattle.fat_monitor.specs.declared.actions.Why.TheVariants.{Notified}
use Rattle.step_core.specs.declared.machine.Doing.TheVariants.{Back, Has}
use Rattle.step_core.specs.declared.machine.Move.{Move}
use Rattle.step_core.specs.declared.machine.Move.TheVariants as move
use Rattle.step_core.specs.declared.steps.Did.{Did}
use Rattle.step_core.specs.declared.steps.Request.{Request}
use Rattle.step_core.specs.declared.steps.Request.TheVariants as request
use Rattle.step_core.specs.declared.steps.Step.{Step}
use Rattle.step_core.specs.declared.steps.Step.TheVariants as step
use Rattle.step_core.specs.Machine.{State, Is, reply_of}
use Rattle.step_core.specs.World.{WorldState}
use Rattle.step_core.specs.Step.{step_of}
use Rattle.step_core.specs.Requests.{world_then}

-- u is back from the wait set of o, with n holds, for this reason
abbrev pub IsBack : State → ThreadId → ObjectId → ℕ → Why → Type 0
IsBack s u o n w = (flag : Bool) × Is s u flag (Back o n w)

-- u was notified
abbrev pub IsNotified : State → ThreadId → ObjectId → ℕ → Type 0
IsNotified s u o n = IsBack s u o n Notified

-- the call of u has this reply
abbrev pub HasReply : State → ThreadId → Reply → Type 0
HasReply s u r = (flag : Bool) × Is s u flag (Has r)

-- the step is a Go of u that returns with this reply
abbrev pub Returns : Step → Option Reply → ThreadId → Reply → Type 0
Returns (step.Go t) d u r = (t.0 ≡ u.0) × (d ≡ Some r)
Returns s d u r = ⊥

-- the move is a return from the call of u with this reply
abbrev pub MoveReturns : Move → ThreadId → Reply → Type 0
MoveReturns m u r = m ≡ move.Return u r

-- what is left of threads that are back, for whatever reason, and of replies, but for those that are returned
pub record LastsBut (s : State) (returns : ThreadId → Reply → Type 0) (s' : State) : Type 0 where
  -- a thread that is back stays so, or has the reply for its reason
  pub back : (u : ThreadId) (o : ObjectId) (n : ℕ) (w : Why) → IsBack s u o n w
      → IsBack s' u o n w ⊎ HasReply s' u (reply_of w)
  -- whoever was notified first keeps an interrupt that came since
  pub pending : (u : ThreadId) (o : ObjectId) (n : ℕ) → Is s u true (Back o n Notified)
      → Is s' u true (Back o n Notified) ⊎ Is s' u true (Has WaitOver)
  pub replied : (u : ThreadId) (r : Reply) → HasReply s u r → HasReply s' u r ⊎ returns u r

-- what a step with this reply leaves of them
abbrev pub Lasts : State → Step → Option Reply → State → Type 0
Lasts s did d s' = LastsBut s (Returns did d) s'

-- it does not return from the call of u with this reply
abbrev pub NotReturns : WorldState → ThreadId → Reply → (Request × Bool) → Type 0
NotReturns w u r (request.Step s, room) = (d : Did) → (step_of room w s).answer ≡ Ok d → Returns s d.reply u r → ⊥
NotReturns w u r (request.Relayout split, room) = Unit {0}

-- and none of these does
abbrev pub NeverReturns : WorldState → ThreadId → Reply → List (Request × Bool) → Type 0
NeverReturns w u r [] = Unit {0}
NeverReturns w u r (q ∷ qs) = NotReturns w u r q × NeverReturns (world_then w q) u r qs
