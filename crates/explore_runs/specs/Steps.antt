-- The steps that a script of choices makes, and what comes of them.
use Rattle.std.specs.Prelude.{◌≡◌, ℕ, zero, suc, ◌==◌, Bool, true, false, if◌then◌else◌, List, [], ◌∷◌, ◌++◌, length}
use Rattle.std.specs.Prelude.{map, Option, Some, None, Result, Ok}
use Rattle.std.specs.Option.{option_to_list}
use Rattle.lock_word.specs.declared.ThreadId.{ThreadId}
use Rattle.fat_monitor.specs.declared.actions.Reply.{Reply}
use Rattle.step_core.specs.declared.machine.Move.{Move}
use Rattle.step_core.specs.declared.steps.Did.{Did}
use Rattle.step_core.specs.declared.steps.Fault.{Fault}
use Rattle.step_core.specs.declared.steps.Request.{Request}
use Rattle.step_core.specs.declared.steps.Request.TheVariants as request
use Rattle.step_core.specs.declared.steps.Step.{Step}
use Rattle.step_core.specs.declared.steps.Step.TheVariants as step
use Rattle.step_core.specs.Requests.{moves_after, world_after}
use Rattle.step_core.specs.Step.{step_of}
use Rattle.step_core.specs.World.{WorldState, opening_world}
use Rattle.explore.specs.declared.programs.Program.{Program}
use Rattle.explore.specs.declared.programs.Choice.{Choice}
use Rattle.explore.specs.States.{ProgramState, after, did_in, opening, step_for, thread_of}
use Rattle.explore.specs.Replies.{reply_in}

-- the world of a program in which nothing has happened
abbrev pub empty_world : Program → WorldState
empty_world p = opening_world p.lows.items p.monitors p.indices p.split

-- the threads below a number are attached, in their order
abbrev pub attaches : ℕ → List Step
attaches zero = []
attaches (suc n) = attaches n ++ step.Attach (thread_of n) ∷ []

-- the step that a choice means
abbrev pub step_in : Option Step → List Step
step_in None = []
step_in (Some x) = x ∷ []

-- the steps of choices that are made one after the other, from a state on
abbrev pub steps_from : Program → Option ProgramState → List Choice → List Step
steps_from p s [] = []
steps_from p None (c ∷ cs) = []
steps_from p (Some s) (c ∷ cs) = step_in (step_for p s c) ++ steps_from p (after p s c) cs

-- The steps of a script: the threads, and the choices from where the program begins.
abbrev pub script_steps : Program → List Choice → List Step
script_steps p cs = attaches (length p.starts.items) ++ steps_from p (Some (opening p)) cs

-- steps that are asked for, each with its growth granted
abbrev pub granted : List Step → List (Request × Bool)
granted xs = map (λ (x : Step). (request.Step x, true)) xs

-- none of these steps is refused
abbrev pub AreAccepted : WorldState → List Step → Type 0
AreAccepted w [] = Unit {0}
AreAccepted w (x ∷ xs) = ((d : Did) × ((step_of true w x).answer ≡ Ok d)) × AreAccepted (step_of true w x).after xs

-- These steps lead from the one world to the other, and none is refused.
pub record LeadTo (v : WorldState) (xs : List Step) (w : WorldState) : Type 0 where
  pub accepted : AreAccepted v xs
  pub leads : world_after v (granted xs) ≡ w

-- the moves that some choices hand out, behind those of the attaches
abbrev pub script_moves : Program → List Choice → List Move
script_moves p cs = moves_after (empty_world p) (granted (script_steps p cs))

-- the step is this thread's; that of the clock is nobody's
abbrev pub is_step_of : ThreadId → Step → Bool
is_step_of t (step.Attach u) = u.0 == t.0
is_step_of t (step.Begin u c) = u.0 == t.0
is_step_of t (step.Go u) = u.0 == t.0
is_step_of t (step.Expire u) = u.0 == t.0
is_step_of t (step.Spurious u) = u.0 == t.0
is_step_of t (step.Tick now) = false

-- what a step hands out to a thread: its reply, where the step is that thread's and is accepted
abbrev pub reply_told : ThreadId → Step → Result Did Fault → List Reply
reply_told t x a = if is_step_of t x then option_to_list (reply_in (did_in a)) else []

-- The replies that steps hand out to a thread, one after the other, from a world on, with all memory granted.
abbrev pub replies_told : WorldState → List Step → ThreadId → List Reply
replies_told w [] t = []
replies_told w (x ∷ xs) t = reply_told t x (step_of true w x).answer ++ replies_told (step_of true w x).after xs t
