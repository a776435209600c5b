-- The script of some choices, read and played as a script.
use Rattle.std.specs.Prelude.{◌≡◌, ℕ, ◌+◌, ◌<◌, ◌≤◌, ◌^◌, true, List, length, map, slice_get, slice_index_or, Some}
use Rattle.fast_path.specs.declared.calls.Call.{Call}
use Rattle.script_text.specs.Lines.{CallFits}
use Rattle.script_text.specs.Scripts.{IsScriptText}
use Rattle.script_text.specs.Words.{is_name}
use Rattle.step_core.specs.declared.steps.Request.TheVariants as request
use Rattle.step_core.specs.declared.steps.Step.{Step}
use Rattle.history.specs.Histories.{first_world}
use Rattle.history.specs.NameLists.{NameLists, name_at}
use Rattle.history.specs.Plans.{IsPlanOf}
use Rattle.history.specs.declared.plans.Plan.{Plan}
use Rattle.dump.specs.Reports.{named_call}
use Rattle.explore.specs.declared.programs.Program.{Program}
use Rattle.explore.specs.declared.programs.Choice.{Choice}
use Rattle.explore.specs.Replies.{replies_of}
use Rattle.explore.specs.States.{ProgramState, thread_of}
use Rattle.explore_runs.specs.Scripts.{script_of}
use Rattle.explore_runs.specs.Steps.{LeadTo, replies_told}

-- no two of these are the same
abbrev pub AreApart : List (List ℕ) → Type 0
AreApart names = (i j : ℕ) → i < j → j < length names → name_at names i ≡ name_at names j → ⊥

-- each is a name
abbrev pub AreNames : List (List ℕ) → Type 0
AreNames names = (k : ℕ) → k < length names → is_name (name_at names k) ≡ true

-- The names are those of a program: each thread and object has one of its own, and each call names what has one.
pub record IsNamed (names : NameLists) (p : Program) : Type 0 where
  pub threads : AreNames names.threads
  pub objects : AreNames names.objects
  pub threads_apart : AreApart names.threads
  pub objects_apart : AreApart names.objects
  pub each_thread : length p.starts.items ≤ length names.threads
  pub each_object : length names.objects ≡ length p.lows.items
  pub calls : (n : ℕ) (c : Call) → slice_get p.calls.items n ≡ Some c → CallFits (named_call names c)
  pub lows : (k : ℕ) → slice_index_or p.lows.items k 0 < 256
  pub moments : (k now : ℕ) → slice_get p.moments.items k ≡ Some now → now < 2 ^ 64

-- Calls name at most one thread that the program has not: a script numbers such names in the order in which they come.
abbrev pub HasFewStrangers : NameLists → Program → Type 0
HasFewStrangers names p = length names.threads ≤ length p.starts.items + 1

-- What is played: steps alone, none of which is refused. They lead to the world of this state, and hand out to each
-- thread of the program the replies that the state has for its calls.
pub record PlaysTo (plan : Plan) (p : Program) (s : ProgramState) : Type 0 where
  pub steps : List Step
  pub these : plan.steps.items ≡ map (λ (x : Step). request.Step x) steps
  pub lead : LeadTo (first_world plan) steps s.world
  pub replies : (k : ℕ) → k < length p.starts.items
      → replies_told (first_world plan) steps (thread_of k) ≡ replies_of p s k

-- The text is that of a script, and whatever it is read as plays to this state.
pub record Replays (names : NameLists) (p : Program) (cs : List Choice) (s : ProgramState) : Type 0 where
  pub reads : IsScriptText (script_of names p cs)
  pub plays : (plan : Plan) → IsPlanOf plan (script_of names p cs) → PlaysTo plan p s
