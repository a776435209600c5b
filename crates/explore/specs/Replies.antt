-- The replies of a thread: those that a state has for its calls, and those that the steps of choices hand out to it.
use Rattle.std.specs.Prelude.{ℕ, ◌-◌, ◌==◌, Bool, false, if◌then◌else◌, List, [], ◌∷◌, ◌++◌, take, drop}
use Rattle.std.specs.Prelude.{Option, Some, None}
use Rattle.std.specs.List.{filter_map}
use Rattle.std.specs.Option.{option_to_list}
use Rattle.fat_monitor.specs.declared.actions.Reply.{Reply}
use Rattle.step_core.specs.declared.steps.Did.{Did}
use Rattle.explore.specs.declared.programs.Program.{Program}
use Rattle.explore.specs.declared.programs.Choice.{Choice}
use Rattle.explore.specs.declared.programs.Choice.TheVariants as choice
use Rattle.explore.specs.States.{ProgramState, after, did_of, end_of, start_of}

-- The replies that a state has for the calls of a thread, in their order; a call that has none yet is left out.
abbrev pub replies_of : Program → ProgramState → ℕ → List Reply
replies_of p s k =
    filter_map (λ (r : Option Reply). r) (take (end_of p k - start_of p k) (drop (start_of p k) s.replies))

-- the choice is this thread's; that of the clock is nobody's
abbrev pub is_choice_of : ℕ → Choice → Bool
is_choice_of k (choice.Begin j) = j == k
is_choice_of k (choice.Go j) = j == k
is_choice_of k (choice.Expire j) = j == k
is_choice_of k (choice.Spurious j) = j == k
is_choice_of k choice.Tick = false

-- the reply of a step, if there is one
abbrev pub reply_in : Option Did → Option Reply
reply_in None = None
reply_in (Some d) = d.reply

-- what a choice hands out to a thread: the reply of its step, which did this, where the choice is that thread's
abbrev pub reply_to : ℕ → Choice → Option Did → List Reply
reply_to k c d = if is_choice_of k c then option_to_list (reply_in d) else []

-- The replies that choices hand out to a thread, one after the other, from a state on.
abbrev pub replies_along : Program → Option ProgramState → List Choice → ℕ → List Reply
replies_along p s [] k = []
replies_along p None (c ∷ cs) k = []
replies_along p (Some s) (c ∷ cs) k = reply_to k c (did_of p s c) ++ replies_along p (after p s c) cs k
