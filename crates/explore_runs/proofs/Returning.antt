-- The replies with which calls return in the moves of steps are those that the steps hand out.
use native.Mathlib.Omega.{arith}
use Rattle.std.proofs.Common.{◌≡◌, ◌∙◌, sym, ap, refl, ℕ, ◌<◌, Bool, true, false, if◌then◌else◌, List, [], ◌∷◌, ◌++◌, length, Option, Some, None, Result, Ok, Err}
use Rattle.std.specs.Prelude.{◌==◌, IfOk}
use Rattle.std.specs.List.{filter_map}
use Rattle.std.specs.Option.{option_to_list}
use Rattle.std.proofs.lemmas.List.Elements.{filter_map-append}
use Rattle.lock_word.specs.declared.ThreadId.{ThreadId}
use Rattle.fat_monitor.specs.declared.actions.Reply.{Reply}
use Rattle.step_core.specs.Labels.{EndsWith, HasLabels, labels_of}
use Rattle.step_core.specs.Requests.{moves_after}
use Rattle.step_core.specs.Sound.{IsSound}
use Rattle.step_core.specs.Step.{moves_made, moves_of, step_of}
use Rattle.step_core.specs.World.{WorldState}
use Rattle.step_core.specs.declared.machine.Move.{Move}
use Rattle.step_core.specs.declared.machine.Move.TheVariants as move
use Rattle.step_core.specs.declared.steps.Did.{Did}
use Rattle.step_core.specs.declared.steps.Fault.{Fault}
use Rattle.step_core.specs.declared.steps.Request.TheVariants as request
use Rattle.step_core.specs.declared.steps.Step.{Step}
use Rattle.step_core.specs.declared.steps.Step.TheVariants as step
use Rattle.step_core.proofs.Clauses.Labels.{step_labels}
use Rattle.step_core.proofs.Relaying.Requests.{then_right}
use Rattle.step_core.proofs.Sound.Opening.{opened_sound}
use Rattle.explore.specs.declared.programs.Program.{Program}
use Rattle.explore.specs.declared.programs.Choice.{Choice}
use Rattle.explore.specs.Replies.{replies_of}
use Rattle.explore.specs.States.{ProgramState, played, thread_of}
use Rattle.explore_runs.specs.Steps.{empty_world, granted, replies_told, reply_told, script_moves, script_steps}
use Rattle.explore_java.specs.JavaRuns.{AreBytes, returned_by, returns_in}
use Rattle.explore_runs.proofs.Leading.{script_replies, silent_told}

-- what is no label is no return
no_labels : (t : ThreadId) (ms : List Move) → labels_of ms ≡ [] → returns_in t ms ≡ []
no_labels t [] h = refl
no_labels t (move.Attach u ∷ ms) h = absurd (cc)
no_labels t (move.Call u c ∷ ms) h = absurd (cc)
no_labels t (move.Return u r ∷ ms) h = absurd (cc)
no_labels t (move.Time now ∷ ms) h = absurd (cc)
no_labels t (m ∷ ms) h = no_labels t ms h

one_return : (t u : ThreadId) (r : Reply) → returns_in t (move.Return u r ∷ []) ≡ (if u.0 == t.0 then option_to_list (Some r) else [])
one_return t u r = by (u.0 == t.0)
  where
    by : (b : Bool) → filter_map (λ (o : Option Reply). o) ((if b then Some r else None) ∷ []) ≡ (if b then option_to_list (Some r) else [])
    by true = refl
    by false = refl

go_returned : (t u : ThreadId) (ms : List Move) (r : Option Reply) → EndsWith u ms r → returns_in t ms ≡ (if u.0 == t.0 then option_to_list r else [])
go_returned t u ms None h = no_labels t ms h ∙ by (u.0 == t.0)
  where
    by : (b : Bool) → [] ≡ (if b then option_to_list {X = Reply} None else [])
    by true = refl
    by false = refl
go_returned t u ms (Some r) (inner, is, none) =
    ap (returns_in t) is ∙ filter_map-append (returned_by t) inner (move.Return u r ∷ [])
    ∙ ap (λ (rs : List Reply). rs ++ returns_in t (move.Return u r ∷ [])) (no_labels t inner none) ∙ one_return t u r

-- a step that has no reply hands out none
silent : (t : ThreadId) (x : Step) (d : Did) (ms : List Move) → moves_made d.moves ≡ ms → returns_in t ms ≡ [] → d.reply ≡ None
    → returns_in t (moves_of (Ok d)) ≡ reply_told t x (Ok d)
silent t x d ms is none reply = ap (returns_in t) is ∙ none ∙ sym (silent_told t x (Ok d) reply)

one_returned : (t : ThreadId) (x : Step) (a : Result Did Fault) → IfOk a (HasLabels x) → returns_in t (moves_of a) ≡ reply_told t x a
one_returned t x (Err f) h = sym (silent_told t x (Err f) refl)
one_returned t (step.Attach u) (Ok d) h = silent t (step.Attach u) d (move.Attach u ∷ []) h.0 refl h.1
one_returned t (step.Begin u c) (Ok d) h = silent t (step.Begin u c) d (move.Call u c ∷ []) h.0 refl h.1
one_returned t (step.Go u) (Ok d) h = go_returned t u (moves_made d.moves) d.reply h
one_returned t (step.Expire u) (Ok d) h = silent t (step.Expire u) d (moves_made d.moves) refl (no_labels t (moves_made d.moves) h.0) h.1
one_returned t (step.Spurious u) (Ok d) h = silent t (step.Spurious u) d (moves_made d.moves) refl (no_labels t (moves_made d.moves) h.0) h.1
one_returned t (step.Tick now) (Ok d) h = silent t (step.Tick now) d (move.Time now ∷ []) h.0 refl h.1

all_returned : (w : WorldState) (xs : List Step) (t : ThreadId) → IsSound w → returns_in t (moves_after w (granted xs)) ≡ replies_told w xs t
all_returned w [] t sound = refl
all_returned w (x ∷ xs) t sound =
    let v : WorldState = (step_of true w x).after in
    let these : List Move = moves_of (step_of true w x).answer in
    filter_map-append (returned_by t) these (moves_after v (granted xs))
    ∙ ap (λ (rs : List Reply). rs ++ returns_in t (moves_after v (granted xs))) (one_returned t x (step_of true w x).answer (step_labels w sound true x))
    ∙ ap (λ (rs : List Reply). reply_told t x (step_of true w x).answer ++ rs) (all_returned v xs t (then_right w sound (request.Step x, true)).0)

-- So the calls of a thread return, in the moves of a script, with the replies of the state that its choices lead to.
pub script_returns : (p : Program) (cs : List Choice) (s : ProgramState) (k : ℕ) → AreBytes p.lows.items → played p cs ≡ Some s
    → k < length p.starts.items → returns_in (thread_of k) (script_moves p cs) ≡ replies_of p s k
script_returns p cs s k bytes h within =
    all_returned (empty_world p) (script_steps p cs) (thread_of k)
    (opened_sound p.lows.items p.monitors p.indices p.split (λ j lt. bytes j) (let most = p.objects_fit in omega (arith, most)) p.indices_fit p.monitors_fit)
    ∙ script_replies p cs s k h within
