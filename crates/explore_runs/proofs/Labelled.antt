-- What is picked from the labels of moves: attaches, calls, returns and moments.
use native.Mathlib.Omega.{arith}
use Rattle.std.proofs.Common.{◌≡◌, ◌∙◌, sym, ap, refl, ℕ, zero, suc, ◌+◌, ◌≤◌, Bool, true, false, if◌then◌else◌, List, [], ◌∷◌, ◌++◌, length, map, Option, Some, None, append_assoc, length-append}
use Rattle.std.specs.List.{filter_map}
use Rattle.std.proofs.lemmas.List.{map-append}
use Rattle.std.proofs.lemmas.List.Elements.{filter_map-append}
use Rattle.lock_word.specs.declared.ThreadId.{ThreadId}
use Rattle.step_core.specs.Labels.{is_label, labels_after, labels_for, labels_of}
use Rattle.step_core.specs.Laws.{AreWithinLimits}
use Rattle.step_core.specs.Requests.{moves_after, world_after}
use Rattle.step_core.specs.Step.{AfterStep, step_of}
use Rattle.step_core.specs.World.{WorldState}
use Rattle.step_core.specs.declared.machine.Move.{Move}
use Rattle.step_core.specs.declared.machine.Move.TheVariants as move
use Rattle.step_core.specs.declared.steps.Step.{Step}
use Rattle.step_core.specs.declared.steps.Step.TheVariants as step
use Rattle.step_core.proofs.Lists.Reached.{reached_labels}
use Rattle.explore.specs.declared.programs.Program.{Program}
use Rattle.explore.specs.declared.programs.Choice.{Choice}
use Rattle.explore.specs.States.{opening, thread_of}
use Rattle.explore_java.specs.JavaRuns.{AreBytes, attached_in, threads_below}
use Rattle.explore_runs.specs.Steps.{attaches, empty_world, granted, script_moves, script_steps, steps_from}
use Rattle.explore_runs.proofs.Attaching.{attach_goes}
use Rattle.explore_runs.proofs.Leading.{attach_moves as attach_moved, attaches_lead}

-- a program is within the limits of its split
pub within_limits : (p : Program) → AreBytes p.lows.items → AreWithinLimits p.lows.items p.monitors p.indices p.split
within_limits p bytes = record {
  bytes = λ k lt. bytes k;
  objects = (let most = p.objects_fit in omega (arith, most));
  bounded = p.monitors_fit;
  few = p.indices_fit;
}

-- only labels are picked
abbrev pub PicksLabels : {A : Type 0} → (Move → Option A) → Type 0
PicksLabels h = (m : Move) → is_label m ≡ false → h m ≡ None

one_picked : {A : Type 0} (h : Move → Option A) (m : Move) → h m ≡ None → filter_map h (m ∷ []) ≡ []
one_picked h m none = ap (λ o. filter_map (λ x. x) (o ∷ [])) none

pub picked : {A : Type 0} (h : Move → Option A) → PicksLabels h → (ms : List Move) → filter_map h ms ≡ filter_map h (labels_of ms)
picked h only [] = refl
picked h only (m ∷ ms) = by (is_label m) refl (picked h only ms)
  where
    by : (b : Bool) → is_label m ≡ b → filter_map h ms ≡ filter_map h (labels_of ms) → filter_map h (m ∷ ms) ≡ filter_map h (if b then m ∷ labels_of ms else labels_of ms)
    by true e rest = filter_map-append h (m ∷ []) ms ∙ ap (λ xs. filter_map h (m ∷ []) ++ xs) rest ∙ sym (filter_map-append h (m ∷ []) (labels_of ms))
    by false e rest = filter_map-append h (m ∷ []) ms ∙ ap (λ xs. xs ++ filter_map h ms) (one_picked h m (only m e)) ∙ rest

labels_append : (w : WorldState) (xs ys : List Step)
    → labels_after w (granted (xs ++ ys)) ≡ labels_after w (granted xs) ++ labels_after (world_after w (granted xs)) (granted ys)
labels_append w [] ys = refl
labels_append w (x ∷ xs) ys =
    let v : WorldState = (step_of true w x).after in
    let these : List Move = labels_for x (step_of true w x).answer in
    ap (λ (ms : List Move). these ++ ms) (labels_append v xs ys)
    ∙ sym (append_assoc these (labels_after v (granted xs)) (labels_after (world_after v (granted xs)) (granted ys)))

-- the attach of each thread below a number
abbrev pub attach_moves : ℕ → List Move
attach_moves zero = []
attach_moves (suc n) = attach_moves n ++ move.Attach (thread_of n) ∷ []

attach_labels : (p : Program) (n : ℕ) → n ≤ length p.starts.items → labels_after (empty_world p) (granted (attaches n)) ≡ attach_moves n
attach_labels p zero le = refl
attach_labels p (suc n) le =
    let x : Step = step.Attach (thread_of n) in
    labels_append (empty_world p) (attaches n) (x ∷ [])
    ∙ ap (λ (ms : List Move). ms ++ labels_after (world_after (empty_world p) (granted (attaches n))) (granted (x ∷ []))) (attach_labels p n (omega (arith, le)))
    ∙ ap (λ (w : WorldState). attach_moves n ++ (labels_for x (step_of true w x).answer ++ [])) (attaches_lead p n)
    ∙ ap (λ (o : AfterStep). attach_moves n ++ (labels_for x o.answer ++ [])) (attach_goes p n (omega (arith, le)))

-- they are the moves of the attaches
pub attaches_moved : (p : Program) (n : ℕ) → n ≤ length p.starts.items
    → moves_after (empty_world p) (granted (attaches n)) ≡ map (λ (t : ThreadId). move.Attach t) (threads_below n)
attaches_moved p zero le = refl
attaches_moved p (suc n) le =
    let one : suc n ≡ n + 1 = omega arith in
    ap (λ (k : ℕ). moves_after (empty_world p) (granted (attaches k))) one ∙ attach_moved p n (omega (arith, le))
    ∙ ap (λ (ms : List Move). ms ++ move.Attach (thread_of n) ∷ []) (attaches_moved p n (omega (arith, le)))
    ∙ sym (map-append (λ (t : ThreadId). move.Attach t) (threads_below n) (thread_of n ∷ []))

pub attached_back : (ts : List ThreadId) → attached_in (map (λ (t : ThreadId). move.Attach t) ts) ≡ ts
attached_back [] = refl
attached_back (t ∷ ts) = ap (λ (us : List ThreadId). t ∷ us) (attached_back ts)

-- a list behind which the same comes is not longer
pub nothing_more : {A : Type 0} (xs ys : List A) → xs ++ ys ≡ xs → ys ≡ []
nothing_more xs [] h = refl
nothing_more xs (y ∷ ys) h = absurd (let l = length-append xs (y ∷ ys) in let e = ap length h in omega (arith, l, e))

-- the labels of a script, and what is picked from its moves
pub script_labels : (p : Program) (cs : List Choice) → labels_after (empty_world p) (granted (script_steps p cs))
    ≡ attach_moves (length p.starts.items) ++ labels_after (opening p).world (granted (steps_from p (Some (opening p)) cs))
script_labels p cs =
    let n : ℕ = length p.starts.items in
    let later : List Step = steps_from p (Some (opening p)) cs in
    labels_append (empty_world p) (attaches n) later
    ∙ ap (λ (ms : List Move). ms ++ labels_after (world_after (empty_world p) (granted (attaches n))) (granted later)) (attach_labels p n (omega arith))
    ∙ ap (λ (w : WorldState). attach_moves n ++ labels_after w (granted later)) (attaches_lead p n)

pub script_picked : {A : Type 0} (h : Move → Option A) → PicksLabels h → (p : Program) (cs : List Choice) → AreBytes p.lows.items
    → filter_map h (script_moves p cs) ≡ filter_map h (attach_moves (length p.starts.items) ++ labels_after (opening p).world (granted (steps_from p (Some (opening p)) cs)))
script_picked h only p cs bytes =
    picked h only (script_moves p cs)
    ∙ ap (λ (ms : List Move). filter_map h ms)
    (reached_labels p.lows.items p.monitors p.indices p.split (granted (script_steps p cs)) (within_limits p bytes) ∙ script_labels p cs)
