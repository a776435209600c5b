-- The steps of choices lead to the state of the choices.
use native.Mathlib.Omega.{arith}
use Rattle.std.proofs.Common.{◌≡◌, ◌∙◌, sym, ap, refl, subst, ℕ, zero, suc, ◌+◌, ◌<◌, ◌≤◌, Bool, true, false, if◌then◌else◌, List, [], ◌∷◌, ◌++◌, length, Option, Some, None, Result, append_assoc, append-nil, drop}
use Rattle.std.specs.Prelude.{◌==◌, slice_get}
use Rattle.std.specs.Option.{option_to_list, unwrap_or}
use Rattle.std.proofs.lemmas.Option.{same_Some}
use Rattle.lock_word.specs.declared.ThreadId.{ThreadId}
use Rattle.fat_monitor.specs.declared.actions.Reply.{Reply}
use Rattle.fast_path.specs.declared.calls.Call.{Call}
use Rattle.thread_index.specs.Indices.{berth_of, free_berth}
use Rattle.step_core.specs.declared.machine.Move.{Move}
use Rattle.step_core.specs.declared.machine.Move.TheVariants as move
use Rattle.step_core.specs.declared.steps.Did.{Did}
use Rattle.step_core.specs.declared.steps.Fault.{Fault}
use Rattle.step_core.specs.declared.steps.Step.{Step}
use Rattle.step_core.specs.declared.steps.Step.TheVariants as step
use Rattle.step_core.specs.Requests.{moves_after, world_after}
use Rattle.step_core.specs.Step.{AfterStep, after_attach, moves_made, moves_of, step_of}
use Rattle.step_core.specs.World.{WorldState}
use Rattle.explore.specs.declared.programs.Program.{Program}
use Rattle.explore.specs.declared.programs.Choice.{Choice}
use Rattle.explore.specs.declared.programs.Choice.TheVariants as choice
use Rattle.explore.specs.States.{ProgramState, after, attached, begin_of, call_below, did_by, did_in, did_of, opening, played, played_from, step_for, thread_of, tick_of}
use Rattle.explore.specs.Replies.{is_choice_of, replies_along, replies_of, reply_in, reply_to}
use Rattle.explore.proofs.Finding.{none_leads}
use Rattle.explore.proofs.Making.{IsMade, choice_made, did_made, meant}
use Rattle.explore.proofs.Replying.{play_replies}
use Rattle.explore_runs.specs.Steps.{AreAccepted, LeadTo, attaches, empty_world, granted, is_step_of, replies_told, reply_told, script_moves, script_steps, step_in, steps_from}
use Rattle.explore_runs.proofs.Attaching.{attach_goes}

-- ---- lists of steps

world_append : (w : WorldState) (xs ys : List Step) → world_after w (granted (xs ++ ys)) ≡ world_after (world_after w (granted xs)) (granted ys)
world_append w [] ys = refl
world_append w (x ∷ xs) ys = world_append (step_of true w x).after xs ys

moves_append : (w : WorldState) (xs ys : List Step)
    → moves_after w (granted (xs ++ ys)) ≡ moves_after w (granted xs) ++ moves_after (world_after w (granted xs)) (granted ys)
moves_append w [] ys = refl
moves_append w (x ∷ xs) ys =
    let v : WorldState = (step_of true w x).after in
    ap (λ (ms : List Move). moves_of (step_of true w x).answer ++ ms) (moves_append v xs ys)
    ∙ sym (append_assoc (moves_of (step_of true w x).answer) (moves_after v (granted xs)) (moves_after (world_after v (granted xs)) (granted ys)))

accepted_append : (w : WorldState) (xs ys : List Step) → AreAccepted w xs → AreAccepted (world_after w (granted xs)) ys → AreAccepted w (xs ++ ys)
accepted_append w [] ys h g = g
accepted_append w (x ∷ xs) ys h g = (h.0, accepted_append (step_of true w x).after xs ys h.1 g)

-- ---- attaches

pub attaches_lead : (p : Program) (n : ℕ) → world_after (empty_world p) (granted (attaches n)) ≡ attached (empty_world p) n
attaches_lead p zero = refl
attaches_lead p (suc n) =
    world_append (empty_world p) (attaches n) (step.Attach (thread_of n) ∷ [])
    ∙ ap (λ (w : WorldState). (step_of true w (step.Attach (thread_of n))).after) (attaches_lead p n)

attaches_accepted : (p : Program) (n : ℕ) → n ≤ length p.starts.items → AreAccepted (empty_world p) (attaches n)
attaches_accepted p zero le = tt
attaches_accepted p (suc n) le =
    let goes = ap (λ (o : AfterStep). o.answer) (attach_goes p n (omega (arith, le))) in
    accepted_append (empty_world p) (attaches n) (step.Attach (thread_of n) ∷ []) (attaches_accepted p n (omega (arith, le)))
    (subst (λ (w : WorldState). AreAccepted w (step.Attach (thread_of n) ∷ [])) (sym (attaches_lead p n)) ((_, goes), tt))

-- the attach of one thread more has one move
pub attach_moves : (p : Program) (n : ℕ) → n < length p.starts.items
    → moves_after (empty_world p) (granted (attaches (n + 1))) ≡ moves_after (empty_world p) (granted (attaches n)) ++ move.Attach (thread_of n) ∷ []
attach_moves p n lt =
    let one : n + 1 ≡ suc n = omega arith in
    let goes = ap (λ (o : AfterStep). moves_of o.answer) (attach_goes p n lt) in
    rw one (moves_append (empty_world p) (attaches n) (step.Attach (thread_of n) ∷ [])
    ∙ ap (λ (w : WorldState). moves_after (empty_world p) (granted (attaches n)) ++ (moves_of (step_of true w (step.Attach (thread_of n))).answer ++ [])) (attaches_lead p n)
    ∙ ap (λ (ms : List Move). moves_after (empty_world p) (granted (attaches n)) ++ (ms ++ [])) goes)

-- ---- choices

pub steps_made : (p : Program) (s t : ProgramState) (c : Choice) (cs : List Choice) (m : IsMade p s t c) → after p s c ≡ Some t
    → steps_from p (Some s) (c ∷ cs) ≡ m.made ∷ steps_from p (Some t) cs
steps_made p s t c cs m h =
    ap (λ (o : Option Step). step_in o ++ steps_from p (after p s c) cs) m.is ∙ ap (λ (o : Option ProgramState). m.made ∷ steps_from p o cs) h

pub from_leads : (p : Program) (cs : List Choice) (s t : ProgramState) → played_from p cs (Some s) ≡ Some t
    → AreAccepted s.world (steps_from p (Some s) cs) × (world_after s.world (granted (steps_from p (Some s) cs)) ≡ t.world)
from_leads p [] s t h = (tt, ap (λ (o : Option ProgramState). (unwrap_or o t).world) h)
from_leads p (c ∷ cs) s t h = by (after p s c) refl h (λ r g. from_leads p cs r t g)
  where
    by : (o : Option ProgramState) → after p s c ≡ o → played_from p cs o ≡ Some t
        → ((r : ProgramState) → played_from p cs (Some r) ≡ Some t → AreAccepted r.world (steps_from p (Some r) cs) × (world_after r.world (granted (steps_from p (Some r) cs)) ≡ t.world))
        → AreAccepted s.world (steps_from p (Some s) (c ∷ cs)) × (world_after s.world (granted (steps_from p (Some s) (c ∷ cs))) ≡ t.world)
    by None is g goes = absurd (none_leads p cs t g)
    by (Some r) is g goes =
        let m = choice_made p s r c is in
        let rest = goes r g in
        let these = steps_made p s r c cs m is in
        let later : List Step = steps_from p (Some r) cs in
        let accepted : AreAccepted s.world (m.made ∷ later) = ((m.did, m.answer), subst (λ (w : WorldState). AreAccepted w later) (sym m.world) rest.0) in
        let leads : world_after s.world (granted (m.made ∷ later)) ≡ t.world = ap (λ (w : WorldState). world_after w (granted later)) m.world ∙ rest.1 in (
          subst (λ (xs : List Step). AreAccepted s.world xs) (sym these) accepted,
          ap (λ (xs : List Step). world_after s.world (granted xs)) these ∙ leads,
        )

-- ---- moves

-- where a program begins, the attaches have been made
pub moves_first : (p : Program) (cs : List Choice)
    → script_moves p cs ≡ moves_after (empty_world p) (granted (attaches (length p.starts.items))) ++ moves_after (opening p).world (granted (steps_from p (Some (opening p)) cs))
moves_first p cs =
    moves_append (empty_world p) (attaches (length p.starts.items)) (steps_from p (Some (opening p)) cs)
    ∙ ap (λ (w : WorldState). moves_after (empty_world p) (granted (attaches (length p.starts.items))) ++ moves_after w (granted (steps_from p (Some (opening p)) cs)))
    (attaches_lead p (length p.starts.items))

-- a choice more hands out the moves of its step
pub moves_next : (p : Program) (s t : ProgramState) (c : Choice) (cs : List Choice) (d : Did) → after p s c ≡ Some t → Some d ≡ did_of p s c
    → moves_after s.world (granted (steps_from p (Some s) (c ∷ cs))) ≡ moves_made d.moves ++ moves_after t.world (granted (steps_from p (Some t) cs))
moves_next p s t c cs d h told =
    let m = choice_made p s t c h in
    let same : m.did ≡ d = ap (λ (o : Option Did). unwrap_or o d) (sym (told ∙ did_made p s t c m)) in
    ap (λ (xs : List Step). moves_after s.world (granted xs)) (steps_made p s t c cs m h)
    ∙ ap (λ (a : Result Did Fault). moves_of a ++ moves_after (step_of true s.world m.made).after (granted (steps_from p (Some t) cs))) m.answer
    ∙ ap (λ (e : Did). moves_made e.moves ++ moves_after (step_of true s.world m.made).after (granted (steps_from p (Some t) cs))) same
    ∙ ap (λ (w : WorldState). moves_made d.moves ++ moves_after w (granted (steps_from p (Some t) cs))) m.world

none_left : (cs : List Choice) (i : ℕ) → length cs ≤ i → drop i cs ≡ []
none_left [] zero le = refl
none_left [] (suc i) le = refl
none_left (c ∷ cs) zero le = absurd (omega (arith, le))
none_left (c ∷ cs) (suc i) le = none_left cs i (omega (arith, le))

-- behind the last choice there is none
pub moves_last : (p : Program) (s : ProgramState) (cs : List Choice) (i : ℕ) (ms : List Move) → length cs ≤ i
    → ms ++ moves_after s.world (granted (steps_from p (Some s) (drop i cs))) ≡ ms
moves_last p s cs i ms le =
    ap (λ (ds : List Choice). ms ++ moves_after s.world (granted (steps_from p (Some s) ds))) (none_left cs i le) ∙ append-nil ms

-- ---- replies

replies_append : (w : WorldState) (xs ys : List Step) (t : ThreadId)
    → replies_told w (xs ++ ys) t ≡ replies_told w xs t ++ replies_told (world_after w (granted xs)) ys t
replies_append w [] ys t = refl
replies_append w (x ∷ xs) ys t =
    let v : WorldState = (step_of true w x).after in
    let these : List Reply = reply_told t x (step_of true w x).answer in
    ap (λ (rs : List Reply). these ++ rs) (replies_append v xs ys t)
    ∙ sym (append_assoc these (replies_told v xs t) (replies_told (world_after v (granted xs)) ys t))

-- an attach hands out no reply
attach_silent : (w : WorldState) (u : ThreadId) (b free : Option ℕ) → reply_in (did_in (after_attach true w u b free).answer) ≡ None
attach_silent w u (Some k) free = refl
attach_silent w u None None = refl
attach_silent w u None (Some k) = refl

pub silent_told : (t : ThreadId) (x : Step) (a : Result Did Fault) → reply_in (did_in a) ≡ None → reply_told t x a ≡ []
silent_told t x a h = ap (λ (r : Option Reply). if is_step_of t x then option_to_list r else []) h ∙ by (is_step_of t x)
  where
    by : (b : Bool) → (if b then option_to_list {X = Reply} None else []) ≡ []
    by true = refl
    by false = refl

attaches_silent : (w : WorldState) (n : ℕ) (t : ThreadId) → replies_told w (attaches n) t ≡ []
attaches_silent w zero t = refl
attaches_silent w (suc n) t =
    let x : Step = step.Attach (thread_of n) in
    let v : WorldState = world_after w (granted (attaches n)) in
    let none = attach_silent v (thread_of n) (berth_of v.berths (thread_of n)) (free_berth v.berths) in
    replies_append w (attaches n) (x ∷ []) t
    ∙ ap (λ (rs : List Reply). rs ++ replies_told v (x ∷ []) t) (attaches_silent w n t)
    ∙ ap (λ (rs : List Reply). rs ++ []) (silent_told t x (step_of true v x).answer none)

begun_of : (k j : ℕ) (o : Option Call) (x : Step) → begin_of j o ≡ Some x → is_step_of (thread_of k) x ≡ (j == k)
begun_of k j None x h = absurd (cc)
begun_of k j (Some c) x h = ap (is_step_of (thread_of k)) (sym (same_Some (step.Begin (thread_of j) c) x h))

woken_of : (k j : ℕ) (b : Bool) (x : Step) → (if b then Some (step.Spurious (thread_of j)) else None) ≡ Some x → is_step_of (thread_of k) x ≡ (j == k)
woken_of k j true x h = ap (is_step_of (thread_of k)) (sym (same_Some (step.Spurious (thread_of j)) x h))
woken_of k j false x h = absurd (cc)

ticked_of : (k : ℕ) (o : Option ℕ) (x : Step) → tick_of o ≡ Some x → is_step_of (thread_of k) x ≡ false
ticked_of k None x h = absurd (cc)
ticked_of k (Some now) x h = ap (is_step_of (thread_of k)) (sym (same_Some (step.Tick now) x h))

-- the step that a choice means is a thread's where the choice is
step_is_of : (p : Program) (s : ProgramState) (c : Choice) (x : Step) (k : ℕ) → step_for p s c ≡ Some x → is_step_of (thread_of k) x ≡ is_choice_of k c
step_is_of p s (choice.Begin j) x k h =
    let is = meant p (choice.Begin j) j (slice_get s.nexts j) x h in
    begun_of k j (call_below p j is.next) x is.is
step_is_of p s (choice.Go j) x k h =
    let is = meant p (choice.Go j) j (slice_get s.nexts j) x h in
    ap (is_step_of (thread_of k)) (sym (same_Some (step.Go (thread_of j)) x is.is))
step_is_of p s (choice.Expire j) x k h =
    let is = meant p (choice.Expire j) j (slice_get s.nexts j) x h in
    ap (is_step_of (thread_of k)) (sym (same_Some (step.Expire (thread_of j)) x is.is))
step_is_of p s (choice.Spurious j) x k h =
    let is = meant p (choice.Spurious j) j (slice_get s.nexts j) x h in
    woken_of k j p.spurious x is.is
step_is_of p s choice.Tick x k h = ticked_of k (slice_get p.moments.items s.told) x h

-- what a choice hands out is what its step does
reply_made : (p : Program) (s t : ProgramState) (c : Choice) (m : IsMade p s t c) (k : ℕ)
    → reply_told (thread_of k) m.made (step_of true s.world m.made).answer ≡ reply_to k c (did_of p s c)
reply_made p s t c m k =
    ap (λ (b : Bool). if b then option_to_list (reply_in (did_in (step_of true s.world m.made).answer)) else []) (step_is_of p s c m.made k m.is)
    ∙ ap (λ (o : Option Step). reply_to k c (did_by s.world o)) (sym m.is)

-- the steps of choices hand out what the choices do
steps_reply : (p : Program) (cs : List Choice) (s t : ProgramState) (k : ℕ) → played_from p cs (Some s) ≡ Some t
    → replies_told s.world (steps_from p (Some s) cs) (thread_of k) ≡ replies_along p (Some s) cs k
steps_reply p [] s t k h = refl
steps_reply p (c ∷ cs) s t k h = by (after p s c) refl h (λ r g. steps_reply p cs r t k g)
  where
    by : (o : Option ProgramState) → after p s c ≡ o → played_from p cs o ≡ Some t
        → ((r : ProgramState) → played_from p cs (Some r) ≡ Some t
        → replies_told r.world (steps_from p (Some r) cs) (thread_of k) ≡ replies_along p (Some r) cs k)
        → replies_told s.world (steps_from p (Some s) (c ∷ cs)) (thread_of k) ≡ replies_along p (Some s) (c ∷ cs) k
    by None is g rest = absurd (none_leads p cs t g)
    by (Some r) is g rest =
        let m = choice_made p s r c is in
        let later : List Step = steps_from p (Some r) cs in
        let these : List Reply = reply_to k c (did_of p s c) in
        ap (λ (xs : List Step). replies_told s.world xs (thread_of k)) (steps_made p s r c cs m is)
        ∙ ap (λ (rs : List Reply). rs ++ replies_told (step_of true s.world m.made).after later (thread_of k)) (reply_made p s r c m k)
        ∙ ap (λ (w : WorldState). these ++ replies_told w later (thread_of k)) m.world
        ∙ ap (λ (rs : List Reply). these ++ rs) (rest r g)
        ∙ ap (λ (o : Option ProgramState). these ++ replies_along p o cs k) (sym is)

-- From where the program begins the steps of choices hand out the replies of their state.
pub later_replies : (p : Program) (cs : List Choice) (s : ProgramState) (k : ℕ) → played p cs ≡ Some s → k < length p.starts.items
    → replies_told (opening p).world (steps_from p (Some (opening p)) cs) (thread_of k) ≡ replies_of p s k
later_replies p cs s k h within = steps_reply p cs (opening p) s k h ∙ play_replies p cs s k h within

-- steps behind the attaches hand out what they do from where the program begins
pub behind_attaches : (p : Program) (xs : List Step) (t : ThreadId)
    → replies_told (empty_world p) (attaches (length p.starts.items) ++ xs) t ≡ replies_told (opening p).world xs t
behind_attaches p xs t =
    let n : ℕ = length p.starts.items in
    replies_append (empty_world p) (attaches n) xs t
    ∙ ap (λ (rs : List Reply). rs ++ replies_told (world_after (empty_world p) (granted (attaches n))) xs t) (attaches_silent (empty_world p) n t)
    ∙ ap (λ (w : WorldState). replies_told w xs t) (attaches_lead p n)

-- and lead where they do from there
pub lead_behind : (p : Program) (xs : List Step) (w : WorldState) → AreAccepted (opening p).world xs → world_after (opening p).world (granted xs) ≡ w
    → LeadTo (empty_world p) (attaches (length p.starts.items) ++ xs) w
lead_behind p xs w accepted leads =
    let n : ℕ = length p.starts.items in
    let there = attaches_lead p n in
    record {
      accepted = accepted_append (empty_world p) (attaches n) xs (attaches_accepted p n (omega arith)) (rw there accepted);
      leads = world_append (empty_world p) (attaches n) xs ∙ rw there leads;
    }

-- The steps of a script hand out the replies of the state of its choices.
pub script_replies : (p : Program) (cs : List Choice) (s : ProgramState) (k : ℕ) → played p cs ≡ Some s → k < length p.starts.items
    → replies_told (empty_world p) (script_steps p cs) (thread_of k) ≡ replies_of p s k
script_replies p cs s k h within = behind_attaches p (steps_from p (Some (opening p)) cs) (thread_of k) ∙ later_replies p cs s k h within

-- The steps of a script lead to the state of its choices.
pub script_leads : (p : Program) (cs : List Choice) (s : ProgramState) → played p cs ≡ Some s → LeadTo (empty_world p) (script_steps p cs) s.world
script_leads p cs s h =
    let rest = from_leads p cs (opening p) s h in lead_behind p (steps_from p (Some (opening p)) cs) s.world rest.0 rest.1
