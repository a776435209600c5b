-- What every state keeps that choices lead to; and where no choice changes one, nobody is in a call about interrupts.
use native.Mathlib.Omega.{arith}
use Rattle.std.proofs.Common.{◌≡◌, ◌∙◌, ◌⊎◌, inl, inr, sym, ap, refl, subst, ℕ, zero, suc, ◌+◌, ◌<◌, Bool, true, false, if◌then◌else◌, nat_lt, List, [], ◌∷◌, ◌++◌, length, Option, Some, None, Result, Ok, Err}
use Rattle.std.specs.Prelude.{slice_get, slice_index_or, slice_set}
use Rattle.std.proofs.lemmas.Bool.{lt-ltb}
use Rattle.std.proofs.lemmas.List.{get_or-set_same, length-set}
use Rattle.std.proofs.lemmas.Option.{same_Some}
use Rattle.lock_word.specs.declared.ThreadId.{ThreadId}
use Rattle.fat_monitor.specs.Acting.{outcome_of}
use Rattle.fat_monitor.specs.FatState.{FatState}
use Rattle.fat_monitor.specs.declared.actions.ActFault.{ActFault}
use Rattle.fat_monitor.specs.declared.actions.Action.{Action}
use Rattle.fat_monitor.specs.declared.actions.Answer.{Answer}
use Rattle.fat_monitor.specs.declared.actions.Answer.TheVariants as answer
use Rattle.fat_monitor.specs.declared.actions.Done.{Done}
use Rattle.fat_monitor.specs.declared.actions.Reply.{Reply}
use Rattle.fast_path.specs.Calls.{call_about}
use Rattle.fast_path.specs.declared.calls.Call.{Call}
use Rattle.fast_path.specs.declared.calls.InterruptCall.{InterruptCall}
use Rattle.thread_index.specs.Indices.{berth_of}
use Rattle.thread_index.proofs.Berths.{berth_found}
use Rattle.step_core.specs.Go.{AfterGo, action_about, after_act, after_told, place_after, with_go}
use Rattle.step_core.specs.Sound.{IsSound}
use Rattle.step_core.specs.Step.{AfterStep, accept, after_go, after_go_at, step_of}
use Rattle.step_core.specs.World.{WorldState, opening_world, place_at}
use Rattle.step_core.specs.declared.places.Place.{Place}
use Rattle.step_core.specs.declared.places.Place.TheVariants.{Idle, InCall, Ending, AtPost}
use Rattle.step_core.specs.declared.places.Stage.TheVariants.{Begun, Taking, Storing, Binding, Acting, Won, Bound, Inflated, Direct}
use Rattle.step_core.specs.declared.steps.Did.{Did}
use Rattle.step_core.specs.declared.steps.Fault.{Fault}
use Rattle.step_core.specs.declared.steps.Request.TheVariants as request
use Rattle.step_core.specs.declared.steps.Step.{Step}
use Rattle.step_core.specs.declared.steps.Step.TheVariants as step
use Rattle.step_core.proofs.Relaying.Requests.{then_right}
use Rattle.step_core.proofs.Sound.Opening.{opened_sound}
use Rattle.explore.specs.declared.programs.Program.{Program}
use Rattle.explore.specs.declared.programs.Choice.{Choice}
use Rattle.explore.specs.declared.programs.Choice.TheVariants as choice
use Rattle.explore.specs.Found.{IsEnd}
use Rattle.explore.specs.States.{ProgramState, after, after_answer, after_step, attached, begin_of, call_below, chosen, moved, opening, played, played_from, replied, step_at, step_for, step_of_thread, thread_of, tick_of, with_reply}
use Rattle.explore.proofs.Finding.{none_leads}
use Rattle.explore.proofs.Making.{choice_made, meant}
use Rattle.explore.proofs.Replying.{fresh_opening}
use Rattle.explore_runs.specs.Steps.{steps_from, step_in}
use Rattle.explore_runs.proofs.Alike.{AreNoAttaches}
use Rattle.explore_runs.proofs.Attaching.{opening_ours}
use Rattle.explore_runs.proofs.Berthed.{IsManned, manned_next}
use Rattle.explore_runs.proofs.Renumbering.{IsNoAttach, Numbers, renumbered, renumbered_place, world_stays}

pub record IsKept (p : Program) (s : ProgramState) : Type 0 where
  pub sound : IsSound s.world
  pub manned : IsManned (length p.starts.items) s.world
  pub each : length s.nexts ≡ length p.starts.items

-- ---- where a program begins

attached_sound : (w : WorldState) (n : ℕ) → IsSound w → IsSound (attached w n)
attached_sound w zero sound = sound
attached_sound w (suc n) sound = (then_right (attached w n) (attached_sound w n sound) (request.Step (step.Attach (thread_of n)), true)).0

pub kept_opening : (p : Program) → ((k : ℕ) → slice_index_or p.lows.items k 0 < 256) → IsKept p (opening p)
kept_opening p bytes =
    let fresh = fresh_opening p in
    record {
      sound = attached_sound (opening_world p.lows.items p.monitors p.indices p.split) (length p.starts.items)
          (opened_sound p.lows.items p.monitors p.indices p.split (λ k lt. bytes k) (let most = p.objects_fit in omega (arith, most)) p.indices_fit p.monitors_fit);
      manned = record { ours = opening_ours p; taken = λ k. inl (fresh.idle k) };
      each = refl;
    }

-- in which nobody is in a call
pub opening_stays : (p : Program) (r : Numbers) → renumbered r (opening p).world ≡ (opening p).world
opening_stays p r =
    let fresh = fresh_opening p in
    world_stays r (opening p).world (λ k. ap (renumbered_place r) (fresh.idle k) ∙ sym (fresh.idle k))

-- ---- a choice more

-- a choice is no attach
begun : (j : ℕ) (o : Option Call) (x : Step) → begin_of j o ≡ Some x → IsNoAttach x
begun j None x h = absurd (cc)
begun j (Some c) x h = subst IsNoAttach (same_Some (step.Begin (thread_of j) c) x h) tt

woken : (j : ℕ) (b : Bool) (x : Step) → (if b then Some (step.Spurious (thread_of j)) else None) ≡ Some x → IsNoAttach x
woken j true x h = subst IsNoAttach (same_Some (step.Spurious (thread_of j)) x h) tt
woken j false x h = absurd (cc)

ticked : (o : Option ℕ) (x : Step) → tick_of o ≡ Some x → IsNoAttach x
ticked None x h = absurd (cc)
ticked (Some now) x h = subst IsNoAttach (same_Some (step.Tick now) x h) tt

pub no_attach : (p : Program) (s : ProgramState) (c : Choice) (x : Step) → step_for p s c ≡ Some x → IsNoAttach x
no_attach p s (choice.Begin j) x h = let is = meant p (choice.Begin j) j (slice_get s.nexts j) x h in begun j (call_below p j is.next) x is.is
no_attach p s (choice.Go j) x h =
    let is = meant p (choice.Go j) j (slice_get s.nexts j) x h in subst IsNoAttach (same_Some (step.Go (thread_of j)) x is.is) tt
no_attach p s (choice.Expire j) x h =
    let is = meant p (choice.Expire j) j (slice_get s.nexts j) x h in subst IsNoAttach (same_Some (step.Expire (thread_of j)) x is.is) tt
no_attach p s (choice.Spurious j) x h = let is = meant p (choice.Spurious j) j (slice_get s.nexts j) x h in woken j p.spurious x is.is
no_attach p s choice.Tick x h = ticked (slice_get p.moments.items s.told) x h

pub no_attaches : (p : Program) (o : Option ProgramState) (cs : List Choice) → AreNoAttaches (steps_from p o cs)
no_attaches p None [] = tt
no_attaches p (Some s) [] = tt
no_attaches p None (c ∷ cs) = tt
no_attaches p (Some s) (c ∷ cs) = by (step_for p s c) refl (no_attaches p (after p s c) cs)
  where
    by : (o : Option Step) → step_for p s c ≡ o → AreNoAttaches (steps_from p (after p s c) cs) → AreNoAttaches (step_in o ++ steps_from p (after p s c) cs)
    by None e rest = rest
    by (Some x) e rest = (no_attach p s c x e, rest)

replied_each : (s : ProgramState) (k : ℕ) (r : Option Reply) → length (replied s k r).nexts ≡ length s.nexts
replied_each s k None = refl
replied_each s k (Some a) = by (slice_get s.nexts k)
  where
    noted : (n : ℕ) (b : Bool)
        → length (if b then record s { nexts = slice_set s.nexts k (n + 1); replies = slice_set s.replies n (Some a) } else s).nexts ≡ length s.nexts
    noted n true = length-set s.nexts k (n + 1)
    noted n false = refl

    by : (o : Option ℕ) → length (with_reply s k a o).nexts ≡ length s.nexts
    by None = refl
    by (Some n) = noted n (nat_lt n (length s.replies))

pub kept_next : (p : Program) (s t : ProgramState) (c : Choice) → IsKept p s → after p s c ≡ Some t → IsKept p t
kept_next p s t c kept h =
    let m = choice_made p s t c h in
    let v : WorldState = (step_of true s.world m.made).after in
    record {
      sound = subst IsSound m.world (then_right s.world kept.sound (request.Step m.made, true)).0;
      manned = subst (IsManned (length p.starts.items)) m.world
          (manned_next (length p.starts.items) s.world m.made kept.sound kept.manned (no_attach p s c m.made m.is));
      each = ap (λ (u : ProgramState). length u.nexts) (sym m.leads) ∙ replied_each (moved s c v) (chosen c) m.did.reply ∙ kept.each;
    }

kept_from : (p : Program) (cs : List Choice) (s t : ProgramState) → IsKept p s → played_from p cs (Some s) ≡ Some t → IsKept p t
kept_from p [] s t kept h = subst (IsKept p) (same_Some s t h) kept
kept_from p (c ∷ cs) s t kept h = by (after p s c) refl h (λ u kept g. kept_from p cs u t kept g)
  where
    by : (o : Option ProgramState) → after p s c ≡ o → played_from p cs o ≡ Some t
        → ((u : ProgramState) → IsKept p u → played_from p cs (Some u) ≡ Some t → IsKept p t) → IsKept p t
    by None is g rest = absurd (none_leads p cs t g)
    by (Some u) is g rest = rest u (kept_next p s u c kept is) g

pub kept_played : (p : Program) (cs : List Choice) (s : ProgramState) → ((k : ℕ) → slice_index_or p.lows.items k 0 < 256) → played p cs ≡ Some s → IsKept p s
kept_played p cs s bytes h = kept_from p cs (opening p) s (kept_opening p bytes) h

-- ---- a state that no choice changes

abbrev is_in_call : Place → Bool
is_in_call Idle = false
is_in_call (InCall s) = true
is_in_call (Ending n) = false
is_in_call AtPost = false

answered_out : (x : Answer) → is_in_call (place_after x) ≡ false
answered_out (answer.Reply r) = refl
answered_out answer.Parked = refl
answered_out answer.Quiet = refl

told_out : (w : WorldState) (t : ThreadId) (c : Call) (a : Action) (r : Result Done ActFault) (f : FatState) → is_in_call (after_told w t c a r f).place ≡ false
told_out w t c a (Ok d) f = answered_out d.answer
told_out w t c a (Err e) f = refl

-- the number of its own next call that a thread of the program has
pub next_there : (ns : List ℕ) (k : ℕ) → k < length ns → (n : ℕ) × (slice_get ns k ≡ Some n)
next_there [] k lt = absurd (omega (arith, lt))
next_there (n ∷ ns) zero lt = (n, refl)
next_there (n ∷ ns) (suc k) lt = next_there ns k (omega (arith, lt))

-- A step that a choice means, and that is accepted, leaves a world which no choice changes.
pub step_rests : (p : Program) (s : ProgramState) (c : Choice) (x : Step) (d : Did) → IsEnd p s → step_for p s c ≡ Some x
    → (step_of true s.world x).answer ≡ Ok d → (step_of true s.world x).after ≡ s.world
step_rests p s c x d end means accepted =
    let u : ProgramState = replied (moved s c (step_of true s.world x).after) (chosen c) d.reply in
    let leads : after p s c ≡ Some u =
    ap (λ (o : Option Step). after_step s c o) means ∙ ap (λ (a : Result Did Fault). after_answer s c a (step_of true s.world x).after) accepted in
    let m = choice_made p s s c (leads ∙ ap (λ (v : ProgramState). Some v) (end c u leads)) in
    let made : x ≡ m.made = same_Some x m.made (sym means ∙ m.is) in
    ap (λ (y : Step). (step_of true s.world y).after) made ∙ m.world

module _ (p : Program) (s : ProgramState) (kept : IsKept p s) where
  -- a choice of a thread of the program means its step
  pub thread_means : (c : Choice) (t : ThreadId) (x : Step) → t.0 < length p.starts.items → ((n : ℕ) → step_at p c n ≡ Some x)
      → step_of_thread p c t.0 (slice_get s.nexts t.0) ≡ Some x
  thread_means c t x lt h =
      let each = kept.each in
      let next = next_there s.nexts t.0 (omega (arith, lt, each)) in
      ap (λ (o : Option ℕ). step_of_thread p c t.0 o) next.1
      ∙ ap (λ (b : Bool). if b then step_at p c next.0 else None) (lt-ltb t.0 (length p.starts.items) lt) ∙ h next.0

  module _ (end : IsEnd p s) (t : ThreadId) (k : ℕ) (at : berth_of s.world.berths t ≡ Some k) where
    pub own : t.0 < length p.starts.items
    own = kept.manned.ours t k at

    pub within : k < length s.world.places
    within = let found = berth_found s.world.berths t k at in let lt = found.0 in let berthed = kept.sound.berthed in omega (arith, lt, berthed)

    -- so does a Go of the thread at a berth
    pub go_rests : (d : Did) → (after_go_at true s.world k t (place_at s.world k)).answer ≡ Ok d
        → (after_go_at true s.world k t (place_at s.world k)).after ≡ s.world
    go_rests d accepted =
        let goes : step_of true s.world (step.Go t) ≡ after_go_at true s.world k t (place_at s.world k) = ap (λ (b : Option ℕ). after_go true s.world t b) at in
        ap (λ (o : AfterStep). o.after) (sym goes)
        ∙ step_rests p s (choice.Go t.0) (step.Go t) d end (thread_means (choice.Go t.0) t (step.Go t) own (λ n. refl)) (ap (λ (o : AfterStep). o.answer) goes ∙ accepted)

    -- which leaves the thread at its place
    pub place_rests : (a : AfterGo) → after_go_at true s.world k t (place_at s.world k) ≡ accept (with_go s.world k a) a.did → a.place ≡ place_at s.world k
    place_rests a is =
        let rests = go_rests a.did (ap (λ (o : AfterStep). o.answer) is) in
        let same : with_go s.world k a ≡ s.world = ap (λ (o : AfterStep). o.after) (sym is) ∙ rests in
        sym (get_or-set_same s.world.places k a.place Idle within) ∙ ap (λ (v : WorldState). place_at v k) same

module _ (p : Program) (s : ProgramState) (kept : IsKept p s) (end : IsEnd p s) (k : ℕ) (c : InterruptCall) (here : place_at s.world k ≡ InCall (Direct c)) where
  -- a call about interrupts is over with its Go
  changes : (t : ThreadId) → berth_of s.world.berths t ≡ Some k → ⊥
  changes t at =
      let a : AfterGo = after_act s.world t (call_about c) (action_about c) in
      let place : a.place ≡ InCall (Direct c) = place_rests p s kept end t k at a (ap (λ (q : Place). after_go_at true s.world k t q) here) ∙ here in
      let out = told_out s.world t (call_about c) (action_about c) (outcome_of s.world.fats t (action_about c)).answer (outcome_of s.world.fats t (action_about c)).after in
      let never : true ≡ false = sym (ap is_in_call place) ∙ out in
      cc

  nobody : ⊥
  nobody = by (kept.manned.taken k)
    where
      by : (place_at s.world k ≡ Idle) ⊎ ((t : ThreadId) × (berth_of s.world.berths t ≡ Some k)) → ⊥
      by (inl idle) = let never : true ≡ false = sym (ap is_in_call here) ∙ ap is_in_call idle in cc
      by (inr (t, at)) = changes t at

-- then other numbers change nothing
pub end_stays : (p : Program) (s : ProgramState) (r : Numbers) → IsKept p s → IsEnd p s → renumbered r s.world ≡ s.world
end_stays p s r kept end = world_stays r s.world (λ k. by k (place_at s.world k) refl)
  where
    by : (k : ℕ) (q : Place) → place_at s.world k ≡ q → renumbered_place r q ≡ q
    by k Idle e = refl
    by k (InCall (Begun c b)) e = refl
    by k (InCall (Taking o b)) e = refl
    by k (InCall (Storing c l)) e = refl
    by k (InCall (Binding c n)) e = refl
    by k (InCall (Acting c m)) e = refl
    by k (InCall (Won o)) e = refl
    by k (InCall (Bound c won m)) e = refl
    by k (InCall (Inflated c m)) e = refl
    by k (InCall (Direct c)) e = absurd (nobody p s kept end k c e)
    by k (Ending n) e = refl
    by k AtPost e = refl
