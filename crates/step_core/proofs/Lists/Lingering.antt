-- How often a call can go on without a reply, without parking and without meeting another thread.
use Rattle.std.specs.Prelude.{◌≡◌, ◌⊎◌, ℕ, ◌+◌, ◌<◌, ◌≤◌, Bool, true, false, List, [], ◌∷◌, length, Option, Some, None, IsSome, Result, Ok, Err}
use Rattle.std.proofs.Common.{refl, arith, ap, sym, ◌∙◌, inl, inr}
use Rattle.std.proofs.lemmas.Bool.{cases_eq, cases_lt, eq-eqb, ne_eqb}
use Rattle.lock_word.specs.declared.ThreadId.{ThreadId}
use Rattle.lock_word.specs.declared.ObjectId.{ObjectId}
use Rattle.lock_word.specs.declared.Split.{Split}
use Rattle.thread_index.specs.Indices.{berth_of}
use Rattle.thread_index.proofs.Berths.{berth_same}
use Rattle.fast_path.specs.declared.calls.Call.{Call}
use Rattle.fast_path.specs.declared.calls.Call.TheVariants as call
use Rattle.fast_path.specs.declared.calls.Operation.{Operation}
use Rattle.fast_path.specs.declared.calls.Operation.TheVariants as op
use Rattle.fast_path.specs.declared.calls.InterruptCall.{InterruptCall}
use Rattle.fast_path.specs.declared.calls.InterruptCall.TheVariants as about
use Rattle.fast_path.specs.Calls.{object_of, call_on, call_about}
use Rattle.step_core.specs.declared.machine.Doing.{Doing}
use Rattle.step_core.specs.declared.machine.Doing.TheVariants as doing
use Rattle.step_core.specs.declared.places.Place.{Place}
use Rattle.step_core.specs.declared.places.Place.TheVariants.{Idle, InCall, Ending, AtPost}
use Rattle.step_core.specs.declared.places.Stage.{Stage}
use Rattle.step_core.specs.declared.places.Stage.TheVariants.{Begun, Taking, Storing, Binding, Acting, Won, Bound, Inflated, Direct}
use Rattle.step_core.specs.declared.steps.Request.{Request}
use Rattle.step_core.specs.declared.steps.Request.TheVariants as request
use Rattle.step_core.specs.declared.steps.Step.{Step}
use Rattle.step_core.specs.declared.steps.Step.TheVariants as step
use Rattle.step_core.specs.declared.steps.Did.{Did}
use Rattle.step_core.specs.declared.steps.Fault.{Fault}
use Rattle.step_core.specs.declared.steps.Fault.TheVariants as fault
use Rattle.step_core.specs.declared.steps.Fault.TheVariants.{Memory, Known, NoObject}
use Rattle.step_core.specs.Machine.{Thread, Is}
use Rattle.step_core.specs.World.{WorldState, place_at}
use Rattle.step_core.specs.Shown.{shown, doing_of, doing_in}
use Rattle.step_core.specs.Sound.{IsSound, Fitting}
use Rattle.step_core.specs.Step.{step_of}
use Rattle.step_core.specs.Relayout.{after_relayout}
use Rattle.step_core.specs.Refused.{IsLive, IsBusy, IsAcceptable}
use Rattle.step_core.specs.Patient.{left_in, left_at, left_of_berth, left_of, HasMet, HasParked, goes_of, Lingers, AllLinger}
use Rattle.step_core.proofs.Facts.OneThread.{within}
use Rattle.step_core.proofs.Sound.AllSteps.{step_right}
use Rattle.step_core.proofs.Relaying.Requests.{relayout_sound, relayout_left}
use Rattle.step_core.proofs.Clauses.Refused.{step_judged, does, does_out, shows, busy}
use Rattle.step_core.proofs.Clauses.Patient.{step_patient}

-- threads with one number have as much left
same_left : (w : WorldState) (t u : ThreadId) → u.0 ≡ t.0 → left_of w u ≡ left_of w t
same_left w t u e = ap (λ (o : Option ℕ). left_of_berth w o) (berth_same w.berths t u e)

-- a place with steps left is in a call
busy_place : (objects : ℕ) (p : Place) → 1 ≤ left_at objects p → p ≡ Idle → ⊥
busy_place objects Idle h e = absurd (omega arith)
busy_place objects (InCall s) h e = cc
busy_place objects (Ending n) h e = cc
busy_place objects AtPost h e = cc

-- and so is a thread with steps left
is_busy : (w : WorldState) → IsSound w → (t : ThreadId) → 1 ≤ left_of w t → IsBusy w t
is_busy w sound t h = by_berth (berth_of w.berths t) refl
  where
    by_berth : (o : Option ℕ) → berth_of w.berths t ≡ o → IsBusy w t
    by_berth None e = let none : left_of w t ≡ 0 = rw e refl in absurd (omega arith)
    by_berth (Some k) e = let some : 1 ≤ left_at (length w.words) (place_at w k) = rw e at h in busy w sound t k e (busy_place (length w.words) (place_at w k) some)

-- a busy thread is live, and is neither attached nor begins a call
busy_live : (w : WorldState) (t : ThreadId) → IsBusy w t → IsLive w t
busy_live w t busy = rw busy.1 refl

no_attach : (w : WorldState) (t : ThreadId) → IsBusy w t → IsAcceptable w (step.Attach t) → ⊥
no_attach w t busy all = let never : Known ≡ Memory = all Known (busy_live w t busy) in cc

no_begin : (w : WorldState) (t : ThreadId) (c : Call) → IsBusy w t → IsAcceptable w (step.Begin t c) → ⊥
no_begin w t c busy all = by_object (object_of c) refl
  where
    by_object : (o : Option ObjectId) → object_of c ≡ o → ⊥
    by_object None names = let never : fault.InCall ≡ Memory = all fault.InCall (busy, rw names tt) in cc
    by_object (Some o) names = by_place (cases_lt o.0 (shown w).objects)
      where
        by_place : (o.0 < (shown w).objects) ⊎ ((shown w).objects ≤ o.0) → ⊥
        by_place (inl h) = let never : fault.InCall ≡ Memory = all fault.InCall (busy, rw names h) in cc
        by_place (inr h) = let never : NoObject ≡ Memory = all NoObject (busy_live w t busy, (o, names, h)) in cc

same_Ok : (d e : Did) → ◌≡◌ {A = Result Did Fault} (Ok d) (Ok e) → d ≡ e
same_Ok d e h = cc

-- what a step does to what t has left, where it lingers: a Go of t lowers it, which stays at least 1; any other step leaves it
abbrev LowersBy : WorldState → ThreadId → ℕ → WorldState → Type 0
LowersBy w t n w' = (left_of w' t + n ≤ left_of w t) × (1 ≤ left_of w' t)

module _ (w : WorldState) (sound : IsSound w) (t : ThreadId) (left : 1 ≤ left_of w t) where
  -- a step that is refused leaves it
  unmoved : (s : Step) (room : Bool) → (step_of room w s).after ≡ w → LowersBy w t 0 (step_of room w s).after
  unmoved s room e = rw e (omega arith, left)

  -- so does a step of another thread
  kept : (w' : WorldState) → left_of w' t ≡ left_of w t → LowersBy w t 0 w'
  kept w' e = (omega arith, omega arith)

  attaches : (u : ThreadId) (room : Bool) (r : Result Did Fault) → (step_of room w (step.Attach u)).answer ≡ r → (u.0 ≡ t.0) ⊎ (u.0 ≡ t.0 → ⊥)
      → LowersBy w t 0 (step_of room w (step.Attach u)).after
  attaches u room (Err f) e same = unmoved (step.Attach u) room (rw e at (step_judged w sound room (step.Attach u)).1)
  attaches u room (Ok d) e (inl same) =
      absurd (no_attach w u (is_busy w sound u (rw (same_left w t u same) left)) (rw e at (step_judged w sound room (step.Attach u)).0))
  attaches u room (Ok d) e (inr other) = kept (step_of room w (step.Attach u)).after ((rw e at (step_patient w sound room (step.Attach u))) t (λ x. other (sym x)))

  begins : (u : ThreadId) (c : Call) (room : Bool) (r : Result Did Fault) → (step_of room w (step.Begin u c)).answer ≡ r → (u.0 ≡ t.0) ⊎ (u.0 ≡ t.0 → ⊥)
      → LowersBy w t 0 (step_of room w (step.Begin u c)).after
  begins u c room (Err f) e same = unmoved (step.Begin u c) room (rw e at (step_judged w sound room (step.Begin u c)).1)
  begins u c room (Ok d) e (inl same) =
      absurd (no_begin w u c (is_busy w sound u (rw (same_left w t u same) left)) (rw e at (step_judged w sound room (step.Begin u c)).0))
  begins u c room (Ok d) e (inr other) = kept (step_of room w (step.Begin u c)).after ((rw e at (step_patient w sound room (step.Begin u c))) t (λ x. other (sym x)))

  expires : (u : ThreadId) (room : Bool) (r : Result Did Fault) → (step_of room w (step.Expire u)).answer ≡ r → LowersBy w t 0 (step_of room w (step.Expire u)).after
  expires u room (Err f) e = unmoved (step.Expire u) room (rw e at (step_judged w sound room (step.Expire u)).1)
  expires u room (Ok d) e = kept (step_of room w (step.Expire u)).after ((rw e at (step_patient w sound room (step.Expire u))) t)

  wakes : (u : ThreadId) (room : Bool) (r : Result Did Fault) → (step_of room w (step.Spurious u)).answer ≡ r → LowersBy w t 0 (step_of room w (step.Spurious u)).after
  wakes u room (Err f) e = unmoved (step.Spurious u) room (rw e at (step_judged w sound room (step.Spurious u)).1)
  wakes u room (Ok d) e = kept (step_of room w (step.Spurious u)).after ((rw e at (step_patient w sound room (step.Spurious u))) t)

  ticks : (now : ℕ) (room : Bool) (r : Result Did Fault) → (step_of room w (step.Tick now)).answer ≡ r → LowersBy w t 0 (step_of room w (step.Tick now)).after
  ticks now room (Err f) e = unmoved (step.Tick now) room (rw e at (step_judged w sound room (step.Tick now)).1)
  ticks now room (Ok d) e = kept (step_of room w (step.Tick now)).after ((rw e at (step_patient w sound room (step.Tick now))) t)

  others : (u : ThreadId) (room : Bool) (r : Result Did Fault) → (step_of room w (step.Go u)).answer ≡ r → (u.0 ≡ t.0 → ⊥) → LowersBy w t 0 (step_of room w (step.Go u)).after
  others u room (Err f) e other = unmoved (step.Go u) room (rw e at (step_judged w sound room (step.Go u)).1)
  others u room (Ok d) e other = kept (step_of room w (step.Go u)).after ((rw e at (step_patient w sound room (step.Go u))).1 t (λ x. other (sym x)))

  goes : (u : ThreadId) (room : Bool) (r : Result Did Fault) → (step_of room w (step.Go u)).answer ≡ r → u.0 ≡ t.0 → Lingers w t (request.Step (step.Go u), room)
      → LowersBy w t 1 (step_of room w (step.Go u)).after
  goes u room (Err f) e same lingers = let one = lingers same in let never : ◌≡◌ {A = Result Did Fault} (Err f) (Ok one.0) = sym e ∙ one.1 in absurd (cc)
  goes u room (Ok d) e same lingers =
      let one = lingers same in
      let other : d ≡ one.0 = same_Ok d one.0 (sym e ∙ one.1) in
      by_case (rw e at (step_patient w sound room (step.Go u))).0 (rw other (one.2, one.3, one.4))
    where
      w' : WorldState
      w' = (step_of room w (step.Go u)).after

      by_case : IsSome d.reply ⊎ (HasParked d.atomic ⊎ (HasMet w u d.atomic ⊎ ((left_of w' u < left_of w u) × (1 ≤ left_of w' u))))
          → (IsSome d.reply → ⊥) × (HasParked d.atomic → ⊥) × (HasMet w u d.atomic → ⊥) → LowersBy w t 1 w'
      by_case (inl replied) neither = absurd (neither.0 replied)
      by_case (inr (inl parked)) neither = absurd (neither.1 parked)
      by_case (inr (inr (inl met))) neither = absurd (neither.2 met)
      by_case (inr (inr (inr lower))) neither =
          let before : left_of w u ≡ left_of w t = same_left w t u same in let after : left_of w' u ≡ left_of w' t = same_left w' t u same in
          (omega arith, omega arith)

  -- nor does a relayout touch it
  relays : (split : Split) (room : Bool) → LowersBy w t 0 (after_relayout room w split).after
  relays split room = kept (after_relayout room w split).after (relayout_left w sound room split t)

-- A call in which t lingers over a list of steps goes on less often than it has steps left.
pub lingers : (w : WorldState) → IsSound w → (t : ThreadId) (ss : List (Request × Bool)) → 1 ≤ left_of w t → AllLinger w t ss → goes_of t ss < left_of w t
lingers w sound t [] left all = left
lingers w sound t ((request.Step (step.Expire u), room) ∷ ss) left all =
    let one = expires w sound t left u room (step_of room w (step.Expire u)).answer refl in
    let rest = lingers (step_of room w (step.Expire u)).after (step_right w sound room (step.Expire u)).0 t ss one.1 all.1 in omega arith
lingers w sound t ((request.Step (step.Spurious u), room) ∷ ss) left all =
    let one = wakes w sound t left u room (step_of room w (step.Spurious u)).answer refl in
    let rest = lingers (step_of room w (step.Spurious u)).after (step_right w sound room (step.Spurious u)).0 t ss one.1 all.1 in omega arith
lingers w sound t ((request.Step (step.Tick now), room) ∷ ss) left all =
    let one = ticks w sound t left now room (step_of room w (step.Tick now)).answer refl in
    let rest = lingers (step_of room w (step.Tick now)).after (step_right w sound room (step.Tick now)).0 t ss one.1 all.1 in omega arith
lingers w sound t ((request.Relayout split, room) ∷ ss) left all =
    let one = relays w sound t left split room in
    let rest = lingers (after_relayout room w split).after (relayout_sound w sound room split) t ss one.1 all.1 in omega arith
lingers w sound t ((request.Step (step.Attach u), room) ∷ ss) left all =
    let one = attaches w sound t left u room (step_of room w (step.Attach u)).answer refl (cases_eq u.0 t.0) in
    let rest = lingers (step_of room w (step.Attach u)).after (step_right w sound room (step.Attach u)).0 t ss one.1 all.1 in omega arith
lingers w sound t ((request.Step (step.Begin u c), room) ∷ ss) left all =
    let one = begins w sound t left u c room (step_of room w (step.Begin u c)).answer refl (cases_eq u.0 t.0) in
    let rest = lingers (step_of room w (step.Begin u c)).after (step_right w sound room (step.Begin u c)).0 t ss one.1 all.1 in omega arith
lingers w sound t ((request.Step (step.Go u), room) ∷ ss) left all = by_thread (cases_eq u.0 t.0) (λ h. lingers (step_of room w (step.Go u)).after (step_right w sound room (step.Go u)).0 t ss h all.1)
  where
    by_thread : (u.0 ≡ t.0) ⊎ (u.0 ≡ t.0 → ⊥) → (1 ≤ left_of (step_of room w (step.Go u)).after t → goes_of t ss < left_of (step_of room w (step.Go u)).after t)
        → goes_of t ((request.Step (step.Go u), room) ∷ ss) < left_of w t
    by_thread (inl same) rest =
        let one = goes w sound t left u room (step_of room w (step.Go u)).answer refl same all.0 in let more = rest one.1 in
        rw (eq-eqb u.0 t.0 same) (omega arith)
    by_thread (inr other) rest =
        let one = others w sound t left u room (step_of room w (step.Go u)).answer refl other in let more = rest one.1 in
        rw (ne_eqb u.0 t.0 other) (omega arith)

-- what a call has left, by its stage
left_in_bounds : (s : Stage) → (1 ≤ left_in s) × (left_in s ≤ 4)
left_in_bounds (Begun c b) = (omega arith, omega arith)
left_in_bounds (Taking o b) = (omega arith, omega arith)
left_in_bounds (Storing c l) = (omega arith, omega arith)
left_in_bounds (Binding c n) = (omega arith, omega arith)
left_in_bounds (Acting c m) = (omega arith, omega arith)
left_in_bounds (Won o) = (omega arith, omega arith)
left_in_bounds (Bound c true m) = (omega arith, omega arith)
left_in_bounds (Bound c false m) = (omega arith, omega arith)
left_in_bounds (Inflated c m) = (omega arith, omega arith)
left_in_bounds (Direct c) = (omega arith, omega arith)

-- and by its place
left_bounds : (w : WorldState) (k : ℕ) (p : Place) → Fitting w k p → (p ≡ Idle → ⊥) → 1 ≤ left_at (length w.words) p
left_bounds w k Idle fit h = absurd (h refl)
left_bounds w k (InCall s) fit h = (left_in_bounds s).0
left_bounds w k (Ending n) fit h = let within : n ≤ length w.words = fit.0 in omega arith
left_bounds w k AtPost fit h = omega arith

at_most_four : (objects : ℕ) (p : Place) → ((n : ℕ) → p ≡ Ending n → ⊥) → left_at objects p ≤ 4
at_most_four objects Idle h = omega arith
at_most_four objects (InCall s) h = (left_in_bounds s).1
at_most_four objects (Ending n) h = absurd (h n refl)
at_most_four objects AtPost h = omega arith

-- neither a call on an object nor one about interrupts is an end
on_no_end : (o : ObjectId) (p : Operation) → doing.Wants (call_on o p) ≡ doing.Wants call.End → ⊥
on_no_end o op.Enter e = cc
on_no_end o op.Exit e = cc
on_no_end o (op.Wait millis nanos) e = cc
on_no_end o op.Notify e = cc
on_no_end o op.NotifyAll e = cc
on_no_end o op.Holds e = cc

about_no_end : (c : InterruptCall) → doing.Wants (call_about c) ≡ doing.Wants call.End → ⊥
about_no_end (about.Interrupt u) e = cc
about_no_end about.Interrupted e = cc
about_no_end (about.IsInterrupted u) e = cc

-- so no stage is one of an end
stage_no_end : (s : Stage) → doing_in s ≡ doing.Wants call.End → ⊥
stage_no_end (Begun c b) e = on_no_end c.object c.operation e
stage_no_end (Taking o b) e = cc
stage_no_end (Storing c l) e = on_no_end c.object c.operation e
stage_no_end (Binding c n) e = on_no_end c.object c.operation e
stage_no_end (Acting c m) e = on_no_end c.object c.operation e
stage_no_end (Won o) e = cc
stage_no_end (Bound c true m) e = cc
stage_no_end (Bound c false m) e = on_no_end c.object c.operation e
stage_no_end (Inflated c m) e = on_no_end c.object c.operation e
stage_no_end (Direct c) e = about_no_end c e

-- a thread that ends has a Go for each word, and one more
at_most_all : (objects : ℕ) (p : Place) → ((p ≡ AtPost → ⊥) → doing_of p ≡ doing.Wants call.End) → left_at objects p ≤ objects + 1
at_most_all objects Idle h = let e = h (λ i. cc) in absurd (cc)
at_most_all objects (InCall s) h = absurd (stage_no_end s (h (λ i. cc)))
at_most_all objects (Ending n) h = omega arith
at_most_all objects AtPost h = omega arith

module _ (w : WorldState) (sound : IsSound w) (t : ThreadId) (flag : Bool) (act : Doing) (is : Is (shown w) t flag act) where
  -- the berth of a thread that is doing this
  berthed : (k : ℕ) × (berth_of w.berths t ≡ Some k) × (does w sound t k ≡ act)
  berthed = by_berth (berth_of w.berths t) refl
    where
      by_berth : (o : Option ℕ) → berth_of w.berths t ≡ o → (k : ℕ) × (berth_of w.berths t ≡ Some k) × (does w sound t k ≡ act)
      by_berth None e = let never : ◌≡◌ {A = Option Thread} None (Some (record { flag = flag; act = act })) = rw e at is in absurd (cc)
      by_berth (Some k) e = (k, e, shows w sound t k e (record { flag = flag; act = act }) is)

  -- its place, where it is not parked
  place_does : (k : ℕ) → berth_of w.berths t ≡ Some k → does w sound t k ≡ act → (p : Place) → place_at w k ≡ p → (p ≡ AtPost → ⊥) → doing_of p ≡ act
  place_does k e h p at free = sym (does_out w sound t k e p at free) ∙ h

  has_left : (act ≡ doing.Idle → ⊥) → 1 ≤ left_of w t
  has_left busy = let p = berthed in
      rw p.1 (left_bounds w p.0 (place_at w p.0) (sound.places p.0 (within w sound p.0 t p.1)) (λ e. busy (sym (place_does p.0 p.1 p.2 Idle e (λ i. cc)))))

  -- A call but End replies, parks or meets another thread within four Go steps.
  pub within_four : (act ≡ doing.Idle → ⊥) → (act ≡ doing.Wants call.End → ⊥) → (ss : List (Request × Bool)) → AllLinger w t ss → goes_of t ss < 4
  within_four busy not_end ss all =
      let p = berthed in
      let most : left_of w t ≤ 4 = rw p.1 (at_most_four (length w.words) (place_at w p.0) (λ n e. not_end (sym (place_does p.0 p.1 p.2 (Ending n) e (λ i. cc))))) in
      let fewer : goes_of t ss < left_of w t = lingers w sound t ss (has_left busy) all in omega arith

-- An end replies within a Go for each object and one more.
pub within_all : (w : WorldState) → IsSound w → (t : ThreadId) (flag : Bool) → Is (shown w) t flag (doing.Wants call.End) → (ss : List (Request × Bool)) → AllLinger w t ss → goes_of t ss < length w.words + 1
within_all w sound t flag is ss all =
    let p = berthed w sound t flag (doing.Wants call.End) is in
    let most : left_of w t ≤ length w.words + 1 = rw p.1 (at_most_all (length w.words) (place_at w p.0) (λ free. place_does w sound t flag (doing.Wants call.End) is p.0 p.1 p.2 (place_at w p.0) refl free)) in
    let fewer : goes_of t ss < left_of w t = lingers w sound t ss (has_left w sound t flag (doing.Wants call.End) is (λ e. cc)) all in omega arith
