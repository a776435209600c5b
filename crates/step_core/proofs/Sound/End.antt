-- A thread that owns nothing ends: it is live no longer, and its berth is free.
use Rattle.fat_monitor.specs.declared.actions.Post.{Post}
use Rattle.std.specs.Prelude.{◌≡◌, ◌⊎◌, ℕ, ◌+◌, ◌-◌, ◌<◌, ◌≤◌, Bool, true, false, if◌then◌else◌, ◌==◌, List, [], ◌∷◌, length, set, slice_set, get_or, Option, Some, None, IsSome, is_some, count_by, ◌||◌}
use Rattle.std.specs.Option.{unwrap_or}
use Rattle.std.specs.List.{list_any}
use Rattle.std.proofs.Common.{zero, suc, arith, refl, ap, sym, ◌∙◌, subst, inl, inr, get_or-set_same, get_or-set_other, length-set}
use Rattle.std.proofs.Math.Path.{fun_ext}
use Rattle.std.proofs.lemmas.Bool.{cases_eq, cases_lt, eq-eqb, ne_eqb, eqb-true, eqb-false}
use Rattle.std.proofs.lemmas.Option.{same_Some}
use Rattle.lock_word.specs.declared.ThreadId.{ThreadId}
use Rattle.lock_word.specs.declared.ObjectId.{ObjectId}
use Rattle.lock_word.specs.declared.Lock.{Lock}
use Rattle.lock_word.specs.declared.Lock.TheVariants.{Free, Thin, Fat}
use Rattle.thread_index.specs.Indices.{berth_of, holder_at}
use Rattle.thread_index.proofs.Berths.{berth_found, berth_same, berth_given_same, berth_given_other, IsOneToOne-given, berth_thread}
use Rattle.fat_monitor.specs.declared.monitors.Monitor as fat
use Rattle.fat_monitor.specs.declared.actions.Reply.TheVariants as reply
use Rattle.fat_monitor.specs.declared.actions.Cause.TheVariants as cause
use Rattle.fat_monitor.specs.declared.actions.Action.TheVariants as action
use Rattle.fat_monitor.specs.declared.actions.Answer.TheVariants as answer
use Rattle.fat_monitor.specs.declared.actions.Post.TheVariants.{Out}
use Rattle.fat_monitor.specs.FatState.{without_thread, IsAttached, owns_one, monitor_at, unbound, is_owned_by, post_of, flag_at, thread_count}
use Rattle.fat_monitor.proofs.PostMaps.{get-remove_by}
use Rattle.fat_monitor.proofs.Soundness.{IsSound-without_thread}
use Rattle.fat_monitor.proofs.Effects.{count-without_thread}
use Rattle.fast_path.specs.declared.calls.Call.TheVariants as call
use Rattle.step_core.specs.declared.steps.Did.{Did}
use Rattle.step_core.specs.declared.places.Place.{Place}
use Rattle.step_core.specs.declared.places.Place.TheVariants.{Idle, InCall, Ending}
use Rattle.step_core.specs.declared.places.Stage.TheVariants.{Bound}
use Rattle.step_core.specs.declared.machine.Move.TheVariants as move
use Rattle.step_core.specs.declared.steps.Atomic.TheVariants as atomic
use Rattle.step_core.specs.Machine.{State, Thread, Run, with_thread, OwnedBy}
use Rattle.step_core.specs.World.{WorldState, is_own, place_at, lock_at}
use Rattle.step_core.specs.Shown.{shown, thread_of, monitor_of}
use Rattle.step_core.specs.Sound.{FittingStage, IsSound, MayShow, Fitting, Agrees, bound_by, IsPublished}
use Rattle.step_core.specs.Did.{move_and_return}
use Rattle.step_core.specs.Step.{AfterStep, moves_of}
use Rattle.fast_path.specs.declared.calls.MonitorCall.{MonitorCall}
use Rattle.step_core.proofs.Facts.Moves.{run_ended, run_refused}
use Rattle.step_core.proofs.Facts.ShownStates.{ActsAlike, acts_alike}
use Rattle.step_core.proofs.Facts.OneThread.{lock_past, stands_at, within, is_at, out_at, other, shown_stays}
use Rattle.step_core.proofs.Sound.Posts.{count_given}
use Rattle.step_core.proofs.Sound.Parts.{sound_stays}
use Rattle.step_core.proofs.Facts.PlaceFacts.{who_bound, fitting_kept, bound_kept}
use Rattle.step_core.proofs.Facts.Cases.{ended_as}

-- what a step is to show: a sound world, and a run to what it shows
abbrev pub Right : WorldState → AfterStep → Type 0
Right w o = IsSound o.after × Run (shown w) (moves_of o.answer) (shown o.after)

-- an owned monitor among these
owned_by_test : (t : ThreadId) (b : fat.Monitor) (bs : List fat.Monitor) (x : Bool) → is_owned_by b.owner t ≡ x
    → (list_any (λ (c : fat.Monitor). is_owned_by c.owner t) bs ≡ true → (m : ℕ) × (m < length bs) × (is_owned_by (get_or bs m unbound).owner t ≡ true))
    → (x || list_any (λ (c : fat.Monitor). is_owned_by c.owner t) bs) ≡ true
    → (m : ℕ) × (m < length (b ∷ bs)) × (is_owned_by (get_or (b ∷ bs) m unbound).owner t ≡ true)
owned_by_test t b bs true e rest h = (0, omega arith, e)
owned_by_test t b bs false e rest h = let there = rest h in (suc there.0, omega arith, there.2)

owned_one : (bs : List fat.Monitor) (t : ThreadId) → owns_one bs t ≡ true → (m : ℕ) × (m < length bs) × (is_owned_by (get_or bs m unbound).owner t ≡ true)
owned_one [] t h = absurd (cc)
owned_one (b ∷ bs) t h = owned_by_test t b bs (is_owned_by b.owner t) refl (owned_one bs t) h

-- and none
none_by_test : (t : ThreadId) (b : fat.Monitor) (bs : List fat.Monitor) (x : Bool) → is_owned_by b.owner t ≡ x
    → (list_any (λ (c : fat.Monitor). is_owned_by c.owner t) bs ≡ false → (m : ℕ) → is_owned_by (get_or bs m unbound).owner t ≡ false)
    → (x || list_any (λ (c : fat.Monitor). is_owned_by c.owner t) bs) ≡ false
    → (m : ℕ) → is_owned_by (get_or (b ∷ bs) m unbound).owner t ≡ false
none_by_test t b bs true e rest h m = absurd (cc)
none_by_test t b bs false e rest h zero = e
none_by_test t b bs false e rest h (suc m) = rest h m

owned_none : (bs : List fat.Monitor) (t : ThreadId) → owns_one bs t ≡ false → (m : ℕ) → is_owned_by (get_or bs m unbound).owner t ≡ false
owned_none [] t h m = refl
owned_none (b ∷ bs) t h m = none_by_test t b bs (is_owned_by b.owner t) refl (owned_none bs t) h m

-- who is the owner, by the test
owner_is : (o : Option ThreadId) (t : ThreadId) → is_owned_by o t ≡ true → o ≡ Some t
owner_is None t h = absurd (cc)
owner_is (Some u) t h = ap (λ (n : ℕ). Some (let x : ThreadId = record { 0 = n } in x)) (eqb-true u.0 t.0 h)

owner_is_not : (o : Option ThreadId) (t : ThreadId) → is_owned_by o t ≡ false → o ≡ Some t → ⊥
owner_is_not o t h e = let never : is_owned_by (Some t) t ≡ false = rw e at h in let same : (t.0 == t.0) ≡ true = eq-eqb t.0 t.0 refl in absurd (cc)

module _ (w : WorldState) (sound : IsSound w) (k : ℕ) (t : ThreadId) (berth : berth_of w.berths t ≡ Some k) (n : ℕ) (at : place_at w k ≡ Ending n) (all : length w.words ≤ n) where
  -- no word is the thread's own thin one
  fit : Fitting w k (Ending n)
  fit = subst (λ (x : Place). Fitting w k x) at (sound.places k (within w sound k t berth))

  not_thin : (p : ℕ) → is_own (lock_at w p) (k + 1) ≡ false
  not_thin p = by_place (cases_lt p (length w.words))
    where
      by_place : (p < length w.words) ⊎ (length w.words ≤ p) → is_own (lock_at w p) (k + 1) ≡ false
      by_place (inl h) = fit.1 p (omega arith)
      by_place (inr h) = rw (lock_past w p h) refl

  none_bound : bound_by (place_at w k) ≡ None
  none_bound = rw at refl

  out : post_of w.fats t ≡ Some Out
  out = out_at w sound k t berth (Ending n) at (λ x. cc)

  -- a fat monitor that the thread owns is shown by its object: nobody else has bound it and not stored it
  shows_owner : (m : ℕ) → (monitor_at w.fats m).owner ≡ Some t → IsPublished w m → (o : ObjectId) × OwnedBy (shown w) o t
  shows_owner m owner (inl shows) = ((monitor_at w.fats m).object, rw shows owner)
  shows_owner m owner (inr (j, there, bound)) =
      let b = who_bound (place_at w j) m bound in
      let fits : Fitting w j (InCall (Bound b.0 b.1 m)) = subst (λ (x : Place). Fitting w j x) b.2 (sound.places j there) in
      let own : holder_at w.berths j ≡ Some t = sym (ap (λ (y : fat.Monitor). y.owner) fits.2.2) ∙ owner in
      let here : j ≡ k = same_Some j k (sym (sound.one_to_one j t own) ∙ berth) in
      let both : InCall (Bound b.0 b.1 m) ≡ Ending n = sym b.2 ∙ rw here at in absurd (cc)

  -- where the thread owns a fat monitor, it may not end
  refused_right : owns_one w.fats.monitors t ≡ true → Right w (ended_as w k t true)
  refused_right owns =
      let there = owned_one w.fats.monitors t owns in
      let owner = shows_owner there.0 (owner_is (monitor_at w.fats there.0).owner t there.2) (sound.published there.0 there.1) in
      let d : Did = move_and_return (atomic.Acted action.End (answer.Reply (reply.Refused cause.StillOwner))) (move.Refuse t cause.StillOwner) t (reply.Refused cause.StillOwner) in (
        sound_stays w sound k t berth Idle d none_bound out tt,
        subst (λ (s : State). Run (shown w) (move.Refuse t cause.StillOwner ∷ move.Return t (reply.Refused cause.StillOwner) ∷ []) s) (sym (shown_stays w sound k t berth Idle d out))
            (run_refused (shown w) t (flag_at w.fats t) call.End cause.StillOwner (is_at w sound k t berth (Ending n) at out) owner),
      )

  -- where it owns none, it owns no object
  module _ (owns : owns_one w.fats.monitors t ≡ false) where
    abbrev now : WorldState
    now = record w { berths = slice_set w.berths k None; places = slice_set w.places k Idle; fats = without_thread w.fats t }

    owns_none : (o : ObjectId) → OwnedBy (shown w) o t → ⊥
    owns_none o = by_lock (lock_at w o.0) refl
      where
        by_lock : (l : Lock) → lock_at w o.0 ≡ l → (monitor_of w l).owner ≡ Some t → ⊥
        by_lock Free e h = cc
        by_lock (Thin i c) e h =
            let stands : MayShow w o.0 (Thin i c) = rw e at (stands_at w sound o.0) in
            let apart : (i == k + 1) ≡ false = rw e at (not_thin o.0) in
            other w sound k t berth i c (eqb-false i (k + 1) apart) stands.0 h
        by_lock (Fat m) e h = owner_is_not (monitor_at w.fats m).owner t (owned_none w.fats.monitors t owns m) h

    holder_kept : (j : ℕ) → (j ≡ k → ⊥) → holder_at (set w.berths k None) j ≡ holder_at w.berths j
    holder_kept j ne = get_or-set_other w.berths k j None None ne

    berth_now_same : (u : ThreadId) → u.0 ≡ t.0 → berth_of now.berths u ≡ None
    berth_now_same u e = berth_same now.berths t u e ∙ berth_given_same w.berths t k sound.one_to_one berth

    berth_now_other : (u : ThreadId) → (u.0 ≡ t.0 → ⊥) → berth_of now.berths u ≡ berth_of w.berths u
    berth_now_other u ne = berth_given_other w.berths t u k berth ne

    -- another thread's berth is another one
    berths_apart : (u : ThreadId) (j : ℕ) → (u.0 ≡ t.0 → ⊥) → berth_of w.berths u ≡ Some j → j ≡ k → ⊥
    berths_apart u j ne e same = ne (berth_thread w.berths t u k berth (rw same at e))

    -- another thread has the post and the flag that it had, and shows what it showed
    post_kept : (u : ThreadId) → (u.0 ≡ t.0 → ⊥) → post_of now.fats u ≡ post_of w.fats u
    post_kept u ne = rw (get-remove_by w.fats.threads t.0 u.0, ne_eqb u.0 t.0 ne) refl

    flag_kept : (u : ThreadId) → (u.0 ≡ t.0 → ⊥) → flag_at now.fats u ≡ flag_at w.fats u
    flag_kept u ne = rw (get-remove_by w.fats.flags t.0 u.0, ne_eqb u.0 t.0 ne) refl

    alike : (u : ThreadId) → (u.0 ≡ t.0 → ⊥) → ActsAlike w.fats now.fats u
    alike u ne = acts_alike w.fats now.fats u sound.fats (flag_kept u ne) (ap (λ (o : Option Post). unwrap_or o Out) (post_kept u ne)) (λ m h. refl)

    thread_kept : (u : ThreadId) → (u.0 ≡ t.0 → ⊥) → (o : Option ℕ) → berth_of w.berths u ≡ o → thread_of now u o ≡ thread_of w u o
    thread_kept u ne None e = refl
    thread_kept u ne (Some j) e =
        rw (get_or-set_other w.places k j Idle Idle (berths_apart u j ne e)) (ap (λ (x : Thread). Some x) (alike u ne (place_at w j)))

    new_thread : (u : ThreadId) → (u.0 ≡ t.0) ⊎ (u.0 ≡ t.0 → ⊥)
        → thread_of now u (berth_of now.berths u) ≡ (if u.0 == t.0 then None else thread_of w u (berth_of w.berths u))
    new_thread u (inl same) = rw (berth_now_same u same, eq-eqb u.0 t.0 same) refl
    new_thread u (inr ne) = rw (berth_now_other u ne, ne_eqb u.0 t.0 ne) (thread_kept u ne (berth_of w.berths u) refl)

    -- a thin word is another thread's
    index_apart : (i c : ℕ) (q : ℕ) → lock_at w q ≡ Thin i c → 1 ≤ i → i - 1 ≡ k → ⊥
    index_apart i c q e low same = let apart : (i == k + 1) ≡ false = rw e at (not_thin q) in eqb-false i (k + 1) apart (omega arith)

    old_monitor : (q : ℕ) (l : Lock) → lock_at w q ≡ l → MayShow w q l → monitor_of now l ≡ monitor_of w l
    old_monitor q Free e st = refl
    old_monitor q (Thin i c) e st = rw (holder_kept (i - 1) (index_apart i c q e st.0)) refl
    old_monitor q (Fat m) e st = refl

    old_stands : (q : ℕ) (l : Lock) → lock_at w q ≡ l → MayShow w q l → MayShow now q l
    old_stands q Free e st = st
    old_stands q (Thin i c) e st = (st.0, st.1, st.2, rw (holder_kept (i - 1) (index_apart i c q e st.0)) st.3)
    old_stands q (Fat m) e st = st

    old_fits : (j : ℕ) → (j ≡ k → ⊥) → (p : Place) → Fitting w j p → Fitting now j p
    old_fits j ne = fitting_kept w now j refl refl (λ q m e. e) (λ q m e. e) still (λ q e. e)
      where
        still : (c : MonitorCall) (won : Bool) (m : ℕ) → FittingStage w j (Bound c won m)
            → (m < length w.fats.monitors)
            × (monitor_at w.fats m ≡ record { object = c.object; owner = holder_at now.berths j; holds = (monitor_at w.fats m).holds })
        still c won m fit = let kept = bound_kept w j c won m fit in (kept.0, rw (holder_kept j ne) kept.1)

    attached_now : (u : ThreadId) → (u.0 ≡ t.0) ⊎ (u.0 ≡ t.0 → ⊥) → IsSome (berth_of now.berths u) → IsAttached now.fats u
    attached_now u (inl same) h = let never : is_some {T = ℕ} None ≡ true = rw (berth_now_same u same) at h in absurd (cc)
    attached_now u (inr ne) h = rw (post_kept u ne) (sound.attached u (rw (berth_now_other u ne) at h))

    live_now : (u : ThreadId) → (u.0 ≡ t.0) ⊎ (u.0 ≡ t.0 → ⊥) → IsAttached now.fats u → IsSome (berth_of now.berths u)
    live_now u (inl same) h = let never : is_some {T = Post} None ≡ true = rw (get-remove_by w.fats.threads t.0 u.0, eq-eqb u.0 t.0 same) at h in absurd (cc)
    live_now u (inr ne) h = rw (berth_now_other u ne) (sound.live u (rw (post_kept u ne) at h))

    posted_now : (u : ThreadId) (j : ℕ) → (u.0 ≡ t.0) ⊎ (u.0 ≡ t.0 → ⊥) → berth_of now.berths u ≡ Some j → Agrees (place_at now j) (post_of now.fats u)
    posted_now u j (inl same) h = let never : None ≡ Some j = sym (berth_now_same u same) ∙ h in absurd (cc)
    posted_now u j (inr ne) h =
        let before : berth_of w.berths u ≡ Some j = sym (berth_now_other u ne) ∙ h in
        rw (get_or-set_other w.places k j Idle Idle (berths_apart u j ne before), post_kept u ne) (sound.posted u j before)

    counted_now : thread_count now.fats ≡ count_by is_some now.berths
    counted_now =
        let here : IsAttached w.fats t = rw out refl in
        let found = berth_found w.berths t k berth in
        let fewer : thread_count now.fats + 1 ≡ thread_count w.fats = count-without_thread w.fats t here in
        let given : count_by is_some now.berths + 1 ≡ count_by is_some w.berths = count_given w.berths k t found.0 found.1 in
        let before : thread_count w.fats ≡ count_by is_some w.berths = sound.counted in
        omega arith

    published_now : (m : ℕ) → IsPublished w m → IsPublished now m
    published_now m (inl shows) = inl shows
    published_now m (inr (j, there, bound)) = by_berth (cases_eq j k)
      where
        by_berth : (j ≡ k) ⊎ (j ≡ k → ⊥) → IsPublished now m
        by_berth (inl e) = let never : None ≡ Some m = sym none_bound ∙ rw e at bound in absurd (cc)
        by_berth (inr ne) = inr (j, rw (length-set w.places k Idle) there, rw (get_or-set_other w.places k j Idle Idle ne) bound)

    now_sound : IsSound now
    now_sound = record {
      many = sound.many;
      berthed = length-set w.places k Idle ∙ sound.berthed ∙ sym (length-set w.berths k None);
      few = rw (length-set w.berths k None) sound.few;
      one_to_one = IsOneToOne-given w.berths t k sound.one_to_one berth;
      formed = sound.formed;
      words = λ p h. old_stands p (lock_at w p) refl (sound.words p h);
      fats = IsSound-without_thread w.fats t sound.fats out;
      published = λ m h. published_now m (sound.published m h);
      attached = λ u h. attached_now u (cases_eq u.0 t.0) h;
      live = λ u h. live_now u (cases_eq u.0 t.0) h;
      posted = λ u j h. posted_now u j (cases_eq u.0 t.0) h;
      counted = counted_now;
      places = λ j h. at_berth j h (cases_eq j k);
    } where
      at_berth : (j : ℕ) → j < length (set w.places k Idle) → (j ≡ k) ⊎ (j ≡ k → ⊥) → Fitting now j (get_or (set w.places k Idle) j Idle)
      at_berth j h (inl e) = rw (e, get_or-set_same w.places k Idle Idle (within w sound k t berth)) tt
      at_berth j h (inr ne) =
          let l : j < length w.places = omega (arith, length-set w.places k Idle) in
          rw (get_or-set_other w.places k j Idle Idle ne) (old_fits j ne (place_at w j) (sound.places j l))

    now_shows : shown now ≡ with_thread (shown w) t None
    now_shows =
        let threads : (shown now).thread ≡ (with_thread (shown w) t None).thread = fun_ext (λ u. new_thread u (cases_eq u.0 t.0)) in
        let monitors : (shown now).monitor ≡ (shown w).monitor = fun_ext (λ q. old_monitor q.0 (lock_at w q.0) refl (stands_at w sound q.0)) in
        λ i. record { thread = threads i; objects = length w.words; monitor = monitors i; moment = w.fats.moment }

    gone_right : Right w (ended_as w k t false)
    gone_right = (
      now_sound,
      subst (λ (s : State). Run (shown w) (move.End t ∷ move.Return t reply.Ended ∷ []) s) (sym now_shows)
          (run_ended (shown w) t (flag_at w.fats t) (is_at w sound k t berth (Ending n) at out) owns_none),
    )

-- the action of a thread that ends
pub ended_right : (w : WorldState) (sound : IsSound w) (k : ℕ) (t : ThreadId) (berth : berth_of w.berths t ≡ Some k) (n : ℕ) → place_at w k ≡ Ending n → length w.words ≤ n
    → Right w (ended_as w k t (owns_one w.fats.monitors t))
ended_right w sound k t berth n at all = by_owner (owns_one w.fats.monitors t) refl
  where
    by_owner : (b : Bool) → owns_one w.fats.monitors t ≡ b → Right w (ended_as w k t b)
    by_owner true e = refused_right w sound k t berth n at all e
    by_owner false e = gone_right w sound k t berth n at all e
