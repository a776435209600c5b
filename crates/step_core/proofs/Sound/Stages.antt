-- Each Go keeps the world sound.
use Rattle.std.proofs.lemmas.Option.{same_Some}
use Rattle.std.specs.Prelude.{◌≡◌, ◌≢◌, ◌⊎◌, ℕ, ◌+◌, ◌-◌, ◌<◌, ◌≤◌, Bool, true, false, nat_lt, [], ◌∷◌, length, Option, Some, None, IsSome, Result, Ok, Err}
use Rattle.std.proofs.Common.{arith, refl, ap, sym, ◌∙◌, subst, inl, inr, length-set, length-append}
use Rattle.std.proofs.lemmas.Bool.{cases_eq, cond_both, ltb-true}
use Rattle.std.proofs.lemmas.List.{get_or_at}
use Rattle.lock_word.specs.declared.ThreadId.{ThreadId}
use Rattle.lock_word.specs.declared.ObjectId.{ObjectId}
use Rattle.lock_word.specs.declared.Lock.{Lock}
use Rattle.lock_word.specs.declared.Lock.TheVariants.{Free, Thin, Fat}
use Rattle.lock_word.proofs.Words.{greatest_count-bound}
use Rattle.lock_word.specs.Layout.{Fits, count_of, greatest_count}
use Rattle.thread_index.specs.Indices.{berth_of}
use Rattle.thread_index.proofs.Berths.{berth_found}
use Rattle.fat_monitor.specs.declared.monitors.Monitor as fat
use Rattle.fat_monitor.specs.declared.actions.Answer.{Answer}
use Rattle.fat_monitor.specs.declared.actions.Answer.TheVariants as answer
use Rattle.fat_monitor.specs.declared.actions.Cause.{Cause}
use Rattle.fat_monitor.specs.declared.actions.Reply.{Reply}
use Rattle.fat_monitor.specs.declared.actions.Reply.TheVariants as reply
use Rattle.fat_monitor.specs.declared.actions.Action.{Action}
use Rattle.fat_monitor.specs.declared.actions.Action.TheVariants as action
use Rattle.fat_monitor.specs.declared.actions.ActFault.{ActFault}
use Rattle.fat_monitor.specs.declared.actions.Done.{Done}
use Rattle.fat_monitor.specs.declared.actions.Post.TheVariants.{Out, Granted}
use Rattle.fat_monitor.specs.FatState.{FatState, monitor_at, unbound, post_of, with_post, IsAttached}
use Rattle.fat_monitor.specs.Acting.{outcome_of, MayAct, NamesBound}
use Rattle.fat_monitor.proofs.Soundness.{IsSound-outcome_of}
use Rattle.fat_monitor.proofs.Effects.{named, length-outcome_of, object-outcome_of, other-outcome_of, count-outcome_of, attached-outcome_of, out-outcome_of, post-with_post_same}
use Rattle.fast_path.specs.declared.calls.Call.{Call}
use Rattle.fast_path.specs.declared.calls.Call.TheVariants as call
use Rattle.fast_path.specs.declared.calls.Operation.{Operation}
use Rattle.fast_path.specs.declared.calls.Operation.TheVariants as op
use Rattle.fast_path.specs.declared.calls.MonitorCall.{MonitorCall}
use Rattle.fast_path.specs.declared.calls.InterruptCall.{InterruptCall}
use Rattle.fast_path.specs.declared.calls.InterruptCall.TheVariants as about
use Rattle.fast_path.specs.declared.Next.{Next}
use Rattle.fast_path.specs.declared.Next.TheVariants as next
use Rattle.fast_path.specs.Calls.{call_of, call_about}
use Rattle.fast_path.specs.Table.{next_of}
use Rattle.fast_path.proofs.Tables.{StoresOwn, store_own, own_of_store, bind_own, own_of_bind, fat_fact}
use Rattle.step_core.specs.declared.places.Place.{Place}
use Rattle.step_core.specs.declared.places.Place.TheVariants.{Idle, InCall, Ending, AtPost}
use Rattle.step_core.specs.declared.places.Stage.{Stage}
use Rattle.step_core.specs.declared.places.Stage.TheVariants.{Begun, Taking, Storing, Binding, Acting, Won, Bound, Inflated, Direct}
use Rattle.step_core.specs.declared.machine.Move.TheVariants as move
use Rattle.step_core.specs.declared.steps.Atomic.TheVariants as atomic
use Rattle.step_core.specs.declared.steps.Did.{Did}
use Rattle.step_core.specs.World.{WorldState, place_at, lock_at, is_own}
use Rattle.step_core.specs.Sound.{IsSound, MayShow, Fitting, FittingStage, Reaches, bound_by, IsPublished}
use Rattle.step_core.specs.Did.{no_move, one_move, move_and_return, return_alone, did_action, move_for}
use Rattle.step_core.specs.Go.{AfterGo, with_go, word_written, fats_changed, new_word, load_of, lost_at, won_at, stored_at, after_load, after_take, after_store, after_bind, after_publish, after_told, after_act, after_stage, action_on, action_about, entering, place_after, stored_reply, bind_cause, after_look_as}
use Rattle.step_core.specs.Step.{after_look}
use Rattle.step_core.proofs.Facts.OneThread.{stands_at, thin_fits, thin_stands}
use Rattle.step_core.proofs.Sound.Posts.{KeepsPosts, OwnPost, own_post}
use Rattle.step_core.proofs.Sound.Parts.{sound_stays, NotAnothers, lock_there, sound_writes, sound_stores, sound_bound, sound_changed}
use Rattle.fat_monitor.specs.declared.actions.Cause.TheVariants as cause
use Rattle.step_core.proofs.Runs.StageRuns.{storing}

module _ (w : WorldState) (sound : IsSound w) (k : ℕ) (t : ThreadId) (berth : berth_of w.berths t ≡ Some k) where
  load_sound : (c : MonitorCall) (contended : Bool) (n : Next) → bound_by (place_at w k) ≡ None → post_of w.fats t ≡ Some Out → Reaches w c
      → next_of w.split c.operation (lock_at w c.object.0) (k + 1) ≡ n → IsSound (with_go w k (after_load w t c contended n))
  load_sound c b (next.Reply r) none out h e = sound_stays w sound k t berth Idle (move_and_return (load_of w c.object) (move_for (call_of c) r None t) t r) none out tt
  load_sound c b (next.Cas l) none out h e = sound_stays w sound k t berth (InCall (Taking c.object b)) (no_move (load_of w c.object)) none out h
  load_sound c b (next.Store l) none out h e =
      let own = own_of_store w.split c.operation (lock_at w c.object.0) l (k + 1) (store_own w.split c.operation (lock_at w c.object.0) l (k + 1) e) in
      sound_stays w sound k t berth (InCall (Storing c l)) (no_move (load_of w c.object)) none out (h, (own.0, own.1, rw own.1 at e))
  load_sound c b next.Bind none out h e =
      let own = own_of_bind w.split c.operation (lock_at w c.object.0) (k + 1) (bind_own w.split c.operation (lock_at w c.object.0) (k + 1) e) in
      let count : lock_at w c.object.0 ≡ Thin (k + 1) (count_of (lock_at w c.object.0)) = own.1 ∙ ap (λ (x : Lock). Thin (k + 1) (count_of x)) (sym own.1) in
      sound_stays w sound k t berth (InCall (Binding c (count_of (lock_at w c.object.0)))) (no_move (load_of w c.object)) none out
      (h, count, subst (λ (x : Lock). next_of w.split c.operation x (k + 1) ≡ next.Bind) count e)
  load_sound c b (next.Fat m) none out h e = sound_stays w sound k t berth (InCall (Acting c m)) (no_move (load_of w c.object)) none out (h, fat_fact w.split c.operation (lock_at w c.object.0) (k + 1) m e)
  load_sound c b next.Spin none out h e = sound_stays w sound k t berth (InCall (Begun c true)) (no_move (load_of w c.object)) none out h

  take_sound : (o : ObjectId) (contended : Bool) (l : Lock) → bound_by (place_at w k) ≡ None → post_of w.fats t ≡ Some Out → o.0 < length w.words → lock_at w o.0 ≡ l
      → IsSound (with_go w k (after_take w k t o contended l))
  take_sound o true Free none out h e =
      sound_stores w sound k t berth o (Thin (k + 1) 0) h (thin_fits w sound k t berth 0 (omega arith)) (rw e tt) refl (InCall (Won o)) (one_move (won_at w o (Thin (k + 1) 0)) (move.Lock t)) none out (thin_stands w sound k t berth o.0 0 (omega arith))
      (rw (length-set w.words o.0 (new_word w o (Thin (k + 1) 0))) h, lock_there w sound k t berth o (Thin (k + 1) 0) h (thin_fits w sound k t berth 0 (omega arith)) (rw e tt) refl (InCall (Won o)) (one_move (won_at w o (Thin (k + 1) 0)) (move.Lock t)))
  take_sound o false Free none out h e =
      sound_stores w sound k t berth o (Thin (k + 1) 0) h (thin_fits w sound k t berth 0 (omega arith)) (rw e tt) refl Idle (move_and_return (won_at w o (Thin (k + 1) 0)) (move.Lock t) t reply.Entered) none out (thin_stands w sound k t berth o.0 0 (omega arith)) tt
  take_sound o b (Thin i n) none out h e = sound_stays w sound k t berth (InCall (Begun (entering o) true)) (no_move (lost_at w o)) none out h
  take_sound o b (Fat m) none out h e = sound_stays w sound k t berth (InCall (Begun (entering o) true)) (no_move (lost_at w o)) none out h

  -- the lock of a plain store fits a word, is no other thread's, and stands
  pub store_fits : (o : ObjectId) (p : Operation) (l : Lock) → StoresOwn w.split (k + 1) (lock_at w o.0) l p → Fits w.split l
  store_fits o op.Enter l (n, old, few, new) = rw new (thin_fits w sound k t berth (n + 1) (omega arith))
  store_fits o op.Exit l (n, old, new) =
      let low : n ≤ greatest_count w.split = (rw old at (stands_at w sound o.0)).2 in
      rw new (cond_both (nat_lt 0 n) _ _ (Fits w.split) (λ e. thin_fits w sound k t berth (n - 1) (omega arith)) (λ e. tt))
  store_fits o (op.Wait millis nanos) l fact = absurd fact
  store_fits o op.Notify l fact = absurd fact
  store_fits o op.NotifyAll l fact = absurd fact
  store_fits o op.Holds l fact = absurd fact

  store_new : (o : ObjectId) (p : Operation) (l : Lock) → StoresOwn w.split (k + 1) (lock_at w o.0) l p → NotAnothers w sound k t berth l
  store_new o op.Enter l (n, old, few, new) = rw new refl
  store_new o op.Exit l (n, old, new) = rw new (cond_both (nat_lt 0 n) _ _ (NotAnothers w sound k t berth) (λ e. refl) (λ e. tt))
  store_new o (op.Wait millis nanos) l fact = absurd fact
  store_new o op.Notify l fact = absurd fact
  store_new o op.NotifyAll l fact = absurd fact
  store_new o op.Holds l fact = absurd fact

  store_stands : (o : ObjectId) (p : Operation) (l : Lock) → StoresOwn w.split (k + 1) (lock_at w o.0) l p → MayShow w o.0 l
  store_stands o op.Enter l (n, old, few, new) = rw new (thin_stands w sound k t berth o.0 (n + 1) (omega arith))
  store_stands o op.Exit l (n, old, new) =
      let low : n ≤ greatest_count w.split = (rw old at (stands_at w sound o.0)).2 in
      rw new (cond_both (nat_lt 0 n) _ _ (MayShow w o.0) (λ e. thin_stands w sound k t berth o.0 (n - 1) (omega arith)) (λ e. tt))
  store_stands o (op.Wait millis nanos) l fact = absurd fact
  store_stands o op.Notify l fact = absurd fact
  store_stands o op.NotifyAll l fact = absurd fact
  store_stands o op.Holds l fact = absurd fact

  store_sound : (c : MonitorCall) (l : Lock) → bound_by (place_at w k) ≡ None → post_of w.fats t ≡ Some Out → FittingStage w k (Storing c l)
      → IsSound (with_go w k (after_store w t c l))
  store_sound c l none out fit =
      let own : StoresOwn w.split (k + 1) (lock_at w c.object.0) l c.operation = storing w k c l fit in
      sound_stores w sound k t berth c.object l fit.0 (store_fits c.object c.operation l own) (rw fit.1.1 refl) (store_new c.object c.operation l own) Idle
      (move_and_return (stored_at w c.object l) (move_for (call_of c) (stored_reply c.operation) None t) t (stored_reply c.operation)) none out
      (store_stands c.object c.operation l own) tt

  -- where there is room
  room_for : (room : Bool) → bind_cause room w.fats ≡ None → length w.fats.monitors < w.fats.limit
  room_for room = cond_both (nat_lt (length w.fats.monitors) w.fats.limit) _ _ (λ x. x ≡ None → length w.fats.monitors < w.fats.limit)
      (λ e h. ltb-true (length w.fats.monitors) w.fats.limit e) (λ e h. absurd (cc))

  bind_sound : (c : MonitorCall) (won : Bool) (n : ℕ) (refused : Option Cause) → bound_by (place_at w k) ≡ None → post_of w.fats t ≡ Some Out → Reaches w c
      → lock_at w c.object.0 ≡ Thin (k + 1) n → (refused ≡ None → length w.fats.monitors < w.fats.limit)
      → IsSound (with_go w k (after_bind w t c won (n + 1) refused))
  bind_sound c won n None none out h shows room =
      let few : n ≤ greatest_count w.split = (rw shows at (stands_at w sound c.object.0)).2 in
      let most = greatest_count-bound w.split in
      sound_bound w sound k t berth c.object (n + 1) (omega arith) (omega arith) (room refl) (InCall (Bound c won (length w.fats.monitors))) (no_move (atomic.Bound c.object (length w.fats.monitors))) none refl out (
        h,
        omega (arith, length-append w.fats.monitors (record { object = c.object; owner = Some t; holds = n + 1 } ∷ [])),
        (n, shows, rw ((berth_found w.berths t k berth).1) (get_or_at w.fats.monitors (record { object = c.object; owner = Some t; holds = n + 1 }) [] unbound (length w.fats.monitors) refl)),
      )
  bind_sound c true n (Some x) none out h shows room = sound_stays w sound k t berth Idle (return_alone (atomic.NotBound c.object x) t reply.Entered) none out tt
  bind_sound c false n (Some x) none out h shows room = sound_stays w sound k t berth Idle (move_and_return (atomic.NotBound c.object x) (move.Refuse t x) t (reply.Refused x)) none out tt

  -- the number of a bound monitor fits a word
  pub number_fits : (m : ℕ) → m < length w.fats.monitors → Fits w.split (Fat m)
  number_fits m h = let b : length w.fats.monitors ≤ w.fats.limit = sound.fats.few in let l : w.fats.limit ≤ 8388608 = sound.fats.limit in omega arith

  -- the store of a fat word publishes what the thread has bound
  published_now : (c : MonitorCall) (won : Bool) (m : ℕ) (p : Place) (d : Did) → place_at w k ≡ InCall (Bound c won m) → FittingStage w k (Bound c won m)
      → (j : ℕ) → bound_by (place_at w k) ≡ Some j → IsPublished (with_go w k (word_written w c.object (new_word w c.object (Fat m)) p d)) j
  published_now c won m p d e fit j some =
      let same : m ≡ j = same_Some m j (sym (ap bound_by e) ∙ some) in
      let object : (monitor_at w.fats m).object.0 ≡ c.object.0 = ap (λ (x : fat.Monitor). x.object.0) fit.2.2 in
      subst (λ (x : ℕ). IsPublished (with_go w k (word_written w c.object (new_word w c.object (Fat m)) p d)) x) same
      (inl (rw object (lock_there w sound k t berth c.object (Fat m) fit.0 (number_fits m fit.1) (rw fit.2.1 refl) tt p d)))

  publish_sound : (c : MonitorCall) (won : Bool) (m : ℕ) → place_at w k ≡ InCall (Bound c won m) → post_of w.fats t ≡ Some Out → FittingStage w k (Bound c won m) → IsSound (with_go w k (after_publish w t c won m))
  publish_sound c true m e out fit =
      sound_writes w sound k t berth c.object (Fat m) fit.0 (number_fits m fit.1) (rw fit.2.1 refl) tt Idle (return_alone (stored_at w c.object (Fat m)) t reply.Entered)
      (published_now c true m Idle (return_alone (stored_at w c.object (Fat m)) t reply.Entered) e fit) out
      (fit.1, ap (λ (x : fat.Monitor). x.object.0) fit.2.2) tt
  publish_sound c false m e out fit =
      sound_writes w sound k t berth c.object (Fat m) fit.0 (number_fits m fit.1) (rw fit.2.1 refl) tt (InCall (Inflated c m)) (no_move (stored_at w c.object (Fat m)))
      (published_now c false m (InCall (Inflated c m)) (no_move (stored_at w c.object (Fat m))) e fit) out
      (fit.1, ap (λ (x : fat.Monitor). x.object.0) fit.2.2) (
        rw (length-set w.words c.object.0 (new_word w c.object (Fat m))) fit.0,
        lock_there w sound k t berth c.object (Fat m) fit.0 (number_fits m fit.1) (rw fit.2.1 refl) tt (InCall (Inflated c m)) (no_move (stored_at w c.object (Fat m))),
      )

  -- The fat action of a call, where it leaves each monitor that is bound and not stored.
  module _ (c : Call) (a : Action) (may : MayAct w.fats t a) (bound_there : NamesBound w.fats a) (no_end : a ≢ action.End)
      (thin : (j i n : ℕ) → lock_at w (monitor_at w.fats j).object.0 ≡ Thin i n → IsSome (monitor_at w.fats j).owner
      → monitor_at (outcome_of w.fats t a).after j ≡ monitor_at w.fats j)
      (none : bound_by (place_at w k) ≡ None) (out : post_of w.fats t ≡ Some Out) where
    abbrev left : FatState
    left = (outcome_of w.fats t a).after

    kept : KeepsPosts w.fats t left
    kept = (
      count-outcome_of w.fats t a sound.fats may no_end,
      (λ u. attached-outcome_of w.fats t u a sound.fats may no_end),
      (λ u other. out-outcome_of w.fats t u a sound.fats may other),
    )

    place_fits : (x : AfterGo) (y : Answer) → Fitting (with_go w k x) k (place_after y)
    place_fits x (answer.Reply r) = tt
    place_fits x answer.Parked = tt
    place_fits x answer.Quiet = tt

    told_sound : (r : Result Done ActFault) → (outcome_of w.fats t a).answer ≡ r → IsSound (with_go w k (after_told w t c a r left))
    told_sound (Ok d) e =
        sound_changed w sound k t berth left (length-outcome_of w.fats t a) (object-outcome_of w.fats t a) thin
        (IsSound-outcome_of w.fats t a sound.fats may bound_there) kept (place_after d.answer) (did_action c a left t d) none
        (subst (λ (x : Result Done ActFault). OwnPost t x left) e (own_post w.fats t a sound.fats out no_end))
        (place_fits (fats_changed w left (place_after d.answer) (did_action c a left t d)) d.answer)
    told_sound (Err x) e = sound_stays w sound k t berth Idle (no_move atomic.Label) none out tt

    acted_sound : IsSound (with_go w k (after_act w t c a))
    acted_sound = told_sound (outcome_of w.fats t a).answer refl

  -- the fat action of an operation, on the monitor that the word of its object shows
  module _ (c : MonitorCall) (m : ℕ) (shows : lock_at w c.object.0 ≡ Fat m) where
    here : (m < length w.fats.monitors) × ((monitor_at w.fats m).object.0 ≡ c.object.0)
    here = rw shows at (stands_at w sound c.object.0)

    pub bound_there : (p : Operation) → NamesBound w.fats (action_on p m)
    bound_there op.Enter = here.0
    bound_there op.Exit = here.0
    bound_there (op.Wait millis nanos) = here.0
    bound_there op.Notify = here.0
    bound_there op.NotifyAll = here.0
    bound_there op.Holds = here.0

    pub may : (p : Operation) → post_of w.fats t ≡ Some Out → MayAct w.fats t (action_on p m)
    may op.Enter out = out
    may op.Exit out = out
    may (op.Wait millis nanos) out = out
    may op.Notify out = out
    may op.NotifyAll out = out
    may op.Holds out = out

    -- it is no End, and names this monitor
    names_monitor : (p : Operation) → named (action_on p m) ≡ Some m
    names_monitor op.Enter = refl
    names_monitor op.Exit = refl
    names_monitor (op.Wait millis nanos) = refl
    names_monitor op.Notify = refl
    names_monitor op.NotifyAll = refl
    names_monitor op.Holds = refl

    no_end : (p : Operation) → action_on p m ≢ action.End
    no_end p e = let never : None ≡ Some m = ap named (sym e) ∙ names_monitor p in absurd (cc)

    -- a monitor whose object shows a thin word is another one
    thin_apart : (p : Operation) (j i n : ℕ) → lock_at w (monitor_at w.fats j).object.0 ≡ Thin i n → IsSome (monitor_at w.fats j).owner
        → monitor_at (outcome_of w.fats t (action_on p m)).after j ≡ monitor_at w.fats j
    thin_apart p j i n thin owned = other-outcome_of w.fats t (action_on p m) j (λ e.
        let same : m ≡ j = same_Some m j (sym (names_monitor p) ∙ e) in
        let both : Thin i n ≡ Fat m = sym thin ∙ (rw (← same, here.1) shows) in
        absurd (cc)) owned

    act_sound : bound_by (place_at w k) ≡ None → post_of w.fats t ≡ Some Out → IsSound (with_go w k (after_act w t (call_of c) (action_on c.operation m)))
    act_sound none out =
        acted_sound (call_of c) (action_on c.operation m) (may c.operation out) (bound_there c.operation) (no_end c.operation) (thin_apart c.operation) none out

  -- a call about interrupts names no monitor
  direct_sound : (c : InterruptCall) → bound_by (place_at w k) ≡ None → post_of w.fats t ≡ Some Out → IsSound (with_go w k (after_act w t (call_about c) (action_about c)))
  direct_sound (about.Interrupt u) none out =
      acted_sound (call.Interrupt u) (action.Interrupt u) out tt (λ e. cc) (λ j i n thin owned. other-outcome_of w.fats t (action.Interrupt u) j (λ e. cc) owned) none out
  direct_sound about.Interrupted none out =
      acted_sound call.Interrupted action.Interrupted out tt (λ e. cc) (λ j i n thin owned. other-outcome_of w.fats t action.Interrupted j (λ e. cc) owned) none out
  direct_sound (about.IsInterrupted u) none out =
      acted_sound (call.IsInterrupted u) (action.IsInterrupted u) out tt (λ e. cc) (λ j i n thin owned. other-outcome_of w.fats t (action.IsInterrupted u) j (λ e. cc) owned) none out

  -- A load of a thread that is to end keeps the world sound.
  pub look_sound : (n : ℕ) → bound_by (place_at w k) ≡ None → post_of w.fats t ≡ Some Out → Fitting w k (Ending n) → n < length w.words
      → IsSound (with_go w k (after_look w k t n))
  look_sound n none out fit more = by_own (is_own (lock_at w n) (k + 1)) refl
    where
      by_own : (own : Bool) → is_own (lock_at w n) (k + 1) ≡ own → IsSound (with_go w k (after_look_as w t n own))
      by_own true found = sound_stays w sound k t berth Idle (move_and_return (load_of w (record { 0 = n })) (move.Refuse t cause.StillOwner) t (reply.Refused cause.StillOwner)) none out tt
      by_own false found = sound_stays w sound k t berth (Ending (n + 1)) (no_move (load_of w (record { 0 = n }))) none out (omega arith, λ q h. below q h (cases_eq q n))
        where
          below : (q : ℕ) → q < n + 1 → (q ≡ n) ⊎ (q ≡ n → ⊥) → is_own (lock_at w q) (k + 1) ≡ false
          below q h (inl e) = rw e found
          below q h (inr other) = fit.1 q (omega arith)

  -- A Go from a stage of a call keeps the world sound.
  pub stage_sound : post_of w.fats t ≡ Some Out → (room : Bool) (s : Stage) → place_at w k ≡ InCall s → FittingStage w k s
      → IsSound (with_go w k (after_stage room w k t s))
  stage_sound out room (Begun c b) e fit = load_sound c b (next_of w.split c.operation (lock_at w c.object.0) (k + 1)) (rw e refl) out fit refl
  stage_sound out room (Taking o b) e fit = take_sound o b (lock_at w o.0) (rw e refl) out fit refl
  stage_sound out room (Storing c l) e fit = store_sound c l (rw e refl) out fit
  stage_sound out room (Binding c n) e fit = bind_sound c false n (bind_cause room w.fats) (rw e refl) out fit.0 fit.1 (room_for room)
  stage_sound out room (Acting c m) e fit = act_sound c m fit.1 (rw e refl) out
  stage_sound out room (Won o) e fit = bind_sound (entering o) true 0 (bind_cause room w.fats) (rw e refl) out fit.0 fit.1 (room_for room)
  stage_sound out room (Bound c won m) e fit = publish_sound c won m e out fit
  stage_sound out room (Inflated c m) e fit = act_sound c m fit.1 (rw e refl) out
  stage_sound out room (Direct c) e fit = direct_sound c (rw e refl) out

  -- And so does a collect of a reply that was granted.
  pub collect_sound : (r : Reply) → place_at w k ≡ AtPost → post_of w.fats t ≡ Some (Granted r)
      → (d : Did) → IsSound (with_go w k (fats_changed w (with_post w.fats t Out) Idle d))
  collect_sound r e post d =
      sound_changed w sound k t berth (with_post w.fats t Out) refl (λ m. refl) (λ m i n thin owned. refl) (rw after at (IsSound-outcome_of w.fats t action.Collect sound.fats here tt)) (rw after at kept) Idle d (rw e refl)
      (post-with_post_same w.fats t Out) tt
    where
      here : IsAttached w.fats t
      here = rw post refl

      after : (outcome_of w.fats t action.Collect).after ≡ with_post w.fats t Out
      after = rw post refl

      kept : KeepsPosts w.fats t (outcome_of w.fats t action.Collect).after
      kept = (
        count-outcome_of w.fats t action.Collect sound.fats here (λ x. cc),
        (λ u. attached-outcome_of w.fats t u action.Collect sound.fats here (λ x. cc)),
        (λ u other. out-outcome_of w.fats t u action.Collect sound.fats here other),
      )
