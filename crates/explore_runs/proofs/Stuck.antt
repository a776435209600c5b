-- Where no choice changes a state, the Java machine is stuck.
use native.Mathlib.Omega.{arith}
use Rattle.std.proofs.Common.{◌≡◌, ◌∙◌, ◌⊎◌, inl, inr, sym, ap, refl, subst, ℕ, ◌+◌, ◌-◌, ◌<◌, ◌≤◌, Bool, true, false, if◌then◌else◌, nat_lt, List, length, Option, Some, None, Ok}
use Rattle.std.specs.Prelude.{IfSome, IsSome, MatchOption, slice_get, slice_index_or, slice_set}
use Rattle.std.specs.Option.{unwrap_or}
use Rattle.std.proofs.lemmas.Bool.{cases_lt, le-ltb, lt-ltb}
use Rattle.std.proofs.lemmas.List.{get_or-set_same}
use Rattle.std.proofs.lemmas.Option.{same_Some}
use Rattle.lock_word.specs.declared.ThreadId.{ThreadId}
use Rattle.lock_word.specs.declared.ObjectId.{ObjectId}
use Rattle.lock_word.specs.declared.Lock.{Lock}
use Rattle.lock_word.specs.declared.Lock.TheVariants.{Thin}
use Rattle.fat_monitor.specs.Acting.{Outcome, after_removal, answers, granted_by_removal, not_due, collect_outcome, expire_outcome, outcome_of, spurious_outcome}
use Rattle.fat_monitor.specs.FatState.{flag_at, monitor_at, with_moment, owns_one, post_at, post_of}
use Rattle.fat_monitor.specs.declared.actions.Action.TheVariants as action
use Rattle.fat_monitor.specs.declared.actions.Answer.TheVariants as answer
use Rattle.fat_monitor.specs.declared.actions.Cause.{Cause}
use Rattle.fat_monitor.specs.declared.actions.Cause.TheVariants as cause
use Rattle.fat_monitor.specs.declared.actions.Post.{Post}
use Rattle.fat_monitor.specs.declared.actions.Post.TheVariants.{Out, Entering, Waiting, Back, Granted}
use Rattle.fat_monitor.specs.declared.actions.Reply.{Reply}
use Rattle.fat_monitor.specs.declared.actions.Reply.TheVariants as reply
use Rattle.fat_monitor.specs.declared.actions.Why.TheVariants as why
use Rattle.fast_path.proofs.Tables.{spin_fact}
use Rattle.fast_path.specs.Calls.{call_about, call_of, call_on, object_of, subject_of}
use Rattle.fast_path.specs.Table.{next_of}
use Rattle.fast_path.specs.declared.Next.{Next}
use Rattle.fast_path.specs.declared.calls.Call.{Call}
use Rattle.fast_path.specs.declared.calls.Call.TheVariants as call
use Rattle.fast_path.specs.declared.calls.MonitorCall.{MonitorCall}
use Rattle.fast_path.specs.declared.calls.Operation.{Operation}
use Rattle.fast_path.specs.declared.calls.Subject.{Subject}
use Rattle.fast_path.specs.declared.calls.Subject.TheVariants as subject
use Rattle.thread_index.specs.Indices.{berth_of, holder_at}
use Rattle.step_core.specs.Go.{AfterGo, action_about, action_on, after_act, after_bind, after_load, after_look_as, after_publish, after_stage, after_take, bind_cause, entering, with_go}
use Rattle.step_core.specs.Machine.{Calls, Exists, Is, IsAnswer, MayRefuse, OwnedBy, State, Steps, Thread, Unowned, owner_only}
use Rattle.step_core.specs.Shown.{act_of, doing_in, monitor_of, shown, thread_of as shown_thread}
use Rattle.step_core.specs.Sound.{Agrees, Fitting, IsPublished, MayShow, bound_by}
use Rattle.step_core.specs.Step.{AfterStep, accept, after_begin, after_begin_at, after_begin_on, after_collect, after_go_at, after_look, after_wait_end, after_wait_end_as, first_place, refuse, step_of, time_over, wake_up}
use Rattle.step_core.specs.World.{WorldState, is_own, lock_at, place_at}
use Rattle.step_core.specs.Did.{one_move}
use Rattle.step_core.specs.declared.machine.Doing.{Doing}
use Rattle.step_core.specs.declared.machine.Doing.TheVariants as doing
use Rattle.step_core.specs.declared.machine.Move.{Move}
use Rattle.step_core.specs.declared.machine.Move.TheVariants as move
use Rattle.step_core.specs.declared.places.Place.{Place}
use Rattle.step_core.specs.declared.places.Place.TheVariants.{Idle, InCall, Ending, AtPost}
use Rattle.step_core.specs.declared.places.Stage.{Stage}
use Rattle.step_core.specs.declared.places.Stage.TheVariants.{Begun, Taking, Storing, Binding, Acting, Won, Bound, Inflated, Direct}
use Rattle.step_core.specs.declared.steps.Atomic.TheVariants.{Label}
use Rattle.step_core.specs.declared.steps.Did.{Did}
use Rattle.step_core.specs.declared.steps.Fault.TheVariants as fault
use Rattle.step_core.specs.declared.steps.Step.TheVariants as step
use Rattle.step_core.proofs.Facts.Cases.{collected_as, ended_as}
use Rattle.explore.specs.declared.programs.Program.{Program}
use Rattle.explore.specs.declared.programs.Choice.TheVariants as choice
use Rattle.explore.proofs.Busy.{is_busy, is_busy_berth, is_busy_place}
use Rattle.explore.specs.Found.{IsEnd}
use Rattle.explore.specs.States.{ProgramState, after, after_answer, after_step, begin_of, call_below, moved, step_at, step_for, step_of_thread, tick_of}
use Rattle.explore_java.specs.JavaRuns.{IsBlocked, Rests}
use Rattle.explore_runs.proofs.Ended.{IsKept, go_rests, own, place_rests, step_rests, thread_means, within}
use Rattle.explore_runs.proofs.Spinning.{place_number, loaded_words, acted_number, taken_number, bound_number, published_number, neither, Spins, loaded_spin, removal_moves}

-- what the program leaves to the machine in a state of the core: the next call of thread t has this position
abbrev pub HasNext : Program → ProgramState → ℕ → ℕ → Type 0
HasNext p s t n = (slice_get s.nexts t ≡ Some n) × (t < length p.starts.items)

abbrev pub IsLeftIn : Program → ProgramState → Move → Type 0
IsLeftIn p s (move.Attach t) = ⊥
IsLeftIn p s (move.Call t c) = (is_busy s.world t ≡ false) → (n : ℕ) × HasNext p s t.0 n × (call_below p t.0 n ≡ Some c)
IsLeftIn p s (move.Spurious t) = p.spurious ≡ true
IsLeftIn p s (move.Time now) = slice_get p.moments.items s.told ≡ Some now
IsLeftIn p s m = Unit {0}

-- ---- a state that no choice changes

module _ (p : Program) (s : ProgramState) (kept : IsKept p s) (end : IsEnd p s) where
  abbrev w : WorldState
  w = s.world

  module _ (t : ThreadId) (k : ℕ) (at : berth_of w.berths t ≡ Some k) where
    stays : (q : Place) → place_at w k ≡ q → (a : AfterGo) → after_go_at true w k t q ≡ accept (with_go w k a) a.did → place_number a.place ≡ place_number q
    stays q here a is = ap place_number (place_rests p s kept end t k at a (ap (λ (x : Place). after_go_at true w k t x) here ∙ is) ∙ here)

    fits : (q : Place) → place_at w k ≡ q → Fitting w k q
    fits q here = subst (λ (x : Place). Fitting w k x) here (kept.sound.places k (within p s kept end t k at))

    agrees : (q : Place) → place_at w k ≡ q → Agrees q (post_of w.fats t)
    agrees q here = subst (λ (x : Place). Agrees x (post_of w.fats t)) here (kept.sound.posted t k at)

    -- a thread at a stage of its call spins: it loads the thin word of another thread
    record IsSpinning (x : Stage) : Type 0 where
      pub call : MonitorCall
      pub contended : Bool
      pub is : x ≡ Begun call contended
      pub spins : Spins call.operation (lock_at w call.object.0) (k + 1)

    spinning : (x : Stage) → place_at w k ≡ InCall x → IsSpinning x
    spinning (Begun c b) here =
        let found : Next = next_of w.split c.operation (lock_at w c.object.0) (k + 1) in
        record {
          call = c;
          contended = b;
          is = refl;
          spins = spin_fact w.split c.operation (lock_at w c.object.0) (k + 1)
              (loaded_spin w t c b found (stays (InCall (Begun c b)) here (after_load w t c b found) refl));
        }
    spinning (Taking o b) here =
        let l : Lock = lock_at w o.0 in
        absurd (taken_number w k t o b l (stays (InCall (Taking o b)) here (after_take w k t o b l) refl))
    spinning (Storing c l) here = absurd (let e = stays (InCall (Storing c l)) here (after_stage true w k t (Storing c l)) refl in omega (arith, e))
    spinning (Binding c n) here =
        let x = bind_cause true w.fats in
        absurd (neither 6 (bound_number w t c false (n + 1) x) (stays (InCall (Binding c n)) here (after_bind w t c false (n + 1) x) refl) (λ e. (omega (arith, e))) (λ e. (omega (arith, e))))
    spinning (Acting c m) here =
        let lt = acted_number w t (call_of c) (action_on c.operation m) in
        absurd (let e = stays (InCall (Acting c m)) here (after_act w t (call_of c) (action_on c.operation m)) refl in omega (arith, e, lt))
    spinning (Won o) here =
        let x = bind_cause true w.fats in
        absurd (neither 8 (bound_number w t (entering o) true 1 x) (stays (InCall (Won o)) here (after_bind w t (entering o) true 1 x) refl) (λ e. (omega (arith, e))) (λ e. (omega (arith, e))))
    spinning (Bound c won m) here = absurd (published_number w t c won m (stays (InCall (Bound c won m)) here (after_publish w t c won m) refl))
    spinning (Inflated c m) here =
        let lt = acted_number w t (call_of c) (action_on c.operation m) in
        absurd (let e = stays (InCall (Inflated c m)) here (after_act w t (call_of c) (action_on c.operation m)) refl in omega (arith, e, lt))
    spinning (Direct c) here =
        let lt = acted_number w t (call_about c) (action_about c) in
        absurd (let e = stays (InCall (Direct c)) here (after_act w t (call_about c) (action_about c)) refl in omega (arith, e, lt))

    -- so that thread owns the object
    blocked : (c : MonitorCall) → c.object.0 < length w.words → Spins c.operation (lock_at w c.object.0) (k + 1) → IsBlocked (shown w) t c.object
    blocked c lt (enters, (i, n, thin, another)) =
        let shows : MayShow w c.object.0 (Thin i n) = subst (λ (l : Lock). MayShow w c.object.0 l) thin (kept.sound.words c.object.0 lt) in
        by (holder_at w.berths (i - 1)) refl (ap (λ (l : Lock). (monitor_of w l).owner) thin) shows.0 shows.3
      where
        by : (o : Option ThreadId) → holder_at w.berths (i - 1) ≡ o → ((shown w).monitor c.object).owner ≡ o → 1 ≤ i → IsSome o → IsBlocked (shown w) t c.object
        by None there owner one some = absurd (cc)
        by (Some u) there owner one some =
            let his = kept.sound.one_to_one (i - 1) u there in (
              u,
              owner,
              λ same.
                  let here : i - 1 ≡ k = ap (λ (b : Option ℕ). unwrap_or b 0) (sym his ∙ ap (λ (v : ThreadId). berth_of w.berths v) same ∙ at) in
                  another (omega (arith, here, one)),
            )

    stage_rests : (x : Stage) → place_at w k ≡ InCall x → Rests p (shown w) t (doing_in x)
    stage_rests x here =
        let spin = spinning x here in
        let c : MonitorCall = spin.call in
        let reaches = fits (InCall (Begun c spin.contended)) (here ∙ ap (λ (y : Stage). InCall y) spin.is) in
        subst (λ (y : Stage). Rests p (shown w) t (doing_in y)) (sym spin.is)
        (c.object, ap (λ (o : Operation). call_on c.object o) spin.spins.0, blocked c reaches spin.spins)

    -- a Go that leaves its thread in no call found it there
    over : (v : AfterStep) (d : Did) → after_go_at true w k t (place_at w k) ≡ v → v.answer ≡ Ok d → v.after.places ≡ slice_set w.places k Idle → place_at w k ≡ Idle
    over v d is accepted places =
        let rests = go_rests p s kept end t k at d (ap (λ (o : AfterStep). o.answer) is ∙ accepted) in
        let same : v.after ≡ w = ap (λ (o : AfterStep). o.after) (sym is) ∙ rests in
        ap (λ (x : WorldState). place_at x k) (sym same) ∙ ap (λ (ps : List Place). slice_index_or ps k Idle) places
        ∙ get_or-set_same w.places k Idle Idle (within p s kept end t k at)

    -- nobody is in the middle of an end
    ending : (n : ℕ) → place_at w k ≡ Ending n → ⊥
    ending n here = by (nat_lt n (length w.words)) refl
      where
        ended : AfterStep
        ended = ended_as w k t (owns_one w.fats.monitors t)

        goes : (b : Bool) → nat_lt n (length w.words) ≡ b → after_go_at true w k t (Ending n) ≡ (if b then accept (with_go w k (after_look w k t n)) (after_look w k t n).did else ended)
        goes b e = ap (λ (c : Bool). if c then accept (with_go w k (after_look w k t n)) (after_look w k t n).did else ended) e

        look : (b : Bool) → is_own (lock_at w n) (k + 1) ≡ b → nat_lt n (length w.words) ≡ true → ⊥
        look true mine lt =
            let a : AfterGo = after_look_as w t n true in
            let is : after_go_at true w k t (place_at w k) ≡ accept (with_go w k a) a.did =
            ap (λ (q : Place). after_go_at true w k t q) here ∙ goes true lt ∙ ap (λ (b : Bool). accept (with_go w k (after_look_as w t n b)) (after_look_as w t n b).did) mine in
            let same = place_rests p s kept end t k at a is in
            let e = ap place_number (same ∙ here) in
            omega (arith, e)
        look false mine lt =
            let a : AfterGo = after_look_as w t n false in
            let is : after_go_at true w k t (place_at w k) ≡ accept (with_go w k a) a.did =
            ap (λ (q : Place). after_go_at true w k t q) here ∙ goes true lt ∙ ap (λ (b : Bool). accept (with_go w k (after_look_as w t n b)) (after_look_as w t n b).did) mine in
            let same = place_rests p s kept end t k at a is in
            let e = ap loaded_words (same ∙ here) in
            omega (arith, e)

        idle : (owns : Bool) → after_go_at true w k t (place_at w k) ≡ ended_as w k t owns → ⊥
        idle true is = let e = ap place_number (sym here ∙ over (ended_as w k t true) _ is refl refl) in omega (arith, e)
        idle false is = let e = ap place_number (sym here ∙ over (ended_as w k t false) _ is refl refl) in omega (arith, e)

        by : (b : Bool) → nat_lt n (length w.words) ≡ b → ⊥
        by true lt = look (is_own (lock_at w n) (k + 1)) refl lt
        by false le = idle (owns_one w.fats.monitors t) (ap (λ (q : Place). after_go_at true w k t q) here ∙ goes false le)

    -- or has a reply to collect
    no_grant : (r : Reply) → place_at w k ≡ AtPost → post_of w.fats t ≡ Some (Granted r) → ⊥
    no_grant r here post =
        let goes : after_go_at true w k t (place_at w k) ≡ collected_as w k t r =
        ap (λ (q : Place). after_go_at true w k t q) here
        ∙ ap (λ (o : Option Post). after_collect w k t (collect_outcome w.fats t (unwrap_or o Out)).answer (collect_outcome w.fats t (unwrap_or o Out)).after) post in
        let e = ap place_number (sym here ∙ over (collected_as w k t r) _ goes refl refl) in
        omega (arith, e)

  -- nobody is to store the word of a monitor that it has bound
  nobody_binds : (j m : ℕ) → bound_by (place_at w j) ≡ Some m → ⊥
  nobody_binds j m bound = by (place_at w j) refl (kept.manned.taken j)
    where
      stands : (u : ThreadId) → berth_of w.berths u ≡ Some j → (q : Place) → place_at w j ≡ q → bound_by q ≡ Some m → ⊥
      stands u at Idle here e = cc
      stands u at (InCall x) here e =
          let spin = spinning u j at x here in
          let never : bound_by (InCall (Begun spin.call spin.contended)) ≡ Some m = ap (λ (y : Stage). bound_by (InCall y)) (sym spin.is) ∙ e in
          cc
      stands u at (Ending n) here e = cc
      stands u at AtPost here e = cc

      by : (q : Place) → place_at w j ≡ q → (place_at w j ≡ Idle) ⊎ ((u : ThreadId) × (berth_of w.berths u ≡ Some j)) → ⊥
      by q here (inl idle) = let never = ap bound_by (sym idle) ∙ bound in cc
      by q here (inr (u, at)) = stands u at q here (ap bound_by (sym here) ∙ bound)

  -- a line stands behind another thread
  line_blocked : (t : ThreadId) (m : ℕ) → m < length w.fats.monitors → IsSome (monitor_at w.fats m).owner → ((monitor_at w.fats m).owner ≡ Some t → ⊥)
      → IsBlocked (shown w) t (monitor_at w.fats m).object
  line_blocked t m lt behind apart = by (kept.sound.published m lt)
    where
      owned : (o : Option ThreadId) → (monitor_at w.fats m).owner ≡ o → IsSome o → ((shown w).monitor (monitor_at w.fats m).object).owner ≡ o → IsBlocked (shown w) t (monitor_at w.fats m).object
      owned None e some shows = absurd (cc)
      owned (Some u) e some shows = (u, shows, λ same. apart (e ∙ ap (λ (v : ThreadId). Some v) same))

      by : IsPublished w m → IsBlocked (shown w) t (monitor_at w.fats m).object
      by (inl fat) = owned (monitor_at w.fats m).owner refl behind (ap (λ (l : Lock). (monitor_of w l).owner) fat)
      by (inr (j, below, bound)) = absurd (nobody_binds j m bound)

  module _ (t : ThreadId) (k : ℕ) (at : berth_of w.berths t ≡ Some k) where
    -- nobody's time is over
    expires : (m n d : ℕ) → post_of w.fats t ≡ Some (Waiting m n (Some d)) → d ≤ w.fats.moment → ⊥
    expires m n d post le =
        let due : outcome_of w.fats t action.Expire ≡ expired =
        ap (λ (o : Option Post). expire_outcome w.fats t (unwrap_or o Out)) post
        ∙ ap (λ (b : Bool). if b then not_due w.fats else expired) (le-ltb w.fats.moment d le) in
        let goes : step_of true w (step.Expire t) ≡ after_wait_end_as time_over w t expired.answer expired.after =
        ap (λ (b : Option ℕ). after_wait_end time_over w t b) at ∙ ap (λ (o : Outcome). after_wait_end_as time_over w t o.answer o.after) due in
        let means = thread_means p s kept (choice.Expire t.0) t (step.Expire t) (own p s kept end t k at) (λ j. refl) in
        let rests = step_rests p s (choice.Expire t.0) (step.Expire t) _ end means (ap (λ (o : AfterStep). o.answer) goes) in
        removal_moves w.fats t why.Elapsed m n (Some d) post (ap (λ (x : WorldState). x.fats) (ap (λ (o : AfterStep). o.after) (sym goes) ∙ rests))
      where
        expired : Outcome
        expired = answers (after_removal w.fats t why.Elapsed (Waiting m n (Some d))) answer.Quiet (granted_by_removal w.fats t (Waiting m n (Some d))) None

    -- and nobody's wait may end for no reason
    wakes : (m n : ℕ) (d : Option ℕ) → post_of w.fats t ≡ Some (Waiting m n d) → p.spurious ≡ true → ⊥
    wakes m n d post may =
        let woken : outcome_of w.fats t action.Spurious ≡ answers (after_removal w.fats t why.Spurious (Waiting m n d)) answer.Quiet (granted_by_removal w.fats t (Waiting m n d)) None =
        ap (λ (o : Option Post). spurious_outcome w.fats t (unwrap_or o Out)) post in
        let goes : step_of true w (step.Spurious t) ≡ _ =
        ap (λ (b : Option ℕ). after_wait_end wake_up w t b) at ∙ ap (λ (o : Outcome). after_wait_end_as wake_up w t o.answer o.after) woken in
        let means =
        thread_means p s kept (choice.Spurious t.0) t (step.Spurious t) (own p s kept end t k at) (λ j. ap (λ (b : Bool). if b then Some (step.Spurious t) else None) may) in
        let rests = step_rests p s (choice.Spurious t.0) (step.Spurious t) _ end means (ap (λ (o : AfterStep). o.answer) goes) in
        removal_moves w.fats t why.Spurious m n d post (ap (λ (x : WorldState). x.fats) (ap (λ (o : AfterStep). o.after) (sym goes) ∙ rests))

    in_time : (m n : ℕ) (d : Option ℕ) → post_of w.fats t ≡ Some (Waiting m n d) → IfSome d (λ x. w.fats.moment < x)
    in_time m n None post = tt
    in_time m n (Some d) post = by (cases_lt w.fats.moment d)
      where
        by : (w.fats.moment < d) ⊎ (d ≤ w.fats.moment) → w.fats.moment < d
        by (inl lt) = lt
        by (inr le) = absurd (expires m n d post le)

    post_rests : place_at w k ≡ AtPost → (o : Option Post) → post_of w.fats t ≡ o → Rests p (shown w) t (act_of w.fats (unwrap_or o Out) AtPost)
    post_rests here None post =
        let attached = kept.sound.attached t (rw at refl) in
        absurd (let never : IsSome {T = Post} None = rw post at attached in cc)
    post_rests here (Some Out) post = absurd (agrees t k at AtPost here post)
    post_rests here (Some (Entering m)) post =
        let stands = kept.sound.fats.posted t (Entering m) m _ post refl in
        ((monitor_at w.fats m).object, refl, line_blocked t m (kept.sound.fats.proper t (Entering m) post) (kept.sound.fats.behind t m stands) (kept.sound.fats.apart t m _ stands))
    post_rests here (Some (Waiting m n d)) post = (in_time m n d post, wakes m n d post)
    post_rests here (Some (Back m n y)) post =
        let proper = kept.sound.fats.proper t (Back m n y) post in
        let stands = kept.sound.fats.posted t (Back m n y) m _ post refl in
        line_blocked t m proper.0 (kept.sound.fats.behind t m stands) (kept.sound.fats.apart t m _ stands)
    post_rests here (Some (Granted r)) post = no_grant t k at r here post

    place_rests_as : (q : Place) → place_at w k ≡ q → Rests p (shown w) t (act_of w.fats (post_at w.fats t) q)
    place_rests_as Idle here = subst (λ (o : Option Post). Rests p (shown w) t (act_of w.fats (unwrap_or o Out) Idle)) (sym (agrees t k at Idle here)) tt
    place_rests_as (InCall x) here =
        subst (λ (o : Option Post). Rests p (shown w) t (act_of w.fats (unwrap_or o Out) (InCall x))) (sym (agrees t k at (InCall x) here)) (stage_rests t k at x here)
    place_rests_as (Ending n) here = absurd (ending t k at n here)
    place_rests_as AtPost here = post_rests here (post_of w.fats t) refl

    -- one that does nothing is in no call
    idle_place : (q : Place) → place_at w k ≡ q → act_of w.fats (post_at w.fats t) q ≡ doing.Idle → q ≡ Idle
    idle_place Idle here e = refl
    idle_place (InCall x) here e =
        let spin = spinning t k at x here in
        let never : doing_in (Begun spin.call spin.contended) ≡ doing.Idle =
        ap doing_in (sym spin.is) ∙ ap (λ (o : Option Post). act_of w.fats (unwrap_or o Out) (InCall x)) (sym (agrees t k at (InCall x) here)) ∙ e in
        absurd (cc)
    idle_place (Ending n) here e = absurd (ending t k at n here)
    idle_place AtPost here e = by (post_of w.fats t) refl
      where
        acts : (x : Post) → post_of w.fats t ≡ Some x → act_of w.fats x AtPost ≡ doing.Idle
        acts x post = ap (λ (o : Option Post). act_of w.fats (unwrap_or o Out) AtPost) (sym post) ∙ e

        by : (o : Option Post) → post_of w.fats t ≡ o → AtPost ≡ Idle
        by None post =
            let attached = kept.sound.attached t (rw at refl) in
            absurd (let never : IsSome {T = Post} None = rw post at attached in cc)
        by (Some Out) post = absurd (agrees t k at AtPost here post)
        by (Some (Entering m)) post = absurd (let never : act_of w.fats (Entering m) AtPost ≡ doing.Idle = acts (Entering m) post in cc)
        by (Some (Waiting m n d)) post = absurd (let never : act_of w.fats (Waiting m n d) AtPost ≡ doing.Idle = acts (Waiting m n d) post in cc)
        by (Some (Back m n y)) post = absurd (let never : act_of w.fats (Back m n y) AtPost ≡ doing.Idle = acts (Back m n y) post in cc)
        by (Some (Granted r)) post = absurd (no_grant t k at r here post)

    -- so it has no call to begin
    first_number : (x : Subject) → place_number (first_place x) ≡ 0 → ⊥
    first_number (subject.Monitor c) e = omega (arith, e)
    first_number (subject.Interrupt c) e = omega (arith, e)
    first_number subject.End e = omega (arith, e)

    begins : (c : Call) (n : ℕ) → place_at w k ≡ Idle → Exists (length w.words) c → slice_get s.nexts t.0 ≡ Some n → t.0 < length p.starts.items
        → call_below p t.0 n ≡ Some c → ⊥
    begins c n idle exists has lt below =
        let means : step_for p s (choice.Begin t.0) ≡ Some (step.Begin t c) =
        ap (λ (o : Option ℕ). step_of_thread p (choice.Begin t.0) t.0 o) has
        ∙ ap (λ (b : Bool). if b then step_at p (choice.Begin t.0) n else None) (lt-ltb t.0 (length p.starts.items) lt) ∙ ap (begin_of t.0) below in
        let goes : step_of true w (step.Begin t c) ≡ after_begin_at w k t c Idle =
        ap (λ (b : Option ℕ). after_begin w t c b) at ∙ here (object_of c) exists ∙ ap (λ (q : Place). after_begin_at w k t c q) idle in
        let rests = step_rests p s (choice.Begin t.0) (step.Begin t c) _ end means (ap (λ (o : AfterStep). o.answer) goes) in
        let same : slice_set w.places k (first_place (subject_of c)) ≡ w.places = ap (λ (x : WorldState). x.places) (ap (λ (o : AfterStep). o.after) (sym goes) ∙ rests) in
        let place : first_place (subject_of c) ≡ Idle =
        sym (get_or-set_same w.places k (first_place (subject_of c)) Idle (within p s kept end t k at)) ∙ ap (λ (ps : List Place). slice_index_or ps k Idle) same ∙ idle in
        first_number (subject_of c) (ap place_number place)
      where
        here : (o : Option ObjectId) → MatchOption o (Unit {0}) (λ x. x.0 < length w.words) → after_begin_on w k t c o ≡ after_begin_at w k t c (place_at w k)
        here None e = refl
        here (Some o) e = ap (λ (b : Bool). if b then after_begin_at w k t c (place_at w k) else refuse w fault.NoObject) (lt-ltb o.0 (length w.words) e)

  -- ---- what is shown

  pub is_rests : (t : ThreadId) (flag : Bool) (act : Doing) → Is (shown w) t flag act → Rests p (shown w) t act
  is_rests t flag act is = by (berth_of w.berths t) refl is
    where
      by : (b : Option ℕ) → berth_of w.berths t ≡ b → shown_thread w t b ≡ Some (record { flag = flag; act = act }) → Rests p (shown w) t act
      by None at e = absurd (cc)
      by (Some k) at e =
          let same = same_Some (record { flag = flag_at w.fats t; act = act_of w.fats (post_at w.fats t) (place_at w k) }) (record { flag = flag; act = act }) e in
          subst (λ (d : Doing). Rests p (shown w) t d) (ap (λ (x : Thread). x.act) same) (place_rests_as t k at (place_at w k) refl)

  idle_begins : (t : ThreadId) (flag : Bool) (c : Call) → Is (shown w) t flag doing.Idle → Exists (length w.words) c → IsLeftIn p s (move.Call t c) → ⊥
  idle_begins t flag c is exists left = by (berth_of w.berths t) refl is
    where
      by : (b : Option ℕ) → berth_of w.berths t ≡ b → shown_thread w t b ≡ Some (record { flag = flag; act = doing.Idle }) → ⊥
      by None at e = cc
      by (Some k) at e =
          let same = same_Some (record { flag = flag_at w.fats t; act = act_of w.fats (post_at w.fats t) (place_at w k) }) (record { flag = flag; act = doing.Idle }) e in
          let idle = idle_place t k at (place_at w k) refl (ap (λ (x : Thread). x.act) same) in
          let found = left (ap (is_busy_berth w.places) at ∙ ap is_busy_place idle) in
          begins t k at c found.0 idle exists found.1.0 found.1.1 found.2

  -- who wants something wants to enter an object of another thread
  wants_enter : (t : ThreadId) (flag : Bool) (c : Call) → Calls (shown w) t flag c → (o : ObjectId) × (c ≡ call.Enter o) × IsBlocked (shown w) t o
  wants_enter t flag c calls = is_rests t flag (doing.Wants c) calls

  not_owned : (t : ThreadId) (o : ObjectId) → IsBlocked (shown w) t o → OwnedBy (shown w) o t → ⊥
  not_owned t o blocked owned = blocked.2 (same_Some blocked.0 t (sym blocked.1 ∙ owned))

  returns : (t : ThreadId) (r : Reply) (x : State) → Steps (shown w) (move.Return t r) x → ⊥
  returns t reply.Ended x steps = is_rests t steps.0 (doing.Has reply.Ended) steps.1
  returns t r x steps = is_rests t steps.0 (doing.Has r) steps.1

  enters_never : (t : ThreadId) (flag : Bool) (c : Call) → Calls (shown w) t flag c → ((o : ObjectId) → c ≡ call.Enter o → ⊥) → ⊥
  enters_never t flag c calls never = let wants = wants_enter t flag c calls in never wants.0 wants.1

  refuses : (t : ThreadId) (flag : Bool) (c : Call) (why : Cause) → Calls (shown w) t flag c → MayRefuse (shown w) t c why → ⊥
  refuses t flag c why calls may =
      let wants = wants_enter t flag c calls in
      by why (subst (λ (d : Call). MayRefuse (shown w) t d why) wants.1 may)
    where
      by : (x : Cause) → MayRefuse (shown w) t (call.Enter (wants_enter t flag c calls).0) x → ⊥
      by cause.NoMonitor owned = not_owned t (wants_enter t flag c calls).0 (wants_enter t flag c calls).2 owned
      by cause.Memory owned = not_owned t (wants_enter t flag c calls).0 (wants_enter t flag c calls).2 owned
      by cause.TooDeep deep = not_owned t (wants_enter t flag c calls).0 (wants_enter t flag c calls).2 deep.0
      by cause.StillOwner never = never
      by cause.NoThread never = never

  ticks : (now : ℕ) → slice_get p.moments.items s.told ≡ Some now → w.fats.moment ≤ now → ⊥
  ticks now told le =
      let v : WorldState = record w { fats = with_moment w.fats now } in
      let goes : step_of true w (step.Tick now) ≡ accept v (one_move Label (move.Time now)) =
      ap (λ (b : Bool). if b then refuse w fault.Backwards else accept v (one_move Label (move.Time now))) (le-ltb now w.fats.moment le) in
      let leads : after p s choice.Tick ≡ Some (moved s choice.Tick v) =
      ap (λ (o : Option ℕ). after_step s choice.Tick (tick_of o)) told ∙ ap (λ (o : AfterStep). after_answer s choice.Tick o.answer o.after) goes in
      let same = ap (λ (u : ProgramState). u.told) (end choice.Tick (moved s choice.Tick v) leads) in
      omega (arith, same)

  pub stuck : (m : Move) (x : State) → IsLeftIn p s m → Steps (shown w) m x → ⊥
  stuck (move.Attach t) x left steps = left
  stuck (move.Call t c) x left (flag, is, exists, e) = idle_begins t flag c is exists left
  stuck (move.Return t r) x left steps = returns t r x steps
  stuck (move.Lock t) x left (flag, o, calls, free, few, e) = by free (wants_enter t flag (call.Enter o) calls)
    where
      by : (Unowned (shown w) o ⊎ OwnedBy (shown w) o t) → (q : ObjectId) × (call.Enter o ≡ call.Enter q) × IsBlocked (shown w) t q → ⊥
      by owner (q, same, blocked) = locks owner (subst (λ (d : Call). entered d) (sym same) blocked)
        where
          entered : Call → Type 0
          entered (call.Enter q) = IsBlocked (shown w) t q
          entered d = Unit {0}

          locks : (Unowned (shown w) o ⊎ OwnedBy (shown w) o t) → IsBlocked (shown w) t o → ⊥
          locks (inl none) blocked = let never = sym blocked.1 ∙ none in cc
          locks (inr mine) blocked = not_owned t o blocked mine
  stuck (move.Unlock t) x left (flag, o, n, calls, held, e) = enters_never t flag (call.Exit o) calls (λ q same. cc)
  stuck (move.Illegal t) x left (flag, c, o, calls, only, other, e) =
      enters_never t flag c calls (λ q same. let never = ap owner_only (sym same) ∙ only in cc)
  stuck (move.BadArgument t) x left (flag, o, millis, nanos, calls, owned, bad, e) = enters_never t flag (call.Wait o millis nanos) calls (λ q same. cc)
  stuck (move.Early t) x left (o, millis, nanos, calls, owned, good, e) = enters_never t true (call.Wait o millis nanos) calls (λ q same. cc)
  stuck (move.Wait t) x left (o, millis, nanos, calls, owned, good, e) = enters_never t false (call.Wait o millis nanos) calls (λ q same. cc)
  stuck (move.Notify t (Some u)) x left steps = enters_never t steps.0 (call.Notify steps.1) steps.2 (λ q same. cc)
  stuck (move.Notify t None) x left steps = enters_never t steps.0 (call.Notify steps.1) steps.2 (λ q same. cc)
  stuck (move.NotifyAll t) x left steps = enters_never t steps.0 (call.NotifyAll steps.1) steps.2 (λ q same. cc)
  stuck (move.Interrupt t) x left steps = enters_never t steps.0 (call.Interrupt steps.1) steps.3 (λ q same. cc)
  stuck (move.TestClear t) x left steps = enters_never t steps.0 call.Interrupted steps.1 (λ q same. cc)
  stuck (move.Expire t) x left (flag, o, n, d, is, le, e) = let later = (is_rests t flag (doing.Waits o n (Some d)) is).0 in omega (arith, later, le)
  stuck (move.Spurious t) x left (flag, o, n, d, is, e) = (is_rests t flag (doing.Waits o n d) is).1 left
  stuck (move.Relock t) x left (flag, o, n, y, is, none, e) = let blocked = is_rests t flag (doing.Back o n y) is in let never = sym blocked.1 ∙ none in cc
  stuck (move.Ask t) x left (flag, b, c, calls, answers, e) =
      let wants = wants_enter t flag c calls in
      subst (λ (d : Call). IsAnswer (shown w) t d b) wants.1 answers
  stuck (move.Refuse t why) x left (flag, c, calls, may, e) = refuses t flag c why calls may
  stuck (move.Time now) x left (le, e) = ticks now left le
  stuck (move.End t) x left (flag, calls, none, e) = enters_never t flag call.End calls (λ q same. cc)
