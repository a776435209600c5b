-- A thread that attaches is live, has the lowest free berth, and is in no call.
use Rattle.step_core.proofs.Sound.End.{Right}
use Rattle.std.specs.Prelude.{◌≡◌, ◌⊎◌, ℕ, ◌-◌, ◌<◌, Bool, true, false, if◌then◌else◌, ◌==◌, length, set, get_or, Option, Some, None, IsSome, is_some, count_by, ◌+◌, ◌≤◌}
use Rattle.std.specs.Option.{unwrap_or}
use Rattle.std.proofs.Common.{arith, refl, sym, ◌∙◌, inl, inr, get_or-set_same, get_or-set_other, length-set, ap, subst}
use Rattle.std.proofs.Math.Path.{fun_ext}
use Rattle.std.proofs.lemmas.Bool.{cases_eq, eq-eqb, ne_eqb}
use Rattle.std.proofs.lemmas.Option.{same_Some}
use Rattle.lock_word.proofs.Words.{greatest_index-bound}
use Rattle.lock_word.specs.Layout.{greatest_index}
use Rattle.lock_word.specs.declared.ThreadId.{ThreadId}
use Rattle.lock_word.specs.declared.Lock.{Lock}
use Rattle.lock_word.specs.declared.Lock.TheVariants.{Free, Thin, Fat}
use Rattle.thread_index.specs.Indices.{berth_of, free_berth, holder_at}
use Rattle.thread_index.proofs.Berths.{berth_found, berth_same, free_found, berth_taken_same, berth_taken_other, IsOneToOne-taken}
use Rattle.fat_monitor.specs.declared.actions.Post.{Post}
use Rattle.fat_monitor.specs.declared.actions.Post.TheVariants.{Out}
use Rattle.fat_monitor.specs.declared.monitors.Monitor as fat
use Rattle.fat_monitor.specs.FatState.{IsAttached, monitor_at, post_of, flag_at, thread_count}
use Rattle.fat_monitor.proofs.PostMaps.{get-insert_by}
use Rattle.fat_monitor.proofs.Soundness.{IsSound-with_thread}
use Rattle.fat_monitor.proofs.Effects.{count-with_thread}
use Rattle.step_core.specs.declared.machine.Doing.TheVariants as doing
use Rattle.step_core.specs.declared.places.Place.{Place}
use Rattle.step_core.specs.declared.places.Place.TheVariants.{Idle, InCall}
use Rattle.step_core.specs.declared.places.Stage.TheVariants.{Bound}
use Rattle.step_core.specs.declared.machine.Move.TheVariants as move
use Rattle.step_core.specs.declared.steps.Atomic.TheVariants.{Label}
use Rattle.step_core.specs.Machine.{Thread, now_is}
use Rattle.step_core.specs.World.{WorldState, place_at, lock_at}
use Rattle.step_core.specs.Shown.{shown, thread_of, monitor_of}
use Rattle.step_core.specs.Sound.{FittingStage, IsSound, MayShow, Fitting, Agrees, bound_by, IsPublished}
use Rattle.step_core.specs.Did.{one_move}
use Rattle.step_core.specs.Step.{accept, with_live, after_attach}
use Rattle.fast_path.specs.declared.calls.MonitorCall.{MonitorCall}
use Rattle.step_core.proofs.Facts.ShownStates.{ActsAlike, acts_alike}
use Rattle.step_core.proofs.Facts.PlaceFacts.{who_bound, fitting_kept, bound_kept}
use Rattle.step_core.proofs.Facts.OneThread.{stands_at}
use Rattle.step_core.proofs.Sound.Posts.{count_taken, count_below}

module _ (w : WorldState) (sound : IsSound w) (t : ThreadId) where
  -- a new thread at the lowest free berth
  module _ (none : berth_of w.berths t ≡ None) (k : ℕ) (free : free_berth w.berths ≡ Some k) where
    abbrev now : WorldState
    now = with_live w k t

    has_place : k < length w.places
    has_place = rw sound.berthed ((free_found w.berths k free).0)

    -- a berth that somebody has is another one
    taken_elsewhere : (j : ℕ) → IsSome (holder_at w.berths j) → j ≡ k → ⊥
    taken_elsewhere j h e = let never : is_some {T = ThreadId} None ≡ true = rw (e, (free_found w.berths k free).1) at h in absurd (cc)

    holder_kept : (j : ℕ) → (j ≡ k → ⊥) → holder_at (set w.berths k (Some t)) j ≡ holder_at w.berths j
    holder_kept j ne = get_or-set_other w.berths k j (Some t) None ne

    -- the berth of the new thread, and of another
    berth_now_same : (u : ThreadId) → u.0 ≡ t.0 → berth_of now.berths u ≡ Some k
    berth_now_same u e = berth_same now.berths t u e ∙ berth_taken_same w.berths t k none free

    berth_now_other : (u : ThreadId) → (u.0 ≡ t.0 → ⊥) → berth_of now.berths u ≡ berth_of w.berths u
    berth_now_other u ne = berth_taken_other w.berths t u k free ne

    -- another thread has the post and the flag that it had, and shows what it showed
    post_kept : (u : ThreadId) → (u.0 ≡ t.0 → ⊥) → post_of now.fats u ≡ post_of w.fats u
    post_kept u ne = rw (get-insert_by w.fats.threads t.0 Out u.0, ne_eqb u.0 t.0 ne) refl

    post_own : (u : ThreadId) → u.0 ≡ t.0 → post_of now.fats u ≡ Some Out
    post_own u same = rw (get-insert_by w.fats.threads t.0 Out u.0, eq-eqb u.0 t.0 same) refl

    flag_kept : (u : ThreadId) → (u.0 ≡ t.0 → ⊥) → flag_at now.fats u ≡ flag_at w.fats u
    flag_kept u ne = rw (get-insert_by w.fats.flags t.0 false u.0, ne_eqb u.0 t.0 ne) refl

    flag_own : (u : ThreadId) → u.0 ≡ t.0 → flag_at now.fats u ≡ false
    flag_own u same = rw (get-insert_by w.fats.flags t.0 false u.0, eq-eqb u.0 t.0 same) refl

    alike : (u : ThreadId) → (u.0 ≡ t.0 → ⊥) → ActsAlike w.fats now.fats u
    alike u ne = acts_alike w.fats now.fats u sound.fats (flag_kept u ne) (ap (λ (o : Option Post). unwrap_or o Out) (post_kept u ne)) (λ m h. refl)

    thread_kept : (u : ThreadId) → (u.0 ≡ t.0 → ⊥) → (o : Option ℕ) → berth_of w.berths u ≡ o → thread_of now u o ≡ thread_of w u o
    thread_kept u ne None e = refl
    thread_kept u ne (Some j) e =
        let found : holder_at w.berths j ≡ Some u = (berth_found w.berths u j e).1 in
        rw (get_or-set_other w.places k j Idle Idle (taken_elsewhere j (rw found refl)))
        (ap (λ (x : Thread). Some x) (alike u ne (place_at w j)))

    new_thread : (u : ThreadId) → (u.0 ≡ t.0) ⊎ (u.0 ≡ t.0 → ⊥)
        → thread_of now u (berth_of now.berths u) ≡ (if u.0 == t.0 then Some (record { flag = false; act = doing.Idle }) else thread_of w u (berth_of w.berths u))
    new_thread u (inl same) = rw (berth_now_same u same, eq-eqb u.0 t.0 same, get_or-set_same w.places k Idle Idle has_place, post_own u same, flag_own u same) refl
    new_thread u (inr ne) = rw (berth_now_other u ne, ne_eqb u.0 t.0 ne) (thread_kept u ne (berth_of w.berths u) refl)

    old_monitor : (q : ℕ) (l : Lock) → MayShow w q l → monitor_of now l ≡ monitor_of w l
    old_monitor q Free st = refl
    old_monitor q (Thin i c) st = rw (holder_kept (i - 1) (taken_elsewhere (i - 1) st.3)) refl
    old_monitor q (Fat m) st = refl

    old_stands : (q : ℕ) (l : Lock) → MayShow w q l → MayShow now q l
    old_stands q Free st = st
    old_stands q (Thin i c) st = (st.0, st.1, st.2, rw (holder_kept (i - 1) (taken_elsewhere (i - 1) st.3)) st.3)
    old_stands q (Fat m) st = st

    old_fits : (j : ℕ) → (j ≡ k → ⊥) → (p : Place) → Fitting w j p → Fitting now j p
    old_fits j ne = fitting_kept w now j refl refl (λ q n e. e) (λ q m e. e) still (λ q e. e)
      where
        still : (c : MonitorCall) (won : Bool) (m : ℕ) → FittingStage w j (Bound c won m)
            → (m < length w.fats.monitors)
            × (monitor_at w.fats m ≡ record { object = c.object; owner = holder_at now.berths j; holds = (monitor_at w.fats m).holds })
        still c won m fit = let kept = bound_kept w j c won m fit in (kept.0, rw (holder_kept j ne) kept.1)

    attached_now : (u : ThreadId) → (u.0 ≡ t.0) ⊎ (u.0 ≡ t.0 → ⊥) → IsSome (berth_of now.berths u) → IsAttached now.fats u
    attached_now u (inl same) h = rw (post_own u same) refl
    attached_now u (inr ne) h = rw (post_kept u ne) (sound.attached u (rw (berth_now_other u ne) at h))

    live_now : (u : ThreadId) → (u.0 ≡ t.0) ⊎ (u.0 ≡ t.0 → ⊥) → IsAttached now.fats u → IsSome (berth_of now.berths u)
    live_now u (inl same) h = rw (berth_now_same u same) refl
    live_now u (inr ne) h = rw (berth_now_other u ne) (sound.live u (rw (post_kept u ne) at h))

    -- nobody was attached under this thread's number
    fresh : post_of w.fats t ≡ None
    fresh = by_post (post_of w.fats t) refl
      where
        by_post : (o : Option Post) → post_of w.fats t ≡ o → o ≡ None
        by_post None e = refl
        by_post (Some p) e =
            let here : IsAttached w.fats t = rw e refl in
            let never : is_some {T = ℕ} None ≡ true = rw none at (sound.live t here) in
            absurd (cc)

    posted_now : (u : ThreadId) (j : ℕ) → (u.0 ≡ t.0) ⊎ (u.0 ≡ t.0 → ⊥) → berth_of now.berths u ≡ Some j → Agrees (place_at now j) (post_of now.fats u)
    posted_now u j (inl same) h =
        let here : k ≡ j = same_Some k j (sym (berth_now_same u same) ∙ h) in
        rw (← here, get_or-set_same w.places k Idle Idle has_place) (post_own u same)
    posted_now u j (inr ne) h =
        let before : berth_of w.berths u ≡ Some j = sym (berth_now_other u ne) ∙ h in
        let found : holder_at w.berths j ≡ Some u = (berth_found w.berths u j before).1 in
        rw (get_or-set_other w.places k j Idle Idle (taken_elsewhere j (rw found refl)), post_kept u ne) (sound.posted u j before)

    counted_now : thread_count now.fats ≡ count_by is_some now.berths
    counted_now =
        let found = free_found w.berths k free in
        let more : thread_count now.fats ≡ thread_count w.fats + 1 = count-with_thread w.fats t fresh in
        let taken : count_by is_some now.berths ≡ count_by is_some w.berths + 1 = count_taken w.berths k t found.0 found.1 in
        let before : thread_count w.fats ≡ count_by is_some w.berths = sound.counted in
        omega arith

    -- there is room for one more thread
    has_room : thread_count w.fats < 32767
    has_room =
        let found = free_found w.berths k free in
        let below : count_by is_some w.berths < length w.berths = count_below w.berths k t found.0 found.1 in
        let few : length w.berths ≤ greatest_index w.split = sound.few in
        let most : greatest_index w.split ≤ 32767 = greatest_index-bound w.split in
        let before : thread_count w.fats ≡ count_by is_some w.berths = sound.counted in
        omega arith

    -- a free berth has bound nothing: a monitor that it had bound would have no owner
    none_bound : (m : ℕ) → bound_by (place_at w k) ≡ Some m → ⊥
    none_bound m bound =
        let b = who_bound (place_at w k) m bound in
        let fit : Fitting w k (InCall (Bound b.0 b.1 m)) = subst (λ (x : Place). Fitting w k x) b.2 (sound.places k has_place) in
        let owner : (monitor_at w.fats m).owner ≡ None = ap (λ (x : fat.Monitor). x.owner) fit.2.2 ∙ (free_found w.berths k free).1 in
        let holds : (monitor_at w.fats m).holds ≡ fit.2.0 + 1 = ap (λ (x : fat.Monitor). x.holds) fit.2.2 in
        let nothing : (monitor_at w.fats m).holds ≡ 0 = (sound.fats.fair m fit.1).1.0 owner in
        omega arith

    published_now : (m : ℕ) → IsPublished w m → IsPublished now m
    published_now m (inl shows) = inl shows
    published_now m (inr (j, there, bound)) = by_berth (cases_eq j k)
      where
        by_berth : (j ≡ k) ⊎ (j ≡ k → ⊥) → IsPublished now m
        by_berth (inl e) = absurd (none_bound m (rw e at bound))
        by_berth (inr ne) = inr (j, rw (length-set w.places k Idle) there, rw (get_or-set_other w.places k j Idle Idle ne) bound)

    now_sound : IsSound now
    now_sound = record {
      many = sound.many;
      berthed = length-set w.places k Idle ∙ sound.berthed ∙ sym (length-set w.berths k (Some t));
      few = rw (length-set w.berths k (Some t)) sound.few;
      one_to_one = IsOneToOne-taken w.berths t k sound.one_to_one none free;
      formed = sound.formed;
      words = λ p h. old_stands p (lock_at w p) (sound.words p h);
      fats = IsSound-with_thread w.fats t sound.fats fresh has_room;
      published = λ m h. published_now m (sound.published m h);
      attached = λ u h. attached_now u (cases_eq u.0 t.0) h;
      live = λ u h. live_now u (cases_eq u.0 t.0) h;
      posted = λ u j h. posted_now u j (cases_eq u.0 t.0) h;
      counted = counted_now;
      places = λ j h. at_berth j h (cases_eq j k);
    } where
      at_berth : (j : ℕ) → j < length (set w.places k Idle) → (j ≡ k) ⊎ (j ≡ k → ⊥) → Fitting now j (get_or (set w.places k Idle) j Idle)
      at_berth j h (inl e) = rw (e, get_or-set_same w.places k Idle Idle has_place) tt
      at_berth j h (inr ne) =
          let l : j < length w.places = omega (arith, length-set w.places k Idle) in
          rw (get_or-set_other w.places k j Idle Idle ne) (old_fits j ne (place_at w j) (sound.places j l))

    attach_right : Right w (accept now (one_move Label (move.Attach t)))
    attach_right =
        let threads : (shown now).thread ≡ (now_is (shown w) t false doing.Idle).thread = fun_ext (λ u. new_thread u (cases_eq u.0 t.0)) in
        let monitors : (shown now).monitor ≡ (shown w).monitor = fun_ext (λ q. old_monitor q.0 (lock_at w q.0) (stands_at w sound q.0)) in
        (now_sound, (now_is (shown w) t false doing.Idle, (rw none refl, refl), (λ i. record { thread = threads i; objects = length w.words; monitor = monitors i; moment = w.fats.moment })))

  -- an attach that is refused changes nothing
  pub attached_right : (room : Bool) (o f : Option ℕ) → berth_of w.berths t ≡ o → free_berth w.berths ≡ f → Right w (after_attach room w t o f)
  attached_right room (Some k) f e free = (sound, refl)
  attached_right room None None e free = (sound, refl)
  attached_right true None (Some k) e free = attach_right e k free
  attached_right false None (Some k) e free = (sound, refl)
