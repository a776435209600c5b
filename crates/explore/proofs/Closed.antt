-- A choice that is not allowed by what its thread is doing cannot be made.
use Rattle.std.proofs.Common.{◌≡◌, ap, refl, subst, ℕ, Bool, true, false, if◌then◌else◌, nat_lt, length, Option, Some, None, Err}
use Rattle.std.specs.Prelude.{slice_get, not}
use Rattle.std.specs.Option.{option_map, unwrap_or}
use Rattle.lock_word.specs.declared.ThreadId.{ThreadId}
use Rattle.lock_word.specs.declared.ObjectId.{ObjectId}
use Rattle.fat_monitor.specs.FatState.{post_at, post_of}
use Rattle.fat_monitor.specs.declared.actions.Post.{Post}
use Rattle.fat_monitor.specs.declared.actions.Post.TheVariants.{Out, Entering, Waiting, Back, Granted}
use Rattle.fat_monitor.specs.Acting.{collect_outcome, expire_outcome, spurious_outcome}
use Rattle.fast_path.specs.declared.calls.Call.{Call}
use Rattle.fast_path.specs.Calls.{object_of}
use Rattle.thread_index.specs.Indices.{berth_of}
use Rattle.step_core.specs.declared.machine.Doing.{Doing}
use Rattle.step_core.specs.declared.places.Place.{Place}
use Rattle.step_core.specs.declared.places.Place.TheVariants.{Idle, InCall, Ending, AtPost}
use Rattle.step_core.specs.declared.places.Stage.{Stage}
use Rattle.step_core.specs.declared.places.Stage.TheVariants.{Begun, Taking, Storing, Binding, Acting, Won, Bound, Inflated, Direct}
use Rattle.step_core.specs.declared.steps.Fault.{Fault}
use Rattle.step_core.specs.declared.steps.Fault.TheVariants as fault
use Rattle.step_core.specs.declared.steps.Step.{Step}
use Rattle.step_core.specs.declared.steps.Step.TheVariants as step
use Rattle.step_core.specs.Machine.{Thread}
use Rattle.step_core.specs.Shown.{act_of, doing_in, thread_of as shown_of}
use Rattle.step_core.specs.Sound.{Agrees, IsSound}
use Rattle.step_core.specs.Step.{AfterStep, after_begin, after_begin_at, after_begin_on, after_collect, after_go, after_go_at, after_wait_end, after_wait_end_as, step_of, time_over, wake_up}
use Rattle.step_core.specs.World.{WorldState, place_at}
use Rattle.explore.specs.declared.programs.Program.{Program}
use Rattle.explore.specs.declared.programs.Choice.{Choice}
use Rattle.explore.specs.declared.programs.Choice.TheVariants as choice
use Rattle.explore.specs.Allowed.{allows, doing_at, may_begin, may_expire, may_go, may_wake}
use Rattle.explore.specs.States.{ProgramState, after, after_step, begin_of, call_below, chosen, step_at, step_of_thread, thread_of}

-- this answer is a fault
abbrev Refuses : AfterStep → Type 0
Refuses a = (f : Fault) × (a.answer ≡ Err f)

-- ---- a begin

-- a thread that is in no call is out of every fat action
out_of_calls : (w : WorldState) (t : ThreadId) (k : ℕ) (q : Place) → IsSound w → berth_of w.berths t ≡ Some k → place_at w k ≡ q
    → Agrees q (post_of w.fats t)
out_of_calls w t k q sound there at = subst (λ (p : Place). Agrees p (post_of w.fats t)) at (sound.posted t k there)

begin_at : (w : WorldState) (t : ThreadId) (k : ℕ) (c : Call) (q : Place) (p : Post)
    → (q ≡ Idle → p ≡ Out) → may_begin (act_of w.fats p q) ≡ false → Refuses (after_begin_at w k t c q)
begin_at w t k c Idle p out shut = absurd (let o = out refl in let h = rw o at shut in cc)
begin_at w t k c (InCall s) p out shut = (fault.InCall, refl)
begin_at w t k c (Ending n) p out shut = (fault.InCall, refl)
begin_at w t k c AtPost p out shut = (fault.InCall, refl)

begin_on : (w : WorldState) (t : ThreadId) (k : ℕ) (c : Call) (o : Option ObjectId)
    → Refuses (after_begin_at w k t c (place_at w k)) → Refuses (after_begin_on w k t c o)
begin_on w t k c None h = h
begin_on w t k c (Some o) h = by (nat_lt o.0 (length w.words))
  where
    by : (b : Bool) → Refuses (if b then after_begin_at w k t c (place_at w k) else record { answer = Err fault.NoObject; after = w })
    by true = h
    by false = (fault.NoObject, refl)

idle_out : (w : WorldState) (t : ThreadId) (k : ℕ) → IsSound w → berth_of w.berths t ≡ Some k → place_at w k ≡ Idle → post_at w.fats t ≡ Out
idle_out w t k sound there at = ap (λ (o : Option Post). unwrap_or o Out) (out_of_calls w t k Idle sound there at)

begin_closed : (w : WorldState) (t : ThreadId) (k : ℕ) (c : Call) (b : Option ℕ) → IsSound w → berth_of w.berths t ≡ b
    → allows (choice.Begin k) (option_map (λ (x : Thread). x.act) (shown_of w t b)) w.fats.moment ≡ false → Refuses (after_begin w t c b)
begin_closed w t k c None sound there shut = (fault.NoThread, refl)
begin_closed w t k c (Some j) sound there shut =
    begin_on w t j c (object_of c) (begin_at w t j c (place_at w j) (post_at w.fats t) (idle_out w t j sound there) shut)

-- ---- a Go

stage_goes : (s : Stage) → may_go (doing_in s) ≡ true
stage_goes (Begun c b) = refl
stage_goes (Taking o b) = refl
stage_goes (Storing c l) = refl
stage_goes (Binding c n) = refl
stage_goes (Acting c m) = refl
stage_goes (Won o) = refl
stage_goes (Bound c true m) = refl
stage_goes (Bound c false m) = refl
stage_goes (Inflated c m) = refl
stage_goes (Direct c) = refl

collect_at : (w : WorldState) (t : ThreadId) (k : ℕ) (p : Post) → may_go (act_of w.fats p AtPost) ≡ false
    → Refuses (after_collect w k t (collect_outcome w.fats t p).answer (collect_outcome w.fats t p).after)
collect_at w t k Out shut = (fault.Parked, refl)
collect_at w t k (Entering m) shut = (fault.Parked, refl)
collect_at w t k (Waiting m n d) shut = (fault.Parked, refl)
collect_at w t k (Back m n y) shut = (fault.Parked, refl)
collect_at w t k (Granted r) shut = absurd (cc)

go_at : (w : WorldState) (t : ThreadId) (k : ℕ) (q : Place) → Agrees q (post_of w.fats t)
    → may_go (act_of w.fats (post_at w.fats t) q) ≡ false → Refuses (after_go_at true w k t q)
go_at w t k Idle agrees shut = (fault.NotCalling, refl)
go_at w t k (InCall s) agrees shut =
    let out : post_at w.fats t ≡ Out = ap (λ (o : Option Post). unwrap_or o Out) agrees in
    absurd (let h = rw out at shut in let g = stage_goes s in cc)
go_at w t k (Ending n) agrees shut =
    let out : post_at w.fats t ≡ Out = ap (λ (o : Option Post). unwrap_or o Out) agrees in
    absurd (let h = rw out at shut in cc)
go_at w t k AtPost agrees shut = collect_at w t k (post_at w.fats t) shut

go_closed : (w : WorldState) (t : ThreadId) (k : ℕ) (b : Option ℕ) → IsSound w → berth_of w.berths t ≡ b
    → allows (choice.Go k) (option_map (λ (x : Thread). x.act) (shown_of w t b)) w.fats.moment ≡ false → Refuses (after_go true w t b)
go_closed w t k None sound there shut = (fault.NoThread, refl)
go_closed w t k (Some j) sound there shut = go_at w t j (place_at w j) (sound.posted t j there) shut

-- ---- the end of a wait

expire_at : (w : WorldState) (t : ThreadId) (p : Post) (q : Place) → may_expire w.fats.moment (act_of w.fats p q) ≡ false
    → Refuses (after_wait_end_as time_over w t (expire_outcome w.fats t p).answer (expire_outcome w.fats t p).after)
expire_at w t Out q shut = (fault.NotDue, refl)
expire_at w t (Entering m) q shut = (fault.NotDue, refl)
expire_at w t (Waiting m n None) q shut = (fault.NotDue, refl)
expire_at w t (Waiting m n (Some d)) q shut = (fault.NotDue, rw (early (nat_lt w.fats.moment d) shut) refl)
  where
    early : (b : Bool) → not b ≡ false → b ≡ true
    early true h = refl
    early false h = absurd (cc)
expire_at w t (Back m n y) q shut = (fault.NotDue, refl)
expire_at w t (Granted r) q shut = (fault.NotDue, refl)

expire_closed : (w : WorldState) (t : ThreadId) (k : ℕ) (b : Option ℕ)
    → allows (choice.Expire k) (option_map (λ (x : Thread). x.act) (shown_of w t b)) w.fats.moment ≡ false → Refuses (after_wait_end time_over w t b)
expire_closed w t k None shut = (fault.NoThread, refl)
expire_closed w t k (Some j) shut = expire_at w t (post_at w.fats t) (place_at w j) shut

wake_at : (w : WorldState) (t : ThreadId) (p : Post) (q : Place) → may_wake (act_of w.fats p q) ≡ false
    → Refuses (after_wait_end_as wake_up w t (spurious_outcome w.fats t p).answer (spurious_outcome w.fats t p).after)
wake_at w t Out q shut = (fault.NotWaiting, refl)
wake_at w t (Entering m) q shut = (fault.NotWaiting, refl)
wake_at w t (Waiting m n d) q shut = absurd (cc)
wake_at w t (Back m n y) q shut = (fault.NotWaiting, refl)
wake_at w t (Granted r) q shut = (fault.NotWaiting, refl)

wake_closed : (w : WorldState) (t : ThreadId) (k : ℕ) (b : Option ℕ)
    → allows (choice.Spurious k) (option_map (λ (x : Thread). x.act) (shown_of w t b)) w.fats.moment ≡ false → Refuses (after_wait_end wake_up w t b)
wake_closed w t k None shut = (fault.NoThread, refl)
wake_closed w t k (Some j) shut = wake_at w t (post_at w.fats t) (place_at w j) shut

-- ---- a choice

none_after : (s : ProgramState) (c : Choice) (x : Step) → Refuses (step_of true s.world x) → after_step s c (Some x) ≡ None
none_after s c x h = rw h.1 refl

by_thread : (p : Program) (s : ProgramState) (c : Choice) (k : ℕ) (o : Option ℕ) → ((n : ℕ) → after_step s c (step_at p c n) ≡ None)
    → after_step s c (step_of_thread p c k o) ≡ None
by_thread p s c k None h = refl
by_thread p s c k (Some n) h = by (nat_lt k (length p.starts.items))
  where
    by : (b : Bool) → after_step s c (if b then step_at p c n else None) ≡ None
    by true = h n
    by false = refl

begin_after : (s : ProgramState) (k : ℕ) (o : Option Call) → ((c : Call) → Refuses (step_of true s.world (step.Begin (thread_of k) c)))
    → after_step s (choice.Begin k) (begin_of k o) ≡ None
begin_after s k None h = refl
begin_after s k (Some c) h = none_after s (choice.Begin k) (step.Begin (thread_of k) c) (h c)

wake_after : (s : ProgramState) (k : ℕ) (b : Bool) → Refuses (step_of true s.world (step.Spurious (thread_of k)))
    → after_step s (choice.Spurious k) (if b then Some (step.Spurious (thread_of k)) else None) ≡ None
wake_after s k true h = none_after s (choice.Spurious k) (step.Spurious (thread_of k)) h
wake_after s k false h = refl

tick_allowed : (o : Option Doing) (now : ℕ) → allows choice.Tick o now ≡ true
tick_allowed None now = refl
tick_allowed (Some d) now = refl

pub closed : (p : Program) (s : ProgramState) (c : Choice) → IsSound s.world
    → allows c (doing_at s.world (thread_of (chosen c))) s.world.fats.moment ≡ false → after p s c ≡ None
closed p s (choice.Begin k) sound shut =
    let t : ThreadId = thread_of k in
    by_thread p s (choice.Begin k) k (slice_get s.nexts k)
    (λ n. begin_after s k (call_below p k n) (λ c. begin_closed s.world t k c (berth_of s.world.berths t) sound refl shut))
closed p s (choice.Go k) sound shut =
    let t : ThreadId = thread_of k in
    by_thread p s (choice.Go k) k (slice_get s.nexts k)
    (λ n. none_after s (choice.Go k) (step.Go t) (go_closed s.world t k (berth_of s.world.berths t) sound refl shut))
closed p s (choice.Expire k) sound shut =
    let t : ThreadId = thread_of k in
    by_thread p s (choice.Expire k) k (slice_get s.nexts k)
    (λ n. none_after s (choice.Expire k) (step.Expire t) (expire_closed s.world t k (berth_of s.world.berths t) shut))
closed p s (choice.Spurious k) sound shut =
    let t : ThreadId = thread_of k in
    by_thread p s (choice.Spurious k) k (slice_get s.nexts k)
    (λ n. wake_after s k p.spurious (wake_closed s.world t k (berth_of s.world.berths t) shut))
closed p s choice.Tick sound shut = absurd (let yes = tick_allowed (doing_at s.world (thread_of 0)) s.world.fats.moment in cc)
