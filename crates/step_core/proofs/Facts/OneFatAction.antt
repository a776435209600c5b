-- What a world shows after a fat action, thread by thread and monitor by monitor.
use Rattle.std.specs.Prelude.{◌≡◌, ℕ, true, ◌==◌, length, Option, Some, None, IsSome}
use Rattle.std.specs.Option.{option_map, unwrap_or}
use Rattle.std.proofs.Common.{refl, ap, sym, ◌∙◌, get_or-set_same, get_or-set_other}
use Rattle.std.proofs.Math.Path.{fun_ext}
use Rattle.std.proofs.lemmas.Bool.{eqb-true}
use Rattle.lock_word.specs.declared.ThreadId.{ThreadId}
use Rattle.lock_word.specs.declared.ObjectId.{ObjectId}
use Rattle.thread_index.specs.Indices.{berth_of}
use Rattle.thread_index.proofs.Berths.{berth_thread}
use Rattle.fat_monitor.specs.declared.monitors.Monitor as fat
use Rattle.fat_monitor.specs.declared.actions.Post.{Post}
use Rattle.fat_monitor.specs.declared.actions.Post.TheVariants.{Out}
use Rattle.fat_monitor.specs.FatState.{FatState, post_of, post_at}
use Rattle.step_core.specs.declared.places.Place.{Place}
use Rattle.step_core.specs.declared.places.Place.TheVariants.{Idle}
use Rattle.step_core.specs.declared.steps.Did.{Did}
use Rattle.step_core.specs.Machine.{State, Thread, Monitor}
use Rattle.step_core.specs.World.{WorldState, place_at, lock_at}
use Rattle.step_core.specs.Shown.{shown, monitor_of, thread_of}
use Rattle.step_core.specs.Sound.{IsSound}
use Rattle.step_core.specs.Go.{with_go, fats_changed}
use Rattle.step_core.proofs.Facts.ShownStates.{ActsAlike, thread_in}
use Rattle.step_core.proofs.Facts.OneThread.{within}

-- threads with one number are one thread
pub same_thread : (u t : ThreadId) → (u.0 == t.0) ≡ true → u ≡ t
same_thread u t e = ap (λ (n : ℕ). let x : ThreadId = record { 0 = n } in x) (eqb-true u.0 t.0 e)

pub one_thread : (u t : ThreadId) → u.0 ≡ t.0 → u ≡ t
one_thread u t e = ap (λ (n : ℕ). let x : ThreadId = record { 0 = n } in x) e

-- what the machine sees of a fat monitor
abbrev pub seen : fat.Monitor → Monitor
seen b = record { owner = b.owner; count = b.holds }

-- the post of a thread reads the same where it is the same
pub same_post : (f g : FatState) (u : ThreadId) → post_of g u ≡ post_of f u → post_at g u ≡ post_at f u
same_post f g u e = ap (λ (o : Option Post). unwrap_or o Out) e

pub post_is : (f : FatState) (u : ThreadId) (p : Post) → post_of f u ≡ Some p → post_at f u ≡ p
post_is f u p e = ap (λ (o : Option Post). unwrap_or o Out) e

module _ (w : WorldState) (sound : IsSound w) (k : ℕ) (t : ThreadId) (berth : berth_of w.berths t ≡ Some k) where
  -- a fat action shows what its fat state shows
  module _ (g : FatState) (p : Place) (did : Did) where
    abbrev pub turned : WorldState
    turned = with_go w k (fats_changed w g p did)

    pub own_thread : (x : Thread) → thread_in g t p ≡ x → (v : ThreadId) → v.0 ≡ t.0 → thread_of turned v (berth_of w.berths v) ≡ Some x
    own_thread x e v same =
        rw (one_thread v t same, berth, get_or-set_same w.places k p Idle (within w sound k t berth)) (ap (λ (y : Thread). Some y) e)

    pub by_berth : (v : ThreadId) → (v.0 ≡ t.0 → ⊥) → (o : Option ℕ) → berth_of w.berths v ≡ o
        → thread_of turned v o ≡ option_map (λ (j : ℕ). thread_in g v (place_at w j)) o
    by_berth v ne None e = refl
    by_berth v ne (Some j) e =
        let other : j ≡ k → ⊥ = λ same. ne (berth_thread w.berths t v k berth (rw same at e)) in
        rw (get_or-set_other w.places k j p Idle other) refl

    -- another thread that shows the same, and one that shows this
    pub kept_thread : (v : ThreadId) → (v.0 ≡ t.0 → ⊥) → ActsAlike w.fats g v → thread_of turned v (berth_of w.berths v) ≡ (shown w).thread v
    kept_thread v ne alike = by_berth v ne (berth_of w.berths v) refl ∙ at_one (berth_of w.berths v)
      where
        at_one : (o : Option ℕ) → option_map (λ (j : ℕ). thread_in g v (place_at w j)) o ≡ thread_of w v o
        at_one None = refl
        at_one (Some j) = ap (λ (x : Thread). Some x) (alike (place_at w j))

    pub given_thread : (v : ThreadId) (x : Thread) → (v.0 ≡ t.0 → ⊥) → IsSome (berth_of w.berths v) → ((q : Place) → thread_in g v q ≡ x)
        → thread_of turned v (berth_of w.berths v) ≡ Some x
    given_thread v x ne live acts = by_berth v ne (berth_of w.berths v) refl ∙ at_one (berth_of w.berths v) live
      where
        at_one : (o : Option ℕ) → IsSome o → option_map (λ (j : ℕ). thread_in g v (place_at w j)) o ≡ Some x
        at_one None h = absurd (cc)
        at_one (Some j) h = ap (λ (y : Thread). Some y) (acts (place_at w j))

    -- the state that is shown then
    pub shown_turned : (s : State) → s.objects ≡ length w.words → s.moment ≡ g.moment
        → ((v : ThreadId) → thread_of turned v (berth_of w.berths v) ≡ s.thread v)
        → ((q : ObjectId) → monitor_of turned (lock_at w q.0) ≡ s.monitor q)
        → shown turned ≡ s
    shown_turned s objects moment threads monitors =
        let ts = fun_ext threads in
        let ms = fun_ext monitors in
        λ i. record { thread = ts i; objects = sym objects i; monitor = ms i; moment = sym moment i }
