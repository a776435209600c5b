-- What a Go changes of the shown state.
use Rattle.std.specs.Prelude.{◌≡◌, ◌⊎◌, ℕ, ◌<◌, Bool, if◌then◌else◌, ◌==◌, length, Option, Some, None}
use Rattle.std.proofs.Common.{refl, ap, sym, ◌∙◌, inl, inr, get_or-set_same, get_or-set_other}
use Rattle.std.proofs.Math.Path.{fun_ext}
use Rattle.std.proofs.lemmas.Bool.{cases_eq, eq-eqb, ne_eqb}
use Rattle.std.proofs.lemmas.Option.{same_Some}
use Rattle.lock_word.specs.declared.ThreadId.{ThreadId}
use Rattle.lock_word.specs.declared.ObjectId.{ObjectId}
use Rattle.std.specs.Option.{unwrap_or}
use Rattle.fat_monitor.specs.declared.actions.Post.{Post}
use Rattle.fat_monitor.specs.declared.actions.Post.TheVariants.{Out, Entering, Waiting, Back, Granted}
use Rattle.fat_monitor.specs.FatState.{FatState, monitor_at, post_of, post_at, flag_at, IsProper}
use Rattle.fat_monitor.specs.FatState as fat
use Rattle.fast_path.specs.declared.calls.Call.TheVariants.{Enter}
use Rattle.step_core.specs.declared.machine.Doing.{Doing}
use Rattle.step_core.specs.declared.machine.Doing.TheVariants as doing
use Rattle.step_core.specs.declared.places.Place.{Place}
use Rattle.step_core.specs.declared.places.Place.TheVariants.{Idle}
use Rattle.step_core.specs.Machine.{Thread, Monitor, with_monitor, now_is}
use Rattle.step_core.specs.World.{WorldState, lock_at, place_at}
use Rattle.step_core.specs.Shown.{shown, thread_of, monitor_of, act_of}
use Rattle.step_core.specs.Go.{AfterGo, with_go}
use Rattle.thread_index.specs.Indices.{berth_of}
use Rattle.thread_index.proofs.Berths.{berth_thread, berth_same}

-- a thread that is interrupted or not, and does this
abbrev pub does : Bool → Doing → Thread
does flag d = record { flag = flag; act = d }

-- what a thread shows with this fat state, at this place in its call
abbrev pub thread_in : FatState → ThreadId → Place → Thread
thread_in f u p = does (flag_at f u) (act_of f (post_at f u) p)

-- a thread shows the same with these two fat states, wherever it stands in its call
abbrev pub ActsAlike : FatState → FatState → ThreadId → Type 0
ActsAlike f g u = (p : Place) → thread_in g u p ≡ thread_in f u p

-- every post is proper, and that of a thread that is not attached too
pub proper_at : (f : FatState) (u : ThreadId) → fat.IsSound f → IsProper f (post_at f u)
proper_at f u sound = by_post (post_of f u) refl
  where
    by_post : (o : Option Post) → post_of f u ≡ o → IsProper f (unwrap_or o Out)
    by_post None e = tt
    by_post (Some p) e = sound.proper u p e

-- a thread shows the same where its flag and its post stay, and so do the objects of the bound monitors
pub acts_alike : (f g : FatState) (u : ThreadId) → fat.IsSound f → flag_at g u ≡ flag_at f u → post_at g u ≡ post_at f u
    → ((m : ℕ) → m < length f.monitors → (monitor_at g m).object ≡ (monitor_at f m).object) → ActsAlike f g u
acts_alike f g u sound flag post objects p = rw (flag, post) (ap (λ (d : Doing). does (flag_at f u) d) (by_post (post_at f u) (proper_at f u sound)))
  where
    by_post : (x : Post) → IsProper f x → act_of g x p ≡ act_of f x p
    by_post Out h = refl
    by_post (Entering m) h = ap (λ (o : ObjectId). doing.Wants (Enter o)) (objects m h)
    by_post (Waiting m n d) h = ap (λ (o : ObjectId). doing.Waits o n d) (objects m h.0)
    by_post (Back m n w) h = ap (λ (o : ObjectId). doing.Back o n w) (objects m h.0)
    by_post (Granted r) h = refl

-- a berth that is written shows what was written, and another berth what it showed
thread_at_berth : (w : WorldState) (k : ℕ) (t : ThreadId) (a : AfterGo) (flag : Bool) (d : Doing) → berth_of w.berths t ≡ Some k → k < length w.places
    → thread_in a.fats t a.place ≡ does flag d → ((u : ThreadId) → (u.0 ≡ t.0 → ⊥) → ActsAlike w.fats a.fats u)
    → (u : ThreadId) (o : Option ℕ) → berth_of w.berths u ≡ o → (u.0 ≡ t.0) ⊎ (u.0 ≡ t.0 → ⊥)
    → thread_of (with_go w k a) u o ≡ (if u.0 == t.0 then Some (does flag d) else thread_of w u o)
thread_at_berth w k t a flag d berth within own others u None e (inl same) = let b : berth_of w.berths u ≡ Some k = berth_same w.berths t u same ∙ berth in absurd (cc)
thread_at_berth w k t a flag d berth within own others u None e (inr ne) = rw (ne_eqb u.0 t.0 ne) refl
thread_at_berth w k t a flag d berth within own others u (Some j) e (inl same) =
    let b : k ≡ j = same_Some k j (sym (berth_same w.berths t u same ∙ berth) ∙ e) in
    rw (eq-eqb u.0 t.0 same, ← b, get_or-set_same w.places k a.place Idle within, same) (ap (λ (x : Thread). Some x) own)
thread_at_berth w k t a flag d berth within own others u (Some j) e (inr ne) =
    let other : j ≡ k → ⊥ = λ b. ne (berth_thread w.berths t u k berth (rw b at e)) in
    rw (ne_eqb u.0 t.0 ne, get_or-set_other w.places k j a.place Idle other) (ap (λ (x : Thread). Some x) (others u ne (place_at w j)))

module _ (w : WorldState) (k : ℕ) (t : ThreadId) (a : AfterGo) (flag : Bool) (d : Doing) (berth : berth_of w.berths t ≡ Some k) (within : k < length w.places)
    (size : length a.words ≡ length w.words)
    (moment : a.fats.moment ≡ w.fats.moment)
    (own : thread_in a.fats t a.place ≡ does flag d)
    (others : (u : ThreadId) → (u.0 ≡ t.0 → ⊥) → ActsAlike w.fats a.fats u) where
  -- A Go changes the shown state at its own thread, and at the monitor of one object.
  pub shown_changed : (o : ObjectId) (m : Monitor)
      → ((p : ObjectId) → monitor_of (with_go w k a) (lock_at (with_go w k a) p.0) ≡ (if p.0 == o.0 then m else monitor_of w (lock_at w p.0)))
      → shown (with_go w k a) ≡ with_monitor (now_is (shown w) t flag d) o m
  shown_changed o m monitors =
      let threads : (shown (with_go w k a)).thread ≡ (now_is (shown w) t flag d).thread =
      fun_ext (λ u. thread_at_berth w k t a flag d berth within own others u (berth_of w.berths u) refl (cases_eq u.0 t.0)) in
      let all : (shown (with_go w k a)).monitor ≡ (with_monitor (shown w) o m).monitor = fun_ext monitors in
      λ i. record { thread = threads i; objects = size i; monitor = all i; moment = moment i }

  -- A Go that changes no monitor changes the shown state at its own thread alone.
  pub shown_kept : ((p : ObjectId) → monitor_of (with_go w k a) (lock_at (with_go w k a) p.0) ≡ monitor_of w (lock_at w p.0))
      → shown (with_go w k a) ≡ now_is (shown w) t flag d
  shown_kept monitors =
      let threads : (shown (with_go w k a)).thread ≡ (now_is (shown w) t flag d).thread =
      fun_ext (λ u. thread_at_berth w k t a flag d berth within own others u (berth_of w.berths u) refl (cases_eq u.0 t.0)) in
      let all : (shown (with_go w k a)).monitor ≡ (shown w).monitor = fun_ext monitors in
      λ i. record { thread = threads i; objects = size i; monitor = all i; moment = moment i }
