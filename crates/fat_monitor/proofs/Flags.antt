-- The interrupt flags after an action.
use Rattle.std.specs.Prelude.{◌≡◌, ◌≢◌, ℕ, ◌==◌, Bool, false, Option, Some, IsSome, List, [], ◌∷◌}
use Rattle.std.specs.Option.{unwrap_or}
use Rattle.std.specs.FinMap as map
use Rattle.std.proofs.Common.{refl, ap, ◌∙◌}
use Rattle.std.proofs.lemmas.Bool.{eq-eqb, ne_eqb, cond-true, cond-false}
use Rattle.lock_word.specs.declared.ThreadId.{ThreadId}
use Rattle.wait_lines.proofs.ThreadLemmas.{same_thread}
use Rattle.fat_monitor.specs.declared.actions.Post.{Post}
use Rattle.fat_monitor.specs.declared.actions.Post.TheVariants.{Out, Entering, Waiting, Back, Granted}
use Rattle.fat_monitor.specs.declared.actions.Why.TheVariants.{Notified, Interrupted, Elapsed, Spurious}
use Rattle.wait_lines.specs.declared.Role.TheVariants.{Waiting as WaitSet}
use Rattle.fat_monitor.specs.declared.actions.Why.{Why}
use Rattle.fat_monitor.specs.FatState.{FatState, IsSound, monitor_at, post_at, line_of, flag_at, with_flag}
use Rattle.fat_monitor.specs.Acting.{after_settling, after_removals}
use Rattle.fat_monitor.proofs.SoundGrants.{after_settling-is}
use Rattle.fat_monitor.proofs.WaitSets.{queued, all_queued, wait_set-queued}
use Rattle.fat_monitor.proofs.PostMaps.{get-insert_by}

pub flag-with_flag_same : (f : FatState) (t : ThreadId) (b : Bool) → flag_at (with_flag f t b) t ≡ b
flag-with_flag_same f t b =
    ap (λ (o : Option Bool). unwrap_or o false) (get-insert_by f.flags t.0 b t.0 ∙ cond-true (t.0 == t.0) (Some b) (map.get f.flags t.0) (eq-eqb t.0 t.0 refl))

pub flag-with_flag_other : (f : FatState) (t u : ThreadId) (b : Bool) → u ≢ t → flag_at (with_flag f t b) u ≡ flag_at f u
flag-with_flag_other f t u b other =
    ap (λ (o : Option Bool). unwrap_or o false)
    (get-insert_by f.flags t.0 b u.0 ∙ cond-false (u.0 == t.0) (Some b) (map.get f.flags u.0) (ne_eqb u.0 t.0 (λ e. other (same_thread t u e))))

-- the flag of a thread whose wait is settled
abbrev pub settled_flag : Post → Bool → Bool
settled_flag (Back m n Interrupted) flag = false
settled_flag (Back m n Notified) flag = flag
settled_flag (Back m n Elapsed) flag = flag
settled_flag (Back m n Spurious) flag = flag
settled_flag Out flag = flag
settled_flag (Entering m) flag = flag
settled_flag (Waiting m n d) flag = flag
settled_flag (Granted r) flag = flag

pub flag-after_settling_same : (f : FatState) (u : ThreadId) (p : Post) → flag_at (after_settling f u p) u ≡ settled_flag p (flag_at f u)
flag-after_settling_same f u Out = refl
flag-after_settling_same f u (Entering m) = refl
flag-after_settling_same f u (Waiting m n d) = refl
flag-after_settling_same f u (Back m n Notified) = refl
flag-after_settling_same f u (Back m n Interrupted) = flag-with_flag_same f u false
flag-after_settling_same f u (Back m n Elapsed) = refl
flag-after_settling_same f u (Back m n Spurious) = refl
flag-after_settling_same f u (Granted r) = refl

pub flag-after_settling_other : (f : FatState) (u v : ThreadId) (p : Post) → v ≢ u → flag_at (after_settling f u p) v ≡ flag_at f v
flag-after_settling_other f u v Out other = refl
flag-after_settling_other f u v (Entering m) other = refl
flag-after_settling_other f u v (Waiting m n d) other = refl
flag-after_settling_other f u v (Back m n Notified) other = refl
flag-after_settling_other f u v (Back m n Interrupted) other = flag-with_flag_other f u v false other
flag-after_settling_other f u v (Back m n Elapsed) other = refl
flag-after_settling_other f u v (Back m n Spurious) other = refl
flag-after_settling_other f u v (Granted r) other = refl

pub threads-after_settling : (f : FatState) (u : ThreadId) (p : Post) → (after_settling f u p).threads ≡ f.threads
threads-after_settling f u p = ap (λ (g : FatState). g.threads) (after_settling-is f u p)

-- a notifyAll of a monitor with an owner changes no flag
flags-queued : (f : FatState) (u : ThreadId) (w : Why) (p : Post) → (queued f u w p).flags ≡ f.flags
flags-queued f u w Out = refl
flags-queued f u w (Entering m) = refl
flags-queued f u w (Waiting m n d) = refl
flags-queued f u w (Back m n x) = refl
flags-queued f u w (Granted r) = refl

flags-all_queued : (f : FatState) (us : List ThreadId) → (all_queued f us).flags ≡ f.flags
flags-all_queued f [] = refl
flags-all_queued f (u ∷ us) = flags-all_queued (queued f u Notified (post_at f u)) us ∙ flags-queued f u Notified (post_at f u)

pub flags-after_removals : (f : FatState) (m : ℕ) → IsSound f → IsSome (monitor_at f m).owner → (after_removals f (line_of f m WaitSet)).flags ≡ f.flags
flags-after_removals f m sound owned = ap (λ (g : FatState). g.flags) (wait_set-queued f m sound owned) ∙ flags-all_queued f (line_of f m WaitSet)
