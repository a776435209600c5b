-- What a grant of a monitor leaves of a fat state.
use Rattle.std.specs.Prelude.{◌≡◌, ◌≢◌, ℕ, List, slice_set, get_or, Some}
use Rattle.std.specs.Ordering.{nat_cmp}
use Rattle.std.specs.FinMap as map
use Rattle.std.proofs.Common.{ap, ◌∙◌}
use Rattle.lock_word.specs.declared.ThreadId.{ThreadId}
use Rattle.wait_lines.specs.declared.Role.{Role}
use Rattle.fat_monitor.specs.declared.monitors.Monitor.{Monitor}
use Rattle.fat_monitor.specs.declared.actions.Post.{Post}
use Rattle.fat_monitor.specs.declared.actions.Post.TheVariants.{Granted}
use Rattle.fat_monitor.specs.FatState.{FatState, unbound, post_of, flag_at, with_owner}
use Rattle.fat_monitor.specs.Acting.{after_grant, after_settling, holds_granted, reply_granted}
use Rattle.fat_monitor.proofs.Effects.{post-with_post_same, post-with_post_other}
use Rattle.fat_monitor.proofs.MonitorEffects.{monitors-after_settling, moment-after_settling}
use Rattle.fat_monitor.proofs.Flags.{settled_flag, flag-after_settling_same, flag-after_settling_other, threads-after_settling}

module _ (f : FatState) (m : ℕ) (u : ThreadId) (p : Post) (r : Role) where
  -- the monitor is u's, and the others stay
  pub monitors-after_grant : (after_grant f m u p r).monitors ≡ (with_owner f m (Some u) (holds_granted p)).monitors
  monitors-after_grant =
      ap (λ (xs : List Monitor). slice_set xs m (record (get_or xs m unbound) { owner = Some u; holds = holds_granted p })) (monitors-after_settling f u p)

  -- u has its reply, and every other thread its post
  pub post-after_grant_same : post_of (after_grant f m u p r) u ≡ Some (Granted (reply_granted p))
  post-after_grant_same = post-with_post_same (with_owner (after_settling f u p) m (Some u) (holds_granted p)) u (Granted (reply_granted p))

  pub post-after_grant_other : (v : ThreadId) → v ≢ u → post_of (after_grant f m u p r) v ≡ post_of f v
  post-after_grant_other v other =
      post-with_post_other (with_owner (after_settling f u p) m (Some u) (holds_granted p)) u v (Granted (reply_granted p)) other
      ∙ ap (λ (ts : map.FinMap nat_cmp Post). map.get ts v.0) (threads-after_settling f u p)

  -- an interrupt that ended the wait of u is forgotten, and every other flag stays
  pub flag-after_grant_same : flag_at (after_grant f m u p r) u ≡ settled_flag p (flag_at f u)
  flag-after_grant_same = flag-after_settling_same f u p

  pub flag-after_grant_other : (v : ThreadId) → v ≢ u → flag_at (after_grant f m u p r) v ≡ flag_at f v
  flag-after_grant_other v other = flag-after_settling_other f u v p other

  -- the moment stays
  pub moment-after_grant : (after_grant f m u p r).moment ≡ f.moment
  moment-after_grant = moment-after_settling f u p
