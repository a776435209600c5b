use Rattle.std.proofs.Common.{ℕ, ◌==◌, not, ap, ◌∙◌}
use Rattle.std.proofs.Math.Bool.{not-not}
use Rattle.fat_monitor.specs.FatState.{owns_one}
use Rattle.fat_monitor.proofs.OwnedCounts.{owns_one-count}
use Rattle.fat_monitor.proofs.monitors.Fats.owns_one.Goals as goal

pub returns : goal.returns
returns c =
    rw (← c.self.view_is) (
    ap (λ (n : ℕ). not (n == 0)) (c.owned.ensures.count ∙ c.self.invariant.counted c.args.thread)
    ∙ ap not (owns_one-count c.self.inside.monitors.items c.args.thread) ∙ not-not (owns_one c.self.inside.monitors.items c.args.thread))
