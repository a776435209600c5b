use Rattle.std.proofs.Common.{sym, ap, Option, ℕ, is_some}
use Rattle.std.specs.Option.{unwrap_or}
use Rattle.fat_monitor.specs.declared.actions.Post.TheVariants.{Out}
use Rattle.fat_monitor.proofs.PostMaps.{value-values_of, no_value-values_of, valued}
use Rattle.fat_monitor.proofs.posts.Posts.owned.Goals as goal

pub returns-in_default-clause-count : goal.returns-in_default-clause-count
returns-in_default-clause-count c =
    rw (← c.self.view_is) (
    ap (λ (o : Option ℕ). unwrap_or o 0) (sym (no_value-values_of (λ r. r.owned) 0 c.self.inside.records c.self.inside.keys.entries c.args.thread.0 (sym c.in_default.ensures))))

pub returns-clause-count : goal.returns-clause-count
returns-clause-count c =
    rw (← c.self.view_is) (
    ap (λ (o : Option ℕ). unwrap_or o 0)
    (sym (value-values_of (λ r. r.owned) 0 c.self.inside.records c.self.inside.keys.entries c.args.thread.0 c.in-Some.key c.in-Some-get.record.now (sym c.in-Some.ensures) (sym c.in-Some-get.ensures))))

pub returns-clause-attached : goal.returns-clause-attached
returns-clause-attached c more =
    rw (← c.self.view_is) (
    valued (λ r. r.post) Out c.self.inside.records c.self.inside.keys.entries c.args.thread.0 (ap (λ (o : Option ℕ). is_some o) (sym c.in-Some.ensures)))
