use Rattle.std.proofs.Common.{sym, ap, ℕ, Option, is_some}
use Rattle.fat_monitor.proofs.PostMaps.{not_posted, value-values_of}
use Rattle.fat_monitor.proofs.posts.Posts.node.Goals as goal

pub unreachable-requires : goal.unreachable-requires
unreachable-requires c =
    not_posted c.self.inside.records c.self.inside.keys.entries c.args.thread.0 (ap (λ (o : Option ℕ). is_some o) (sym c.in_default.ensures)) (rw (← c.self.view_is) at c.requires)

pub returns : goal.returns
returns c =
    rw (← c.self.view_is) (
    value-values_of (λ r. r.node.0) 0 c.self.inside.records c.self.inside.keys.entries c.args.thread.0 c.in-Some.key c.in-Some-get.record.now (sym c.in-Some.ensures) (sym c.in-Some-get.ensures))
