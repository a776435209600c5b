use Rattle.std.proofs.Common.{sym, ap, false, Option, Bool}
use Rattle.std.specs.Option.{unwrap_or}
use Rattle.fat_monitor.proofs.PostMaps.{value-values_of, no_value-values_of}
use Rattle.fat_monitor.proofs.posts.Posts.flag.Goals as goal

pub returns-in_default : goal.returns-in_default
returns-in_default c =
    rw (← c.self.view_is) (
    ap (λ (o : Option Bool). unwrap_or o false) (sym (no_value-values_of (λ r. r.flag) false c.self.inside.records c.self.inside.keys.entries c.args.thread.0 (sym c.in_default.ensures))))

pub returns : goal.returns
returns c =
    rw (← c.self.view_is) (
    ap (λ (o : Option Bool). unwrap_or o false)
    (sym (value-values_of (λ r. r.flag) false c.self.inside.records c.self.inside.keys.entries c.args.thread.0 c.in-Some.key c.in-Some-get.record.now (sym c.in-Some.ensures) (sym c.in-Some-get.ensures))))
