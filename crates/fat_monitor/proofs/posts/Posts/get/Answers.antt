use Rattle.std.proofs.Common.{sym, ◌∙◌}
use Rattle.fat_monitor.specs.declared.actions.Post.TheVariants.{Out}
use Rattle.fat_monitor.proofs.PostMaps.{value-values_of, no_value-values_of}
use Rattle.fat_monitor.proofs.posts.Posts.get.Goals as goal

pub returns-in_err-key : goal.returns-in_err-key
returns-in_err-key c =
    rw (← c.self.view_is) (
    c.from_residual.ensures ∙ sym (no_value-values_of (λ r. r.post) Out c.self.inside.records c.self.inside.keys.entries c.args.thread.0 (sym c.in_err-key.ensures)))

pub returns : goal.returns
returns c =
    rw (← c.self.view_is) (
    sym (value-values_of (λ r. r.post) Out c.self.inside.records c.self.inside.keys.entries c.args.thread.0 c.in_ok-key.key c.in_ok-record.record.now (sym c.in_ok-key.ensures) (sym c.in_ok-record.ensures)))
