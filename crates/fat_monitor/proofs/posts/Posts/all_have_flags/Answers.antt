use Rattle.std.proofs.Common.{false}
use Rattle.fat_monitor.specs.declared.actions.Post.TheVariants.{Out}
use Rattle.fat_monitor.proofs.PostMaps.{same_threads}
use Rattle.fat_monitor.proofs.posts.Posts.all_have_flags.Goals as goal

pub returns : goal.returns
returns c =
    rw (← c.self.view_is) (same_threads (λ r. r.flag) false (λ r. r.post) Out c.self.inside.records c.self.inside.keys.entries)
