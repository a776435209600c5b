use Rattle.std.proofs.Common.{sym, ◌∙◌}
use Rattle.fat_monitor.proofs.PostMaps.{len-posts}
use Rattle.fat_monitor.proofs.posts.Posts.len.Goals as goal

pub returns : goal.returns
returns c =
    rw (← c.self.view_is) (c.len.ensures.len ∙ sym (len-posts c.self.inside.records c.self.inside.keys.entries c.len.ensures.unique))
