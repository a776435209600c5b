use Rattle.std.proofs.Common.{arith, refl, rules}
use Rattle.fat_monitor.specs.FatState.{wait_count}
use Rattle.fat_monitor.specs.Slots.{posts_in}
use Rattle.fat_monitor.proofs.WaitCounts.{counts-le}
use Rattle.fat_monitor.proofs.posts.Posts.new.Goals as goal

pub invariant_of-result : goal.invariant_of-result
invariant_of-result c =
    let most = counts-le c.new.result c.new-2.result.entries (wait_count (posts_in c.new.result c.new-2.result.entries)) refl c.new-2.ensures.unique in
    let none = c.new-2.ensures.len in
    (search rules, search rules, omega arith)
