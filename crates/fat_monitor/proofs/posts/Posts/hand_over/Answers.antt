use Rattle.std.proofs.Common.{arith}
use Rattle.fat_monitor.proofs.OwnedCounts.{count-one_less-le}
use Rattle.fat_monitor.proofs.posts.Posts.hand_over.Goals as goal

pub count_one_more-requires-clause-few : goal.count_one_more-requires-clause-few
count_one_more-requires-clause-few c t e =
    let lower = count-one_less-le c.args.self.now.owned c.args.from t in let few = c.requires.few t e in rw (c.count_one_less.ensures) (omega arith)
