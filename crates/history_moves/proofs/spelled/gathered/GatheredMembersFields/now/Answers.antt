use Rattle.history_moves.proofs.GatheredLaws.{now_in}
use Rattle.history_moves.proofs.spelled.gathered.GatheredMembersFields.now.Goals as goal

pub returns : goal.returns
returns c = now_in c.args.self.now
