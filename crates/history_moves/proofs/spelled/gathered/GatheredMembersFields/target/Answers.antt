use Rattle.history_moves.proofs.GatheredLaws.{target_in}
use Rattle.history_moves.proofs.spelled.gathered.GatheredMembersFields.target.Goals as goal

pub returns : goal.returns
returns c = target_in c.args.self.now
