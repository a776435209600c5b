use Rattle.history_moves.proofs.GatheredLaws.{cause_in}
use Rattle.history_moves.proofs.spelled.gathered.GatheredMembersFields.cause.Goals as goal

pub returns : goal.returns
returns c = cause_in c.args.self.now
