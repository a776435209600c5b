use Rattle.history_moves.proofs.GatheredLaws.{reply_in}
use Rattle.history_moves.proofs.spelled.gathered.GatheredMembersFields.reply.Goals as goal

pub returns : goal.returns
returns c = reply_in c.args.self.now
