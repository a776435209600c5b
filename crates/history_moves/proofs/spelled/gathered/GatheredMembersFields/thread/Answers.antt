use Rattle.history_moves.proofs.GatheredLaws.{thread_in}
use Rattle.history_moves.proofs.spelled.gathered.GatheredMembersFields.thread.Goals as goal

pub returns : goal.returns
returns c = thread_in c.args.self.now
