use Rattle.history_moves.proofs.GatheredLaws.{verb_in}
use Rattle.history_moves.proofs.spelled.gathered.GatheredMembersFields.verb.Goals as goal

pub returns : goal.returns
returns c = verb_in c.args.self.now
