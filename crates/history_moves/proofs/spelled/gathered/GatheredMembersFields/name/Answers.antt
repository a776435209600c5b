use Rattle.history_moves.proofs.GatheredLaws.{name_in}
use Rattle.history_moves.proofs.spelled.gathered.GatheredMembersFields.name.Goals as goal

pub returns : goal.returns
returns c = name_in c.args.self.now
