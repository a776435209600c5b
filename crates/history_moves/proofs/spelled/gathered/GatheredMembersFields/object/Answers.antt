use Rattle.history_moves.proofs.GatheredLaws.{object_in}
use Rattle.history_moves.proofs.spelled.gathered.GatheredMembersFields.object.Goals as goal

pub returns : goal.returns
returns c = object_in c.args.self.now
