use Rattle.explore.proofs.StateCodes.{states_apart}
use Rattle.explore.proofs.codes.codes_tell_states_apart.Goals as goal

pub returns : goal.returns
returns c = states_apart c.numbers_tell_replies_apart.ensures c.numbers_tell_worlds_apart.ensures
