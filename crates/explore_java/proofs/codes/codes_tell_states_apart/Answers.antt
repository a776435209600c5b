use Rattle.explore_java.proofs.Coding.{states_apart}
use Rattle.explore_java.proofs.codes.codes_tell_states_apart.Goals as goal

pub returns : goal.returns
returns c = states_apart c.numbers_tell_replies_apart.ensures c.numbers_tell_machines_apart.ensures
