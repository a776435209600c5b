use Rattle.jls_check.proofs.Apart.{machines_apart}
use Rattle.jls_check.proofs.numbers.numbers_tell_machines_apart.Goals as goal

pub returns : goal.returns
returns c = machines_apart
