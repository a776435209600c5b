use Rattle.std.proofs.Common.{rules}
use Rattle.fast_path.proofs.decide.Goals as goal

pub returns : goal.returns
returns c = search rules
