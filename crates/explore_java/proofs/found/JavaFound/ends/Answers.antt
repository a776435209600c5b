use Rattle.std.proofs.Common.{rules}
use Rattle.explore_java.proofs.found.JavaFound.ends.Goals as goal

pub returns : goal.returns
returns c = search rules
