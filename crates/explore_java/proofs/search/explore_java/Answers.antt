use Rattle.std.proofs.Common.{rules}
use Rattle.explore_java.proofs.search.explore_java.Goals as goal

pub returns-clause-reason : goal.returns-clause-reason
returns-clause-reason c = search rules
