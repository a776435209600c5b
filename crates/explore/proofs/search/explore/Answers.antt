use Rattle.std.proofs.Common.{rules}
use Rattle.explore.proofs.search.explore.Goals as goal

pub returns-clause-reason : goal.returns-clause-reason
returns-clause-reason c = search rules
