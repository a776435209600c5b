use Rattle.std.proofs.Common.{rules}
use Rattle.history_check.proofs.checks.Check.add.Goals as goal

pub returns-clause-small : goal.returns-clause-small
returns-clause-small c = search rules
