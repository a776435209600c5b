use Rattle.std.proofs.Common.{rules}
use Rattle.history_check.proofs.checks.Check.take_line.Goals as goal

pub returns-in_err-judge-clause-fault : goal.returns-in_err-judge-clause-fault
returns-in_err-judge-clause-fault c = search rules

pub returns-clause-small : goal.returns-clause-small
returns-clause-small c = search rules
