use Rattle.std.proofs.Common.{rules}
use Rattle.history_check.specs.Behind.{state_of}
use Rattle.history_check.proofs.checks.judge.Goals as goal

pub returns-in-Err-Broken-clause-ok : goal.returns-in-Err-Broken-clause-ok
unfolding state_of
returns-in-Err-Broken-clause-ok c = search rules
