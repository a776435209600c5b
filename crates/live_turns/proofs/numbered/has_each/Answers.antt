use Rattle.std.proofs.Common.{arith, rules}
use Rattle.std.proofs.lemmas.Grind.{common_steps}
use Rattle.live_turns.proofs.numbered.has_each.Goals as goal

pub returns-then-passes-from-clause-found : goal.returns-then-passes-from-clause-found
returns-then-passes-from-clause-found g c = grind (arith, common_steps)

pub returns-then-passes-from-clause-missing : goal.returns-then-passes-from-clause-missing
returns-then-passes-from-clause-missing g c = search rules

pub returns-else-passes-from-clause-found : goal.returns-else-passes-from-clause-found
returns-else-passes-from-clause-found g c = search rules

pub returns-else-passes-from-clause-missing : goal.returns-else-passes-from-clause-missing
returns-else-passes-from-clause-missing g c = grind (arith, common_steps)
