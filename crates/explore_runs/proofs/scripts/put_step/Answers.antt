use Rattle.std.proofs.Common.{rules}
use Rattle.explore_runs.proofs.scripts.put_step.Goals as goal

pub returns-in-Expire : goal.returns-in-Expire
returns-in-Expire c = search rules

pub returns-in-Tick : goal.returns-in-Tick
returns-in-Tick c = search rules
