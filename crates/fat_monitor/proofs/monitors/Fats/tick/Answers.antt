use Rattle.std.proofs.Common.{rules}
use Rattle.fat_monitor.proofs.monitors.Fats.tick.Goals as goal

pub returns-then-now-self-clause-earlier : goal.returns-then-now-self-clause-earlier
returns-then-now-self-clause-earlier c = search rules
