use Rattle.std.proofs.Common.{refl}
use Rattle.explore_runs.proofs.java_reports.java_end_in.Goals as goal

pub bounds-ends-at : goal.bounds-ends-at
bounds-ends-at c = rw c.ends.ensures c.requires.at

pub returns-clause-end : goal.returns-clause-end
returns-clause-end c = rw c.ends.ensures refl

pub returns-clause-there : goal.returns-clause-there
returns-clause-there c = rw c.ends.ensures (c.requires.all.ends.each c.args.at c.requires.at).3
