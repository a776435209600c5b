use Rattle.std.proofs.Common.{rules}
use Rattle.nadkhoy_c.proofs.ends.reading.on_monitor.Goals as goal

pub returns : goal.returns
returns c = search rules
