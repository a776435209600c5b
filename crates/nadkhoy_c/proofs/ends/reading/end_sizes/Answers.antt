use Rattle.std.proofs.Common.{rules}
use Rattle.nadkhoy_c.proofs.ends.reading.end_sizes.Goals as goal

pub returns : goal.returns
returns c = search rules
