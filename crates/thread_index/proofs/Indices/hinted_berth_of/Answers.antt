use Rattle.std.proofs.Common.{rules}
use Rattle.thread_index.proofs.Indices.hinted_berth_of.Goals as goal

pub returns-in_default-2-clause-one_to_one : goal.returns-in_default-2-clause-one_to_one
returns-in_default-2-clause-one_to_one c = search rules
