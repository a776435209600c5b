use Rattle.std.proofs.Common.{rules}
use Rattle.header_words.proofs.pass.Pass.index.Goals as goal

pub returns-clause-value : goal.returns-clause-value
returns-clause-value g c = search rules

pub returns-clause-low : goal.returns-clause-low
returns-clause-low g c = search rules
