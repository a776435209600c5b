use Rattle.std.proofs.Common.{rules}
use Rattle.header_words.proofs.pass.Pass.has_gate.Goals as goal

pub returns : goal.returns
returns g c = search rules
