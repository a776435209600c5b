use Rattle.std.proofs.Common.{rules}
use Rattle.script_text.proofs.names.Name.as_str.Goals as goal

pub returns : goal.returns
returns c = search rules
