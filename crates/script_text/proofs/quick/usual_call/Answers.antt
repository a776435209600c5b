use Rattle.std.proofs.Common.{rules}
use Rattle.script_text.proofs.quick.usual_call.Goals as goal

pub returns : goal.returns
returns c = search rules
