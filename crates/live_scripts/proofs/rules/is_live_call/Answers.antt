use Rattle.std.proofs.Common.{rules}
use Rattle.live_scripts.proofs.rules.is_live_call.Goals as goal

pub returns : goal.returns
returns c = search rules
