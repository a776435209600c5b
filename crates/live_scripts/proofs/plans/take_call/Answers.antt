use Rattle.std.proofs.Common.{rules}
use Rattle.live_scripts.proofs.plans.take_call.Goals as goal

pub returns-in_ok-push-in-Step-Begin : goal.returns-in_ok-push-in-Step-Begin
returns-in_ok-push-in-Step-Begin c = search rules
