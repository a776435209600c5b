use Rattle.std.proofs.Common.{rules}
use Rattle.fast_path.proofs.calls.InterruptCall.call.Goals as goal

pub returns-in-Interrupt : goal.returns-in-Interrupt
returns-in-Interrupt c = search rules
