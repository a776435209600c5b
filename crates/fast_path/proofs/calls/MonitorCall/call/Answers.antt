use Rattle.std.proofs.Common.{rules}
use Rattle.fast_path.proofs.calls.MonitorCall.call.Goals as goal

pub returns-in-Holds : goal.returns-in-Holds
returns-in-Holds c = search rules
