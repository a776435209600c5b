use Rattle.std.proofs.Common.{rules}
use Rattle.dump.proofs.reports.put_call.Goals as goal

pub returns-in-Notify : goal.returns-in-Notify
returns-in-Notify c = search rules
