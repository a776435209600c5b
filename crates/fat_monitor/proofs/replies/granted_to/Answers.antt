use Rattle.std.proofs.Common.{rules}
use Rattle.fat_monitor.proofs.replies.granted_to.Goals as goal

pub returns-in-Back : goal.returns-in-Back
returns-in-Back c = search rules
