use Rattle.std.proofs.Common.{rules}
use Rattle.pictures.proofs.order.object_of_act.Goals as goal

pub returns-in-Waits : goal.returns-in-Waits
returns-in-Waits c = search rules
