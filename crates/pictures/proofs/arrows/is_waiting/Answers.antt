use Rattle.std.proofs.Common.{rules}
use Rattle.pictures.proofs.arrows.is_waiting.Goals as goal

pub returns-in-Some-Waits : goal.returns-in-Some-Waits
returns-in-Some-Waits c = search rules
