use Rattle.std.proofs.Common.{rules}
use Rattle.pictures.proofs.touched.touched_by_call.Goals as goal

pub returns-in-Some-Interrupt : goal.returns-in-Some-Interrupt
returns-in-Some-Interrupt c = search rules
