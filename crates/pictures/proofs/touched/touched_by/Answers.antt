use Rattle.std.proofs.Common.{rules}
use Rattle.pictures.proofs.touched.touched_by.Goals as goal

pub returns-in-Notify-default-Some : goal.returns-in-Notify-default-Some
returns-in-Notify-default-Some c = search rules
