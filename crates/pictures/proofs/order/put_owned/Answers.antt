use Rattle.std.proofs.Common.{rules}
use Rattle.pictures.proofs.order.put_owned.Goals as goal

pub returns-in_ok-push : goal.returns-in_ok-push
returns-in_ok-push c = search rules
