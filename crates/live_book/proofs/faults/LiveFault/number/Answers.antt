use Rattle.std.proofs.Common.{rules}
use Rattle.live_book.proofs.faults.LiveFault.number.Goals as goal

pub returns-3 : goal.returns-3
returns-3 c = search rules
