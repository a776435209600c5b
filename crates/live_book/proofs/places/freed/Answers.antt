use Rattle.std.proofs.Common.{rules}
use Rattle.live_book.proofs.places.freed.Goals as goal

pub returns-in-Exit : goal.returns-in-Exit
returns-in-Exit c = search rules
