use Rattle.std.proofs.Common.{rules}
use Rattle.live_book.proofs.book.Book.now.Goals as goal

pub returns : goal.returns
returns c = search rules
