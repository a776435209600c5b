use Rattle.std.proofs.Common.{rules}
use Rattle.live_book.proofs.book.Book.free.Goals as goal

pub returns-clause-free : goal.returns-clause-free
returns-clause-free c = search rules
