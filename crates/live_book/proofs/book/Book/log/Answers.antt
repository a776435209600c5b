use Rattle.std.proofs.Common.{rules}
use Rattle.live_book.proofs.book.Book.log.Goals as goal

pub returns-clause-log : goal.returns-clause-log
returns-clause-log c = search rules
