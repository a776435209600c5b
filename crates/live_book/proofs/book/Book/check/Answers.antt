use Rattle.std.proofs.Common.{rules}
use Rattle.live_book.proofs.book.Book.check.Goals as goal

pub returns-clause-torn : goal.returns-clause-torn
returns-clause-torn c = search rules

pub returns-clause-whole : goal.returns-clause-whole
returns-clause-whole c = search rules
