use Rattle.std.proofs.Common.{rules}
use Rattle.live_book.proofs.book.Book.post.Goals as goal

pub returns-clause-post : goal.returns-clause-post
returns-clause-post c = search rules

pub returns-clause-some : goal.returns-clause-some
returns-clause-some c = search rules
