use Rattle.std.proofs.Common.{arith, rules}
use Rattle.live_book.proofs.book.Book.used.Goals as goal

pub overflow_cast-result : goal.overflow_cast-result
overflow_cast-result c = let fits = c.self.invariant.0.fits in let len = c.len.ensures in omega arith

pub returns : goal.returns
returns c = search rules
