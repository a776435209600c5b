use Rattle.std.proofs.Common.{rules}
use Rattle.live_book.proofs.book.Book.into_log.Goals as goal

pub returns-clause-log : goal.returns-clause-log
returns-clause-log c = search rules

pub returns-clause-replays : goal.returns-clause-replays
returns-clause-replays c = search rules
