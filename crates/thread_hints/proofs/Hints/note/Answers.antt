use Rattle.std.proofs.Common.{rules}
use Rattle.thread_hints.proofs.Hints.note.Goals as goal

pub returns-else-is_empty : goal.returns-else-is_empty
returns-else-is_empty c = search rules
