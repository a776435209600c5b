use Rattle.std.proofs.Common.{rules}
use Rattle.thread_hints.proofs.Hints.are_few_for.Goals as goal

pub returns-then-count-lt-MOST : goal.returns-then-count-lt-MOST
returns-then-count-lt-MOST c = search rules
