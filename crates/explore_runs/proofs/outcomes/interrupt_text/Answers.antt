use Rattle.std.proofs.Common.{rules}
use Rattle.explore_runs.proofs.outcomes.interrupt_text.Goals as goal

pub returns-then-is_interrupted : goal.returns-then-is_interrupted
returns-then-is_interrupted c = search rules
