use Rattle.std.proofs.Common.{rules}
use Rattle.live_runs.proofs.texts.stop_word.Goals as goal

pub returns-then-stopped : goal.returns-then-stopped
returns-then-stopped c = search rules
