use Rattle.std.proofs.Common.{rules}
use Rattle.history.proofs.playing.unless_memory.Goals as goal

pub returns-in-Some-Memory : goal.returns-in-Some-Memory
returns-in-Some-Memory c = search rules
