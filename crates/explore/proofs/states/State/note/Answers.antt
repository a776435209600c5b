use Rattle.std.proofs.Common.{rules, arith}
use Rattle.std.proofs.lemmas.Grind.{elements}
use Rattle.explore.proofs.states.State.note.Goals as goal

pub returns-in_default-reply : goal.returns-in_default-reply
returns-in_default-reply c = search rules

pub returns-else-thread-len : goal.returns-else-thread-len
returns-else-thread-len c = grind (arith, elements)
