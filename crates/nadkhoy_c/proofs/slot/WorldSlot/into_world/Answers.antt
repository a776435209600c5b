use Rattle.std.proofs.Common.{rules}
use Rattle.nadkhoy_c.proofs.slot.WorldSlot.into_world.Goals as goal

pub returns-then-full-clause-world : goal.returns-then-full-clause-world
returns-then-full-clause-world c = search rules

pub returns-then-full-clause-none : goal.returns-then-full-clause-none
returns-then-full-clause-none c = search rules

pub returns-else-full-clause-world : goal.returns-else-full-clause-world
returns-else-full-clause-world c = search rules

pub returns-else-full-clause-none : goal.returns-else-full-clause-none
returns-else-full-clause-none c = search rules
