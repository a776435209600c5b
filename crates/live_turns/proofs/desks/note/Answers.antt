use Rattle.std.proofs.Common.{rules}
use Rattle.live_turns.proofs.desks.note.Goals as goal

pub returns-clause-list : goal.returns-clause-list
returns-clause-list g c = search rules

pub returns-clause-total : goal.returns-clause-total
returns-clause-total g c = search rules
