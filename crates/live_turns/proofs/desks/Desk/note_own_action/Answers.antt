use Rattle.std.proofs.Common.{rules}
use Rattle.live_turns.proofs.desks.Desk.note_own_action.Goals as goal

pub returns-in-Ok-clause-own : goal.returns-in-Ok-clause-own
returns-in-Ok-clause-own g c = search rules
