use Rattle.std.proofs.Common.{arith, rules}
use Rattle.std.proofs.lemmas.Grind.{common_steps}
use Rattle.live_turns.proofs.desks.Desk.note_bind.Goals as goal

pub invariant_of-self : goal.invariant_of-self
invariant_of-self g c = grind (arith, common_steps)

pub returns-in-Err-RecordFull : goal.returns-in-Err-RecordFull
returns-in-Err-RecordFull g c = search rules
