use Rattle.std.proofs.Common.{rules}
use Rattle.live_turns.proofs.hands.Hand.bind.Goals as goal

pub returns-in-Err-clause-noted : goal.returns-in-Err-clause-noted
returns-in-Err-clause-noted g c = search rules
