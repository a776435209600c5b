use Rattle.std.proofs.Common.{refl}
use Rattle.live_turns.proofs.Visits.{held_same}
use Rattle.live_turns.proofs.turns.Turns.lend.Goals as goal

pub returns-clause-told : goal.returns-clause-told
returns-clause-told g c = (_, (_, c.f-told.ensures, refl))

pub returns-clause-looked : goal.returns-clause-looked
returns-clause-looked g c = held_same c.args.hand.now c.take.new.hand c.take.new.hand c.give.new.hand c.in-Some.ensures.0 refl c.give.ensures.gave
