use Rattle.live_book.specs.Book.{bindings}
use Rattle.live_turns.proofs.Gates.{covers_kept}
use Rattle.live_turns.proofs.Visits.{held_same, err_always}
use Rattle.live_turns.proofs.turns.Turns.tell.Goals as goal

pub give-requires-clause-covers : goal.give-requires-clause-covers
give-requires-clause-covers g c =
    covers_kept (bindings c.in-Some.desk.value.book) (bindings c.tick-told.new.desk.value.book) c.take.new.hand.words c.tick-told.new.self.words
    c.tick-told.ensures.bindings c.tick-told.ensures.words c.in-Some.ensures.2

pub returns-clause-looked : goal.returns-clause-looked
returns-clause-looked g c =
    held_same c.args.hand.now c.take.new.hand c.tick-told.new.self c.give.new.hand c.in-Some.ensures.0 c.tick-told.ensures.words c.give.ensures.gave

pub returns-in_err-told-clause-refused : goal.returns-in_err-told-clause-refused
returns-in_err-told-clause-refused g c =
    err_always _ c.from_residual.result (held_same c.args.hand.now c.take.new.hand c.tick-told.new.self c.give.new.hand c.in-Some.ensures.0 c.tick-told.ensures.words c.give.ensures.gave)
