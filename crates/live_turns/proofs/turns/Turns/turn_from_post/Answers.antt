use Rattle.live_book.specs.Book.{bindings}
use Rattle.live_turns.specs.Ways.{parked}
use Rattle.live_turns.proofs.Gates.{covers_kept, gave_up_parked}
use Rattle.live_turns.proofs.TurnLaws.{turned_away, held_turn, knows_parked, parked_at_book}
use Rattle.live_turns.proofs.Visits.{same_visit}
use Rattle.live_turns.proofs.turns.Turns.turn_from_post.Goals as goal

pub give-requires-clause-covers : goal.give-requires-clause-covers
give-requires-clause-covers g c =
    covers_kept (bindings c.in-Some.desk.value.book) (bindings c.wake_up-told.new.desk.value.book) c.take.new.hand.words c.wake_up-told.new.self.words
    c.wake_up-told.ensures.bindings c.wake_up-told.ensures.words c.in-Some.ensures.2

pub returns-in_default : goal.returns-in_default
returns-in_default g c =
    turned_away c.args.self.now (parked c.args.expired) c.parked.result c.args.hand.now c.take.new.hand c.requires.belongs c.parked.ensures (parked_at_book c.args.expired) (knows_parked c.args.expired c.args.hand.now)
    c.in_default.ensures

pub returns : goal.returns
returns g c =
    held_turn c.args.self.now (parked c.args.expired) c.wake_up-told.result c.args.hand.now c.take.new.hand c.wake_up-told.new.self c.give.new.hand c.requires.belongs
    c.in-Some.ensures.0 (same_visit c.take.new.hand.words c.wake_up-told.new.self.words c.wake_up-told.ensures.words) c.give.ensures.gave c.give.ensures.belongs (parked_at_book c.args.expired) c.wake_up-told.ensures.went
    (gave_up_parked c.wake_up-told.result c.args.expired c.take.new.hand c.wake_up-told.new.self c.wake_up-told.ensures.words c.wake_up-told.ensures.none c.wake_up-told.ensures.fault)
    c.wake_up-told.ensures.rests
