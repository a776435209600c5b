use Rattle.std.proofs.Common.{refl}
use Rattle.live_turns.specs.Ways.{Holding}
use Rattle.live_turns.proofs.Words.{load_way, load_shows}
use Rattle.live_turns.proofs.Visits.{event_visit}
use Rattle.live_turns.proofs.turns.Turns.load.Goals as goal

pub returns-clause-went : goal.returns-clause-went
returns-clause-went g c = λ d k same.
    let p : Holding = record { words = c.hand.inside.words; own = c.hand.inside.own.list.items } in
    let q : Holding = record { words = c.load-word.new.pass; own = c.hand.inside.own.list.items } in
    rw (← c.hand.view_is) (load_way d k c.args.object c.load-word.result c.lock_of.result p q same c.lock_of.ensures c.load-word.ensures.event refl)

pub returns-clause-thin : goal.returns-clause-thin
returns-clause-thin g c =
    load_shows c.args.object.0 c.load-word.result.0 c.lock_of.result _ c.hand.inside.words c.load-word.new.pass c.lock_of.ensures c.load-word.ensures.event c.load-word.ensures.shows.thin

pub returns-clause-visit : goal.returns-clause-visit
returns-clause-visit g c = rw (← c.hand.view_is) (event_visit c.args.object.0 _ _ c.hand.inside.words c.load-word.new.pass c.load-word.ensures.event).1

pub returns-clause-event : goal.returns-clause-event
returns-clause-event g c = rw (← c.hand.view_is) (event_visit c.args.object.0 _ _ c.hand.inside.words c.load-word.new.pass c.load-word.ensures.event).0
