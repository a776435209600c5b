use Rattle.std.proofs.Common.{refl, ap, ◌∙◌}
use Rattle.live_turns.specs.Ways.{Holding}
use Rattle.live_turns.proofs.Going.{publish_way}
use Rattle.live_turns.proofs.Visits.{event_visit}
use Rattle.live_turns.proofs.turns.Turns.publish.Goals as goal

pub returns-clause-went : goal.returns-clause-went
returns-clause-went g c = λ won.
    let p : Holding = record { words = c.hand.inside.words; own = c.hand.inside.own.list.items } in
    let q : Holding = record { words = c.publish.new.pass; own = c.hand.inside.own.list.items } in
    rw (← c.hand.view_is) (publish_way c.args.call won c.args.receipt.monitor _ p q c.requires.few
    (rw (← c.hand.view_is) at c.requires.low) (rw (← c.hand.view_is) at c.requires.high) (rw c.requires.same at c.publish.ensures) refl)

pub returns-clause-covers : goal.returns-clause-covers
returns-clause-covers g c = λ objects h b.
    c.publish.ensures.covers (ap (λ (p : Holding). p.words.has_gate) c.hand.view_is ∙ c.requires.belongs.1) objects (rw (← c.hand.view_is) at h) (rw c.requires.same b)

pub returns-clause-visit : goal.returns-clause-visit
returns-clause-visit g c = rw (← c.hand.view_is) (event_visit c.args.receipt.object.0 _ _ c.hand.inside.words c.publish.new.pass c.publish.ensures).1
