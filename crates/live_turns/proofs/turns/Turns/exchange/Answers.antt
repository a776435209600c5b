use Rattle.std.proofs.Common.{refl, false}
use Rattle.std.proofs.lemmas.Bool.{OnTrue_from, OnTrue_at, OnFalse_from, OnFalse_at}
use Rattle.live_turns.specs.Ways.{Holding}
use Rattle.live_turns.proofs.Words.{win_way, lose_way}
use Rattle.live_turns.proofs.turns.Turns.exchange.Goals as goal

pub returns-clause-won : goal.returns-clause-won
returns-clause-won g c =
    let p : Holding = record { words = c.hand.inside.words; own = c.hand.inside.own.list.items } in
    let q : Holding = record { words = c.acquire.new.pass; own = c.hand.inside.own.list.items } in
    rw (← c.hand.view_is) (OnTrue_from c.acquire.result _ (λ e. win_way c.args.object false _ p q (OnTrue_at e c.acquire.ensures.won) refl))

pub returns-clause-lost : goal.returns-clause-lost
returns-clause-lost g c =
    let p : Holding = record { words = c.hand.inside.words; own = c.hand.inside.own.list.items } in
    let q : Holding = record { words = c.acquire.new.pass; own = c.hand.inside.own.list.items } in
    rw (← c.hand.view_is) (OnFalse_from c.acquire.result _ (λ e.
    let lost = OnFalse_at e c.acquire.ensures.lost in
    lose_way c.args.object false lost.0 p q lost.1 refl))
