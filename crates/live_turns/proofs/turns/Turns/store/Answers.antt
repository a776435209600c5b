use Rattle.std.specs.Prelude.{◌≡◌, ◌<◌, ◌+◌}
use Rattle.std.proofs.Common.{refl, arith}
use Rattle.header_words.specs.Passes.{depth_at}
use Rattle.live_turns.specs.Ways.{Holding}
use Rattle.live_turns.proofs.Words.{nest_depth, release_depth, unnest_depth, nest_way, release_way, unnest_way}
use Rattle.live_turns.proofs.Visits.{event_visit}
use Rattle.live_turns.proofs.turns.Turns.store.Goals as goal

pub nest-requires-clause-some : goal.nest-requires-clause-some
nest-requires-clause-some g c =
    let f = nest_depth c.args.call.operation c.args.old c.args.new c.hand.inside.words.index (depth_at c.hand.inside.words c.args.call.object.0) c.in-Enter-default.is-0 (rw (← c.hand.view_is) at c.requires.calls) (rw (← c.hand.view_is) at c.requires.thin) in
    let d : depth_at c.hand.inside.words c.args.call.object.0 ≡ f.0 + 1 = f.1 in
    let lt : f.0 < 255 = f.2 in
    omega arith

pub nest-requires-clause-few : goal.nest-requires-clause-few
nest-requires-clause-few g c =
    let f = nest_depth c.args.call.operation c.args.old c.args.new c.hand.inside.words.index (depth_at c.hand.inside.words c.args.call.object.0) c.in-Enter-default.is-0 (rw (← c.hand.view_is) at c.requires.calls) (rw (← c.hand.view_is) at c.requires.thin) in
    let d : depth_at c.hand.inside.words c.args.call.object.0 ≡ f.0 + 1 = f.1 in
    let lt : f.0 < 255 = f.2 in
    omega arith

pub release-requires-clause-one : goal.release-requires-clause-one
release-requires-clause-one g c =
    release_depth c.args.call.operation c.args.old c.args.new c.hand.inside.words.index (depth_at c.hand.inside.words c.args.call.object.0) c.in-Exit-Free.is-0 c.in-Exit-Free.is-1 (rw (← c.hand.view_is) at c.requires.calls) (rw (← c.hand.view_is) at c.requires.thin)

pub unnest-requires-clause-several : goal.unnest-requires-clause-several
unnest-requires-clause-several g c =
    let f = unnest_depth c.args.call.operation c.args.old c.args.new c.in-Exit-Thin.index-1 c.in-Exit-Thin.count-1 c.hand.inside.words.index (depth_at c.hand.inside.words c.args.call.object.0) c.in-Exit-Thin.is-0 c.in-Exit-Thin.is-1 (rw (← c.hand.view_is) at c.requires.calls) (rw (← c.hand.view_is) at c.requires.thin) in
    let d : depth_at c.hand.inside.words c.args.call.object.0 ≡ f.0 + 1 + 1 = f.1 in
    omega arith

pub returns-in-Enter-default-clause-went : goal.returns-in-Enter-default-clause-went
returns-in-Enter-default-clause-went g c =
    let p : Holding = record { words = c.hand.inside.words; own = c.hand.inside.own.list.items } in
    let q : Holding = record { words = c.nest.new.pass; own = c.hand.inside.own.list.items } in
    rw (← c.hand.view_is) (nest_way c.args.call c.args.old c.args.new _ p q c.in-Enter-default.is-0 c.requires.fits (rw (← c.hand.view_is) at c.requires.calls) c.nest.ensures refl)

pub returns-in-Exit-Free-clause-went : goal.returns-in-Exit-Free-clause-went
returns-in-Exit-Free-clause-went g c =
    let p : Holding = record { words = c.hand.inside.words; own = c.hand.inside.own.list.items } in
    let q : Holding = record { words = c.release.new.pass; own = c.hand.inside.own.list.items } in
    rw (← c.hand.view_is) (release_way c.args.call c.args.old c.args.new _ p q c.in-Exit-Free.is-0 c.in-Exit-Free.is-1 c.requires.fits (rw (← c.hand.view_is) at c.requires.calls) c.release.ensures refl)

pub returns-in-Exit-Thin-clause-went : goal.returns-in-Exit-Thin-clause-went
returns-in-Exit-Thin-clause-went g c =
    let p : Holding = record { words = c.hand.inside.words; own = c.hand.inside.own.list.items } in
    let q : Holding = record { words = c.unnest.new.pass; own = c.hand.inside.own.list.items } in
    rw (← c.hand.view_is) (unnest_way c.args.call c.args.old c.args.new c.in-Exit-Thin.index-1 c.in-Exit-Thin.count-1 _ p q c.in-Exit-Thin.is-0 c.in-Exit-Thin.is-1 c.requires.fits (rw (← c.hand.view_is) at c.requires.calls) c.unnest.ensures refl)

pub returns-in-Enter-default-clause-visit : goal.returns-in-Enter-default-clause-visit
returns-in-Enter-default-clause-visit g c = rw (← c.hand.view_is) (event_visit c.args.call.object.0 _ _ c.hand.inside.words c.nest.new.pass c.nest.ensures).1

pub returns-in-Exit-Free-clause-visit : goal.returns-in-Exit-Free-clause-visit
returns-in-Exit-Free-clause-visit g c = rw (← c.hand.view_is) (event_visit c.args.call.object.0 _ _ c.hand.inside.words c.release.new.pass c.release.ensures).1

pub returns-in-Exit-Thin-clause-visit : goal.returns-in-Exit-Thin-clause-visit
returns-in-Exit-Thin-clause-visit g c = rw (← c.hand.view_is) (event_visit c.args.call.object.0 _ _ c.hand.inside.words c.unnest.new.pass c.unnest.ensures).1
