use Rattle.std.proofs.Common.{◌≡◌, false, sym, ap, ◌∙◌, subst}
use Rattle.step_core.specs.World.{WorldState, lock_at}
use Rattle.step_core.specs.Shown.{shown}
use Rattle.step_core.specs.Relayout.{is_too_deep}
use Rattle.step_core.specs.View.{world_in}
use Rattle.step_core.specs.Sound.{IsSound}
use Rattle.step_core.proofs.Relaying.Inflating.{at_sound, at_fits, at_shows}
use Rattle.step_core.proofs.worlds.World.inflate.Goals as goal

pub invariant_of-self : goal.invariant_of-self
invariant_of-self c =
    let e = c.inflate.ensures c.self.inside.places.items in
    subst IsSound (sym e) (at_sound (world_in c.self.inside) c.self.invariant c.args.object.0 (rw (← c.self.view_is) at c.requires.here) c.args.split (λ d. ((rw (← c.self.view_is) at c.requires.room) d).0) (rw (← c.self.view_is) at c.requires.rest))

pub returns-clause-fits : goal.returns-clause-fits
returns-clause-fits c =
    let e = c.inflate.ensures c.self.inside.places.items in
    subst (λ (w : WorldState). is_too_deep c.args.split (lock_at w c.args.object.0) ≡ false) (sym e) (at_fits (world_in c.self.inside) c.self.invariant c.args.object.0 (rw (← c.self.view_is) at c.requires.here) c.args.split (λ d. ((rw (← c.self.view_is) at c.requires.room) d).0))

pub returns-clause-shows : goal.returns-clause-shows
returns-clause-shows c =
    let e = c.inflate.ensures c.self.inside.places.items in
    ap shown e ∙ at_shows (world_in c.self.inside) c.self.invariant c.args.object.0 (rw (← c.self.view_is) at c.requires.here) c.args.split (λ d. ((rw (← c.self.view_is) at c.requires.room) d).0) ∙ ap shown c.self.view_is
