use Rattle.std.proofs.Common.{ap, ◌∙◌}
use Rattle.step_core.specs.View.{world_in}
use Rattle.step_core.specs.Shown.{shown}
use Rattle.step_core.proofs.Relaying.Respelling.{all_fit, respelled_sound, respelled_shows}
use Rattle.step_core.proofs.worlds.World.respell.Goals as goal

pub respell-requires-clause-fit : goal.respell-requires-clause-fit
respell-requires-clause-fit c = all_fit (world_in c.self.inside) c.self.invariant c.args.split (rw (← c.self.view_is) at c.requires.few) (rw (← c.self.view_is) at c.requires.fit)

pub invariant_of-self : goal.invariant_of-self
invariant_of-self c =
    rw c.respell.ensures (respelled_sound (world_in c.self.inside) c.self.invariant c.args.split (rw (← c.self.view_is) at c.requires.few) (rw (← c.self.view_is) at c.requires.fit) (rw (← c.self.view_is) at c.requires.rest))

pub returns-clause-shows : goal.returns-clause-shows
returns-clause-shows c =
    rw c.respell.ensures (respelled_shows (world_in c.self.inside) c.self.invariant c.args.split (rw (← c.self.view_is) at c.requires.few) (rw (← c.self.view_is) at c.requires.fit)
    ∙ ap shown c.self.view_is)
