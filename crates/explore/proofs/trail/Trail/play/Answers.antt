use Rattle.std.proofs.Common.{◌∙◌, ap, sym, List}
use Rattle.explore.specs.declared.programs.Choice.{Choice}
use Rattle.explore.specs.States.{played}
use Rattle.explore.proofs.Trailing.{last_reached, reached_front, reached_less}
use Rattle.explore.proofs.trail.Trail.play.Goals as goal

pub walk_on-requires-clause-reached : goal.walk_on-requires-clause-reached
walk_on-requires-clause-reached c =
    rw c.in_ok-cut.ensures (reached_less c.args.program.now c.shared_with-shared.result c.args.self.now.reached.items c.requires.reached)

pub returns-in-Some-clause-reached : goal.returns-in-Some-clause-reached
returns-in-Some-clause-reached c =
    reached_front c.args.program.now c.pop.new.self.items _ (rw c.in-Some.ensures.items at c.in_ok-walk_on.ensures.reached)

pub returns-in-Some-clause-state : goal.returns-in-Some-clause-state
returns-in-Some-clause-state c =
    let reached = rw c.in-Some.ensures.items at c.in_ok-walk_on.ensures.reached in
    let choices_along = rw c.in-Some.ensures.items at c.in_ok-walk_on.ensures.there c.if-not-branch.false in
    sym (last_reached c.args.program.now c.pop.new.self.items c.in-Some.reached reached)
    ∙ ap (λ (cs : List Choice). played c.args.program.now cs) choices_along
