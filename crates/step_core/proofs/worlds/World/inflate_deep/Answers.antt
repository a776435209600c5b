use Rattle.std.proofs.Common.{subst, sym, ◌∙◌}
use Rattle.step_core.specs.Relayout.{IsAtRest}
use Rattle.step_core.proofs.Relaying.Whole.{room_now, inflated_more, fit_more}
use Rattle.step_core.proofs.worlds.World.inflate_deep.Goals as goal

pub inflate-requires-clause-rest : goal.inflate-requires-clause-rest
inflate-requires-clause-rest c = subst IsAtRest (sym c.loop-object.invariant.1) c.requires.rest

pub inflate-requires-clause-room : goal.inflate-requires-clause-room
inflate-requires-clause-room c =
    room_now c.args.split c.args.self.now c.loop-object.object (rw c.objects-object-end.ensures at c.loop-object-test.true) c.loop-object.self c.loop-object.invariant.0
    c.requires.room c.requires.spare

pub loop-object-preserved : goal.loop-object-preserved
loop-object-preserved c =
    let here = rw c.objects-object-end.ensures at c.loop-object-test.true in (
      inflated_more c.args.split c.args.self.now c.loop-object.object here c.loop-object.self c.loop-object.invariant.0 c.inflate.new.self c.inflate.ensures.exact,
      c.inflate.ensures.shows ∙ c.loop-object.invariant.1,
      fit_more c.args.split c.args.self.now c.loop-object.object here c.loop-object.self c.loop-object.invariant.0 c.inflate.new.self c.inflate.ensures.exact c.inflate.ensures.fits c.loop-object.invariant.2,
    )
