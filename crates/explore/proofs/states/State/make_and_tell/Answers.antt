use Rattle.std.proofs.Common.{◌≡◌, Some, false}
use Rattle.explore.specs.States.{ProgramState, step_for}
use Rattle.explore.specs.Wants.{wants_memory}
use Rattle.explore.proofs.Granted.{made, told}
use Rattle.explore.proofs.states.State.make_and_tell.Goals as goal

pub returns-clause-made : goal.returns-clause-made
returns-clause-made c =
    let s : ProgramState = record {
      world = c.self.inside.world.value;
      nexts = c.self.inside.nexts.items;
      replies = c.self.inside.replies;
      told = c.self.inside.told;
    } in
    let a : step_for c.args.program.now c.args.self.now c.args.choice ≡ Some c.in-Some.step = cc in
    let b : wants_memory c.in-Ok.did.atomic ≡ false = cc in
    let e = rw (← c.self.view_is) at a in
    let exact = rw c.deref_mut.ensures.value at c.in-Ok.ensures.exact.1 in
    rw c.note.ensures (rw (← c.self.view_is)
    (made c.args.program.now s c.args.choice c.in-Some.step c.step.new.self c.in-Ok.ensures.exact.0 c.in-Ok.did e exact b))

pub returns-clause-told : goal.returns-clause-told
returns-clause-told c =
    let s : ProgramState = record {
      world = c.self.inside.world.value;
      nexts = c.self.inside.nexts.items;
      replies = c.self.inside.replies;
      told = c.self.inside.told;
    } in
    let a : step_for c.args.program.now c.args.self.now c.args.choice ≡ Some c.in-Some.step = cc in
    let b : wants_memory c.in-Ok.did.atomic ≡ false = cc in
    let e = rw (← c.self.view_is) at a in
    let exact = rw c.deref_mut.ensures.value at c.in-Ok.ensures.exact.1 in
    rw (← c.self.view_is)
    (told c.args.program.now s c.args.choice c.in-Some.step c.step.new.self c.in-Ok.ensures.exact.0 c.in-Ok.did e exact b)
