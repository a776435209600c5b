use Rattle.std.proofs.Common.{◌≡◌, ◌∙◌, sym}
use Rattle.step_core.specs.Sound.{IsSound}
use Rattle.explore.specs.Allowed.{doing_at}
use Rattle.explore.specs.States.{ProgramState, chosen, thread_of}
use Rattle.explore.proofs.Closed.{closed}
use Rattle.explore.proofs.states.State.may_make.Goals as goal

pub returns-then-is_some : goal.returns-then-is_some
returns-then-is_some c = λ shut.
    let s : ProgramState = record {
      world = c.self.inside.world.value;
      nexts = c.self.inside.nexts.items;
      replies = c.self.inside.replies;
      told = c.self.inside.told;
    } in
    let sound : IsSound s.world = rw (← c.self.view_is) at c.requires.sound in
    let doing : c.args.doing ≡ doing_at s.world (thread_of (chosen c.args.choice)) = rw (← c.self.view_is) at c.requires.doing in
    let now = rw c.deref.ensures at c.now.ensures in
    rw (← c.self.view_is)
    (closed c.args.program.now s c.args.choice sound
    (rw (← doing, ← now) (sym c.allows.ensures ∙ shut)))
