use Rattle.std.proofs.Common.{◌≡◌, ◌∙◌, Bool, true, false, Option, Some, None, sym}
use Rattle.std.specs.Bool.{then_some}
use Rattle.std.specs.Prelude.{if◌then◌else◌}
use Rattle.explore.specs.States.{ProgramState}
use Rattle.explore.proofs.states.play.Goals as goal

-- where all choices were made, there is a state
made_all : (all : Bool) (s : ProgramState) (a r : Option ProgramState) → a ≡ (if all then Some s else None)
    → r ≡ then_some all s → r ≡ a
made_all true s a r e h = h ∙ sym e
made_all false s a r e h = h ∙ sym e

pub returns : goal.returns
returns c =
    let made = rw c.in_ok-state.ensures at c.in_ok-all.ensures in
    made_all c.in_ok-all.all c.play_on.new.self _ c.then_some.result made c.then_some.ensures
