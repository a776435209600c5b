use Rattle.explore_java.proofs.Making.{opening_below}
use Rattle.explore_java.proofs.states.JavaState.open.Goals as goal

pub returns-clause-below : goal.returns-clause-below
returns-clause-below c = rw c.in_ok-first_machine.ensures (opening_below c.args.program.now)
