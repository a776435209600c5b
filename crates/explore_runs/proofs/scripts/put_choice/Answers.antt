use Rattle.std.proofs.Common.{append-nil, sym}
use Rattle.explore_runs.proofs.scripts.put_choice.Goals as goal

pub returns-in-None : goal.returns-in-None
returns-in-None c = rw (sym c.step_for.ensures.value, c.in-None.is) (sym (append-nil _))

pub returns-in-Some : goal.returns-in-Some
returns-in-Some c = rw (sym c.step_for.ensures.value, c.in-Some.is) c.put_step.ensures
