use Rattle.std.proofs.Common.{string_bytes}
use Rattle.drawing.proofs.Handed.{script_drawn, script_refused}
use Rattle.drawing.proofs.drawings.script_drawing.Goals as goal

pub returns-clause-drawing : goal.returns-clause-drawing
returns-clause-drawing c = script_drawn string_bytes _ _ _ _ c.in_ok-plan.ensures.a_plan c.plan_drawing.ensures.drawing

pub returns-clause-fault : goal.returns-clause-fault
returns-clause-fault c = script_refused _ _ _ _ c.in_ok-plan.ensures.a_plan c.plan_drawing.ensures.fault
