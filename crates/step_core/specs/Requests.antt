-- Lists of steps, between which relayouts may stand. Each has with it whether the growth that it asks for is granted.
use Rattle.std.specs.Prelude.{Bool, List, [], ◌∷◌, ◌++◌}
use Rattle.step_core.specs.declared.machine.Move.{Move}
use Rattle.step_core.specs.declared.steps.Request.{Request}
use Rattle.step_core.specs.declared.steps.Request.TheVariants as request
use Rattle.step_core.specs.World.{WorldState}
use Rattle.step_core.specs.Step.{step_of, moves_of}
use Rattle.step_core.specs.Relayout.{after_relayout}

-- the world after one of them
abbrev pub world_then : WorldState → (Request × Bool) → WorldState
world_then w (request.Step s, room) = (step_of room w s).after
world_then w (request.Relayout split, room) = (after_relayout room w split).after

-- the moves that it hands out: a relayout has none
abbrev pub moves_then : WorldState → (Request × Bool) → List Move
moves_then w (request.Step s, room) = moves_of (step_of room w s).answer
moves_then w (request.Relayout split, room) = []

-- the world after all of them
abbrev pub world_after : WorldState → List (Request × Bool) → WorldState
world_after w [] = w
world_after w (r ∷ rs) = world_after (world_then w r) rs

-- the moves that they hand out
abbrev pub moves_after : WorldState → List (Request × Bool) → List Move
moves_after w [] = []
moves_after w (r ∷ rs) = moves_then w r ++ moves_after (world_then w r) rs
