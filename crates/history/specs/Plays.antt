-- The world that a script leads to.
use Rattle.std.specs.Prelude.{◌≡◌, List, Bool}
use Rattle.script_text.specs.declared.lines.Line.{Line}
use Rattle.script_text.specs.LinesSoFar.{object_names}
use Rattle.step_core.specs.declared.steps.Request.{Request}
use Rattle.step_core.specs.Machine.{Run}
use Rattle.step_core.specs.Shown.{shown}
use Rattle.step_core.specs.Requests.{world_then, moves_then, moves_after, world_after}
use Rattle.step_core.specs.World.{WorldState}
use Rattle.history.specs.NameLists.{NameLists}
use Rattle.history.specs.Numbering.{IsWorldWith, low_bytes, names_of, requests_of}
use Rattle.history.specs.Histories.{HasMemory, HaveMemory, first_world, steps_in}
use Rattle.history.specs.declared.plans.Plan.{Plan}

-- a step or a relayout leads from the one world to the other, and its moves are a run of the machine
pub record PlaysOne (w : WorldState) (asked : Request) (v : WorldState) : Type 0 where
  pub room : Bool
  pub memory : HasMemory w (asked, room)
  pub leads : v ≡ world_then w (asked, room)
  pub run : Run (shown w) (moves_then w (asked, room)) (shown v)

-- and so do all of these
pub record Plays (w : WorldState) (steps : List Request) (v : WorldState) : Type 0 where
  pub done : List (Request × Bool)
  pub these : steps_in done ≡ steps
  pub memory : HaveMemory w done
  pub leads : v ≡ world_after w done
  pub run : Run (shown w) (moves_after w done) (shown v)

-- these lines lead to this world, and have these names
pub record IsPlayOf (lines : List Line) (v : WorldState) (names : NameLists) : Type 0 where
  pub plan : Plan
  pub world : IsWorldWith plan.monitors plan.indices plan.split lines
  pub objects : plan.names.objects ≡ object_names lines
  pub lows : plan.lows.items ≡ low_bytes lines
  pub numbered : plan.names ≡ names_of lines
  pub steps : plan.steps.items ≡ requests_of lines
  pub named : names ≡ plan.names
  pub plays : Plays (first_world plan) plan.steps.items v
