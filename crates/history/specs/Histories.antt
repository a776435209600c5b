-- The history of a script: the moves that its steps hand out.
use Rattle.std.specs.Prelude.{◌≡◌, ℕ, List, [], ◌∷◌, ◌++◌, Bool, length, map, Err}
use Rattle.serde_json.specs.Written.{compact_text}
use Rattle.step_core.specs.declared.machine.Move.{Move}
use Rattle.step_core.specs.declared.steps.Request.{Request}
use Rattle.step_core.specs.declared.steps.Request.TheVariants as request
use Rattle.step_core.specs.declared.steps.Fault.TheVariants as fault
use Rattle.step_core.specs.Machine.{Run, opening}
use Rattle.step_core.specs.Shown.{shown}
use Rattle.step_core.specs.declared.worlds.relayout.RelayoutFault.TheVariants as relayout
use Rattle.step_core.specs.Step.{step_of}
use Rattle.step_core.specs.Relayout.{after_relayout}
use Rattle.step_core.specs.Requests.{world_then, moves_then, moves_after, world_after}
use Rattle.step_core.specs.World.{WorldState, opening_world}
use Rattle.history_moves.specs.Moves.{data_of, first_data}
use Rattle.history.specs.declared.plans.Plan.{Plan}

-- ---- texts

-- the first line, of n objects
unfoldable pub objects_text : ℕ → List ℕ
objects_text n = compact_text (first_data n) ++ 10 ∷ []

unfoldable pub move_text : Move → List ℕ
move_text m = compact_text (data_of m) ++ 10 ∷ []

-- a line for each move
abbrev pub moves_text : List Move → List ℕ
moves_text [] = []
moves_text (m ∷ ms) = move_text m ++ moves_text ms

-- ---- steps and relayouts, each with whether its growth is granted

abbrev pub steps_in : List (Request × Bool) → List Request
steps_in ts = map (λ t. t.0) ts

-- it does not find that its growth is wanted and not granted
abbrev pub HasMemory : WorldState → (Request × Bool) → Type 0
HasMemory w (request.Step s, room) = (step_of room w s).answer ≡ Err fault.Memory → ⊥
HasMemory w (request.Relayout split, room) = (after_relayout room w split).answer ≡ Err relayout.Memory → ⊥

-- and none of them does
abbrev pub HaveMemory : WorldState → List (Request × Bool) → Type 0
HaveMemory w [] = Unit {0}
HaveMemory w (t ∷ ts) = HasMemory w t × HaveMemory (world_then w t) ts

-- It leads from the one world to the other, and its moves, which are a run of the machine, were written behind what
-- was there.
pub record TellsOne (w : WorldState) (asked : Request) (v : WorldState) (old new : List ℕ) : Type 0 where
  pub room : Bool
  pub memory : HasMemory w (asked, room)
  pub leads : v ≡ world_then w (asked, room)
  pub run : Run (shown w) (moves_then w (asked, room)) (shown v)
  pub text : new ≡ old ++ moves_text (moves_then w (asked, room))

-- The same of all of them.
pub record Tells (w : WorldState) (steps : List Request) (v : WorldState) (old new : List ℕ) : Type 0 where
  pub done : List (Request × Bool)
  pub these : steps_in done ≡ steps
  pub memory : HaveMemory w done
  pub leads : v ≡ world_after w done
  pub run : Run (shown w) (moves_after w done) (shown v)
  pub text : new ≡ old ++ moves_text (moves_after w done)

-- ---- the history of a script

abbrev pub first_world : Plan → WorldState
first_world plan = opening_world plan.lows.items plan.monitors plan.indices plan.split

-- The text is the number of the objects and the moves that the steps hand out, which are a run of the
-- machine.
pub record IsHistoryOf (plan : Plan) (history : List ℕ) : Type 0 where
  pub done : List (Request × Bool)
  pub these : steps_in done ≡ plan.steps.items
  pub memory : HaveMemory (first_world plan) done
  pub text : history ≡ objects_text (length plan.lows.items) ++ moves_text (moves_after (first_world plan) done)
  pub run : Run (opening (length plan.lows.items)) (moves_after (first_world plan) done)
      (shown (world_after (first_world plan) done))
