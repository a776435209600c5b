-- What a line of a history is, without its line feed.
use Rattle.std.specs.Prelude.{◌≡◌, ℕ, ◌<◌, List, Some}
use Rattle.std.specs.Str.{IsUtf8}
use Rattle.serde_json.specs.Data.{Data}
use Rattle.serde_json.specs.Read.{read}
use Rattle.step_core.specs.declared.machine.Move.{Move}
use Rattle.history_moves.specs.Moves.{data_of, first_data, Fits}

-- the line is a JSON text of these data
abbrev pub IsTextOf : List ℕ → Data → Type 0
IsTextOf line d = IsUtf8 line × (read line ≡ Some d)

-- the line tells n objects
unfoldable pub IsFirst : List ℕ → ℕ → Type 0
IsFirst line n = IsTextOf line (first_data n) × (n < 65536)

-- the line is this move
unfoldable pub IsMove : List ℕ → Move → Type 0
IsMove line m = IsTextOf line (data_of m) × Fits m
