-- Where a reader of lines stands.
use Rattle.std.specs.Prelude.{◌≡◌, ◌≤◌, ℕ, List, [], ◌++◌, length, Bool}
use Rattle.script_text.specs.declared.lines.Line.{Line}
use Rattle.script_text.specs.Lines.{Continues, script_text}
use Rattle.script_text.specs.LinesSoFar.{IsNoted}

-- how many lines it handed out, whether objects may follow them, and the bytes behind them
pub record Position : Type 0 where
  pub count : ℕ
  pub declaring : Bool
  pub rest : List ℕ

-- These lines of the bytes came: they keep the rules, their objects have these names, and the rest is behind them.
pub record HasCome (bytes : List ℕ) (came : List Line) (names : List (List ℕ)) (position : Position) : Type 0 where
  pub few : length bytes ≤ 16777216
  pub right : Continues [] came
  pub parts : bytes ≡ script_text came ++ position.rest
  pub count : position.count ≡ length came
  pub noted : IsNoted came position.declaring names
