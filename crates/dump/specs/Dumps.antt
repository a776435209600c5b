-- The dump of a script: that of the world which its steps lead to.
use Rattle.std.specs.Prelude.{◌≡◌, ℕ, List}
use Rattle.script_text.specs.declared.lines.Line.{Line}
use Rattle.script_text.specs.Lines.{IsScript, script_text}
use Rattle.step_core.specs.World.{WorldState}
use Rattle.history.specs.NameLists.{NameLists}
use Rattle.history.specs.Plays.{IsPlayOf}
use Rattle.dump.specs.Reports.{IsDump}

-- the bytes are the text of a script, which leads to a world with this dump
pub record IsDumpOf (bytes text : List ℕ) : Type 0 where
  pub lines : List Line
  pub script : IsScript lines
  pub read : bytes ≡ script_text lines
  pub world : WorldState
  pub names : NameLists
  pub play : IsPlayOf lines world names
  pub dump : IsDump world names text
