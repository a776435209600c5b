-- What a script plays.
use Rattle.std.specs.Prelude.{◌≡◌, ℕ, List}
use Rattle.script_text.specs.declared.lines.Line.{Line}
use Rattle.script_text.specs.Lines.{IsScript, script_text}
use Rattle.script_text.specs.LinesSoFar.{object_names}
use Rattle.history.specs.Numbering.{IsWorldWith, low_bytes, names_of, requests_of}
use Rattle.history.specs.declared.plans.Plan.{Plan}

-- The bytes are the text of a script, which plays this: the world of its first line, its objects, and its steps and
-- relayouts, in order, each with the numbers of its names.
pub record IsPlanOf (plan : Plan) (bytes : List ℕ) : Type 0 where
  pub lines : List Line
  pub script : IsScript lines
  pub text : bytes ≡ script_text lines
  pub world : IsWorldWith plan.monitors plan.indices plan.split lines
  pub objects : plan.names.objects ≡ object_names lines
  pub lows : plan.lows.items ≡ low_bytes lines
  pub names : plan.names ≡ names_of lines
  pub steps : plan.steps.items ≡ requests_of lines
