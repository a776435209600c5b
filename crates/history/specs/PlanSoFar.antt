-- What a script plays, as far as its lines came.
use Rattle.std.specs.Prelude.{◌≡◌, ℕ, List}
use Rattle.script_text.specs.declared.lines.Line.{Line}
use Rattle.script_text.specs.Positions.{HasCome, Position}
use Rattle.history.specs.Numbering.{IsWorldWith, low_bytes, names_of, requests_of}
use Rattle.history.specs.declared.plans.Plan.{Plan}

-- The reader of the bytes stands here, behind lines that play this.
pub record IsPlanSoFar (bytes : List ℕ) (plan : Plan) (position : Position) : Type 0 where
  pub came : List Line
  pub come : HasCome bytes came plan.names.objects position
  pub world : IsWorldWith plan.monitors plan.indices plan.split came
  pub lows : plan.lows.items ≡ low_bytes came
  pub names : plan.names ≡ names_of came
  pub steps : plan.steps.items ≡ requests_of came
