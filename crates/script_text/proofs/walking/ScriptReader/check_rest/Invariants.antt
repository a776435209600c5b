use Rattle.std.proofs.Common.{ℕ, List, length}
use Rattle.script_text.specs.declared.lines.Line.{Line as LineData}
use Rattle.script_text.specs.Positions.{HasCome}
use Rattle.script_text.proofs.Ahead.{IsAhead}
use Rattle.script_text.proofs.walking.ScriptReader.check_rest.Given as goal

abbrev pub invariant-lines : goal.invariant-lines
invariant-lines g l = (bytes : List ℕ) (came : List LineData) → HasCome bytes came (g.D.Declared.names l.fn.declared) l.fn.self
    → IsAhead bytes (g.D.Declared.names l.fn.declared) l.fn.self l.ahead

abbrev pub decreases-lines : goal.decreases-lines
decreases-lines g l = length l.ahead.rest
