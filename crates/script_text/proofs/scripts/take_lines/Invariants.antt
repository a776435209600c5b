use Rattle.std.proofs.Common.{◌≡◌, ◌++◌, length, [], map, string_bytes}
use Rattle.script_text.specs.Lines.{Continues, script_text}
use Rattle.script_text.specs.LinesSoFar.{IsNoted}
use Rattle.script_text.proofs.scripts.take_lines.Given as goal

abbrev pub invariant-lines : goal.invariant-lines
invariant-lines l = record { noted : IsNoted l.lines.items l.declaring (map string_bytes l.objects.keys); right : Continues [] l.lines.items; text : l.fn.bytes ≡ script_text l.lines.items ++ l.rest }

abbrev pub decreases-lines : goal.decreases-lines
decreases-lines l = length l.rest
