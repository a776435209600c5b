use Rattle.std.proofs.Common.{append_assoc, w32, w64}
use Rattle.std.proofs.lemmas.Int.{to_z-of_z}
use Rattle.script_text.proofs.printing.put_wait.Goals as goal

pub returns : goal.returns
returns c = simp append_assoc (rw (to_z-of_z w64 c.args.millis c.ranges.millis, to_z-of_z w32 c.args.nanos c.ranges.nanos) at c.writeln.ensures.bytes)
