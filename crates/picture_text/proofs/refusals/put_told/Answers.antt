use Rattle.std.proofs.Common.{append_assoc}
use Rattle.picture_text.specs.Refusals.{told_node}
use Rattle.picture_text.proofs.refusals.put_told.Goals as goal

pub returns : goal.returns
unfolding told_node
returns c = rw (c.in_ok-put_escaped.ensures, c.in_ok-put_asked.ensures, append_assoc, append_assoc) at c.put_fault.ensures
