use Rattle.std.proofs.Common.{rules}
use Rattle.wait_lines.proofs.links.Links.clone_into.Goals as goal

pub returns : goal.returns
returns c = search rules
