use Rattle.std.proofs.Common.{rules}
use Rattle.wait_lines.proofs.links.LinksClone.clone.Goals as goal

pub returns : goal.returns
returns c = search rules
