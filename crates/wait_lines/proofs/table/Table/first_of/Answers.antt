use Rattle.std.proofs.Common.{refl, inr}
use Rattle.wait_lines.specs.Links.{chart}
use Rattle.wait_lines.proofs.IndexLemmas.{of_none}
use Rattle.wait_lines.proofs.table.Table.first_of.Goals as goal

pub returns-in-None : goal.returns-in-None
returns-in-None c = inr (refl, of_none (chart c.args.links.now) c.args.self.now c.requires c.args.monitor c.args.role c.in-None.ensures.none)
