use Rattle.wait_lines.specs.Links.{chart}
use Rattle.wait_lines.proofs.IndexLemmas.{of_none, vacant-fits, none-fits}
use Rattle.wait_lines.proofs.table.Table.line_for.Goals as goal

pub returns-in-None-clause-fits : goal.returns-in-None-clause-fits
returns-in-None-clause-fits c =
    vacant-fits (chart c.args.links.now) c.args.self.now c.requires c.args.monitor c.args.role c.vacant.result c.vacant.ensures.found c.vacant.ensures.vacant
    (of_none (chart c.args.links.now) c.args.self.now c.requires c.args.monitor c.args.role c.in-None.ensures.none)

pub returns-in-None-clause-none : goal.returns-in-None-clause-none
returns-in-None-clause-none c = none-fits (chart c.args.links.now) c.args.self.now c.requires c.vacant.result c.vacant.ensures.none
