use Rattle.std.proofs.Common.{◌∙◌}
use Rattle.command_line.proofs.Counts.{parsed}
use Rattle.command_line.proofs.orders.count_of.Goals as goal

pub returns : goal.returns
returns c = c.ok.ensures.value ∙ parsed c.args.text.now c.parse.result c.parse.ensures.value.0
