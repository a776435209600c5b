use Rattle.std.proofs.Common.{◌∙◌}
use Rattle.history.proofs.Namings.{any_named}
use Rattle.history.proofs.names.has_name.Goals as goal

pub returns : goal.returns
returns c = c.contains.ensures ∙ any_named c.args.word.now c.args.names.now.keys
