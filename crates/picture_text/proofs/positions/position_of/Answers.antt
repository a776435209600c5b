use Rattle.std.proofs.Common.{◌∙◌, length}
use Rattle.picture_text.proofs.Stand.{positions_small}
use Rattle.picture_text.proofs.positions.position_of.Goals as goal

pub returns-clause-within : goal.returns-clause-within
returns-clause-within c =
    positions_small c.args.lanes.now (length c.args.lanes.now) c.args.thread.0 c.copied.result (c.copied.ensures ∙ c.get.ensures.value ∙ c.requires c.args.thread.0)
