use Rattle.std.proofs.Common.{rules}
use Rattle.picture_text.proofs.lanes.put_lanes.Goals as goal

pub lanes-init : goal.lanes-init
lanes-init c = search rules

pub returns : goal.returns
returns c = search rules
