use Rattle.std.proofs.Common.{rules}
use Rattle.drawing.proofs.drawings.picture_in.Goals as goal

pub returns-in-Err-TooManyLanes-clause-fault : goal.returns-in-Err-TooManyLanes-clause-fault
returns-in-Err-TooManyLanes-clause-fault c = search rules
