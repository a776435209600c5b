use Rattle.std.proofs.Common.{rules}
use Rattle.pictures.proofs.arrows.put_hand_over.Goals as goal

pub returns-in_ok-push : goal.returns-in_ok-push
returns-in_ok-push c = search rules

pub returns-else-last-owner : goal.returns-else-last-owner
returns-else-last-owner c = search rules
