use Rattle.explore.proofs.Replying.{play_replies}
use Rattle.explore.proofs.laws.a_play_has_the_replies_of_its_steps.Goals as goal

pub returns : goal.returns
returns c = λ p cs s k leads within. play_replies p cs s k leads within
