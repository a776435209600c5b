use Rattle.std.proofs.Common.{rules}
use Rattle.history.proofs.words.act_text.Goals as goal

pub returns-in-Exit : goal.returns-in-Exit
returns-in-Exit c = search rules
