use Rattle.std.proofs.Common.{rules}
use Rattle.live_turns.proofs.calls.rest.Goals as goal

pub returns-in-Said : goal.returns-in-Said
returns-in-Said c = search rules
