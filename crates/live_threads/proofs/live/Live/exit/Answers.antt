use Rattle.std.proofs.Common.{rules}
use Rattle.live_threads.proofs.live.Live.exit.Goals as goal

pub returns-clause-called : goal.returns-clause-called
returns-clause-called g c = search rules

pub returns-clause-here : goal.returns-clause-here
returns-clause-here g c = search rules
