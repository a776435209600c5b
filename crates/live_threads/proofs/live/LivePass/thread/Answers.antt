use Rattle.std.proofs.Common.{rules}
use Rattle.live_threads.proofs.live.LivePass.thread.Goals as goal

pub returns : goal.returns
returns g c = search rules
