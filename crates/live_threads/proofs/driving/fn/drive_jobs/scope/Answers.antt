use Rattle.std.proofs.Common.{rules}
use Rattle.live_threads.proofs.driving.fn.drive_jobs.scope.Goals as goal

pub returns : goal.returns
returns g c = search rules
