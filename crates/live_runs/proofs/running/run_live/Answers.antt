use Rattle.std.proofs.Common.{rules}
use Rattle.live_runs.proofs.running.run_live.Goals as goal

pub returns-clause-written : goal.returns-clause-written
returns-clause-written g c = search rules

pub returns-clause-written_whole : goal.returns-clause-written_whole
returns-clause-written_whole g c = search rules
