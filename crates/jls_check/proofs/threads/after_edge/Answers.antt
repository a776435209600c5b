use Rattle.std.proofs.Common.{rules}
use Rattle.jls_check.proofs.threads.after_edge.Goals as goal

pub returns-in-Idle : goal.returns-in-Idle
returns-in-Idle c = search rules
