use Rattle.std.proofs.Common.{◌≡◌}
use Rattle.long_run.proofs.keeping.notify.Given as goal

abbrev pub invariant-loop-object : goal.invariant-loop-object
invariant-loop-object g l = l.pass.words.opening ≡ l.live
