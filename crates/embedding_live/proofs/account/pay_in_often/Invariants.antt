use Rattle.std.proofs.Common.{◌≡◌}
use Rattle.embedding_live.proofs.account.pay_in_often.Given as goal

abbrev pub invariant-loop : goal.invariant-loop
invariant-loop g l = l.pass.words.opening ≡ l.live
