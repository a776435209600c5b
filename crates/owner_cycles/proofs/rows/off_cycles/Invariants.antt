use Rattle.owner_cycles.proofs.RowWalks.{AreJudged}
use Rattle.owner_cycles.proofs.rows.off_cycles.Given as goal

abbrev pub invariant-starts : goal.invariant-starts
invariant-starts l = AreJudged l.row l.seen.items l.off.items l.start
