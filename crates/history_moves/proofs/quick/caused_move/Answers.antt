use Rattle.std.proofs.Common.{sym}
use Rattle.history_moves.proofs.QuickLaws.{refuse_reads, refused_reads}
use Rattle.history_moves.proofs.quick.caused_move.Goals as goal

pub returns-in-Some : goal.returns-in-Some
returns-in-Some c = refuse_reads _ _ _ _ _ _ c.in_ok-word.ensures c.in-Some.ensures c.in_ok-thread.ensures.text c.in_ok-thread.ensures.small (sym c.in_ok-cause.ensures)

pub returns : goal.returns
returns c = refused_reads _ _ _ _ _ _ c.in_ok-word.ensures c.in_ok-behind.ensures c.in_ok-thread-2.ensures.text c.in_ok-thread-2.ensures.small (sym c.in_ok-cause.ensures)
