use Rattle.history_moves.proofs.QuickLaws.{notify_none_reads, notify_some_reads}
use Rattle.history_moves.proofs.quick.notify_move.Goals as goal

pub returns-in-Some : goal.returns-in-Some
returns-in-Some c = notify_none_reads _ _ _ c.in-Some.ensures c.in_ok-thread.ensures.text c.in_ok-thread.ensures.small

pub returns : goal.returns
returns c = notify_some_reads _ _ _ (record { 0 = c.in_ok-chosen.chosen }) _ c.in_ok-chosen.ensures.number c.in_ok-behind.ensures c.in_ok-thread-2.ensures.text c.in_ok-chosen.ensures.small c.in_ok-thread-2.ensures.small
