use Rattle.history_moves.proofs.QuickLaws.{plain_found}
use Rattle.history_moves.proofs.quick.named_move.Goals as goal

pub returns-in-Some : goal.returns-in-Some
returns-in-Some c = plain_found _ _ _ _ _ c.in_ok-name.ensures c.in-Some.ensures.text c.in-Some.ensures.small c.plain_named.ensures
