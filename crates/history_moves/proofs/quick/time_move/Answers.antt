use Rattle.std.proofs.Common.{List, ℕ, ◌++◌, ap, ◌∙◌, codes}
use Rattle.history_moves.proofs.QuickLaws.{time_reads}
use Rattle.history_moves.proofs.quick.time_move.Goals as goal

pub returns-then-is_end : goal.returns-then-is_end
returns-then-is_end c = time_reads _ _ _ (c.in_ok-behind.ensures ∙ ap (λ (l : List ℕ). codes ",\"now\":" ++ l) c.in_ok-now.ensures.number) (c.is_end.ensures c.if-is_end.true) c.in_ok-now.ensures.small
