use Rattle.std.proofs.Common.{ℕ, List, ◌++◌, sym, ap, ◌∙◌, codes}
use Rattle.history_moves.proofs.QuickLaws.{return_reads}
use Rattle.history_moves.proofs.quick.return_move.Goals as goal

pub returns : goal.returns
returns c = return_reads _ _ _ _ _ (c.in_ok-behind.ensures ∙ ap (λ (l : List ℕ). codes ",\"reply\":\"" ++ l) c.in_ok-word.ensures) c.in_ok-thread.ensures.text c.in_ok-thread.ensures.small (sym c.in_ok-reply.ensures)
