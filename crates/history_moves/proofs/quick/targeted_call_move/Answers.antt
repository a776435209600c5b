use Rattle.std.proofs.Common.{ℕ, List, ◌++◌, sym, ap, ◌∙◌, codes}
use Rattle.history_moves.proofs.QuickLaws.{target_call_reads, bare_call_reads}
use Rattle.history_moves.proofs.quick.targeted_call_move.Goals as goal

pub returns-in-Some : goal.returns-in-Some
returns-in-Some c = target_call_reads _ _ _ (record { 0 = c.in_ok-target.target }) _ _ (c.in-Some.ensures ∙ ap (λ (l : List ℕ). codes ",\"target\":" ++ l) c.in_ok-target.ensures.number) c.in_ok-thread.ensures.text c.in_ok-target.ensures.small c.in_ok-thread.ensures.small (sym c.in_ok-call.ensures)

pub returns : goal.returns
returns c = bare_call_reads _ _ _ _ c.in_ok-thread-2.ensures.text c.in_ok-thread-2.ensures.small (sym c.in_ok-call-2.ensures)
