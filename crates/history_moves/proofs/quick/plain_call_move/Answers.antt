use Rattle.std.proofs.Common.{ℕ, List, ◌++◌, sym, ap, ◌∙◌, codes}
use Rattle.history_moves.proofs.QuickLaws.{object_call_reads}
use Rattle.history_moves.proofs.quick.plain_call_move.Goals as goal

pub returns-in-Some : goal.returns-in-Some
returns-in-Some c = object_call_reads _ _ _ (record { 0 = c.in_ok-object.object }) _ _ (c.in-Some.ensures ∙ ap (λ (l : List ℕ). codes ",\"object\":" ++ l) c.in_ok-object.ensures.number) c.in_ok-thread.ensures.text c.in_ok-object.ensures.small c.in_ok-thread.ensures.small (sym c.in_ok-call.ensures)
