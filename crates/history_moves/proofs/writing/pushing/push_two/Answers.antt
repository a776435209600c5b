use Rattle.std.proofs.lemmas.Result.{on_err_weaker}
use Rattle.history_moves.proofs.Fronts.{front_after}
use Rattle.history_moves.proofs.writing.pushing.push_two.Goals as goal

pub returns-clause-front : goal.returns-clause-front
returns-clause-front c =
    on_err_weaker c.push_one.result
    (λ e. front_after _ _ _ _ c.in_ok-extend_from_slice.ensures.items (front_after _ _ _ _ c.in_ok-push_number.ensures.told e))
    c.push_one.ensures.front
