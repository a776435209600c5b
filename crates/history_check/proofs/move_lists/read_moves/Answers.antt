use Rattle.std.proofs.Common.{arith, []}
use Rattle.std.proofs.lemmas.Result.{err_from_is_err_and}
use Rattle.history_check.proofs.Reading.{weaken}
use Rattle.history_check.proofs.move_lists.read_moves.Goals as goal

pub feed-requires : goal.feed-requires
feed-requires c = omega (arith, c.new-check.ensures.none, c.requires)

pub returns-in_err-feed-clause-fault : goal.returns-in_err-feed-clause-fault
returns-in_err-feed-clause-fault c =
    let p = err_from_is_err_and c.from_residual.result c.from_residual.ensures.1 in
    rw (p.1, p.2) (weaken _ _ _ _ _ _ absurd (λ lost. lost) (c.in_err-feed.ensures.told [] c.new-check.ensures.right))

pub finish-requires : goal.finish-requires
finish-requires c = omega (arith, c.in_ok-feed.ensures.counted, c.new-check.ensures.none, c.requires)

pub returns-in_err-finish-clause-fault : goal.returns-in_err-finish-clause-fault
returns-in_err-finish-clause-fault c =
    let p = err_from_is_err_and c.from_residual-in_err-finish.result c.from_residual-in_err-finish.ensures.1 in
    rw (p.1, p.2) (c.in_err-finish.ensures.told _ (c.in_ok-feed.ensures.told [] c.new-check.ensures.right))

pub moves_of-requires : goal.moves_of-requires
moves_of-requires c =
    let run = c.in_ok-finish.ensures.told _ (c.in_ok-feed.ensures.told [] c.new-check.ensures.right) in
    (run.0, run.1)
