use Rattle.history.proofs.Telling.{move_more}
use Rattle.history.proofs.histories.put_moves.Goals as goal

pub moves-preserved : goal.moves-preserved
moves-preserved c =
    move_more c.args.history.now.items c.moves.history.items c.put_made.new.history.items c.args.moves.now c.moves.made-index _ c.moves-test.true c.moves.invariant c.in_ok-put_made.ensures
