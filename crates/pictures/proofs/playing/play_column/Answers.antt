use Rattle.std.proofs.Common.{None, ◌+◌, arith, take, drop}
use Rattle.pictures.proofs.Nexts.{drop_next, take_next}
use Rattle.pictures.proofs.Runs.{move_lawful, move_more}
use Rattle.pictures.proofs.playing.play_column.Goals as goal

pub take_move-requires : goal.take_move-requires
take_move-requires c =
    let cut = drop_next c.args.moves.now c.moves.made-index None (omega arith) in
    move_lawful _ (take c.moves.made-index c.args.moves.now) (drop (c.moves.made-index + 1) c.args.moves.now) _ _ (rw cut at c.moves.invariant.running)

pub moves-preserved : goal.moves-preserved
moves-preserved c =
    let cut = drop_next c.args.moves.now c.moves.made-index None (omega arith) in
    record {
      running = rw (take_next c.args.moves.now c.moves.made-index None (omega arith))
          (move_more _ (take c.moves.made-index c.args.moves.now) (drop (c.moves.made-index + 1) c.args.moves.now) _ _ _ (rw cut at c.moves.invariant.running) c.in_ok-take_move.ensures);
    }
