use Rattle.std.proofs.Common.{None, arith}
use Rattle.pictures.proofs.Nexts.{drop_next, take_next}
use Rattle.pictures.proofs.Follows.{played_more, played_none}
use Rattle.pictures.proofs.LateLanes.{lanes_same, lanes_then}
use Rattle.pictures.proofs.playing.play_moves.Goals as goal

pub moves-init : goal.moves-init
moves-init c = record { played = played_none _ _ _ _ _ _ c.requires.1; kept = lanes_same _ _ _ }

pub moves-preserved : goal.moves-preserved
moves-preserved c =
    let cut = drop_next c.args.moves.now c.moves.made-index None (omega arith) in
    record {
      played = rw (take_next c.args.moves.now c.moves.made-index None (omega arith))
          (played_more _ _ _ _ _ _ _ _ _ _ _ (rw cut at c.moves.invariant.played) c.in_ok-play_move.ensures.told);
      kept = lanes_then _ _ _ _ _ _ _ c.moves.invariant.kept c.in_ok-play_move.ensures.kept;
    }
