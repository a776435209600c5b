use Rattle.pictures.proofs.LateLanes.{lanes_same, lanes_stepped}
use Rattle.pictures.proofs.playing.play_move.Goals as goal

pub returns-in_default-clause-kept : goal.returns-in_default-clause-kept
returns-in_default-clause-kept c = lanes_same _ _ _

pub returns : goal.returns
returns c = record {
  told = rw c.in-Some.is (c.in_ok-take_move.ensures, c.in_ok-put_arrows.ensures);
  kept = lanes_stepped _ _ _ _ _ _ c.in_ok-take_move.ensures c.in_ok-bring_touched.ensures;
}
