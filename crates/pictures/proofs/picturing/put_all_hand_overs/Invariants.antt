use Rattle.std.proofs.Common.{◌≡◌, ◌++◌, take, drop}
use Rattle.pictures.specs.Pictures.{AreShort, all_hand_overs}
use Rattle.pictures.proofs.picturing.put_all_hand_overs.Given as goal

abbrev pub invariant-strips : goal.invariant-strips
invariant-strips l = record {
  short : AreShort (drop l.strip-index l.strips);
  arrows : l.arrows.items ≡ l.fn.arrows.items ++ all_hand_overs (take l.strip-index l.strips);
}
