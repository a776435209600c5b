use Rattle.std.proofs.Common.{take, drop}
use Rattle.std.specs.List.{AllZip}
use Rattle.jls_check.specs.MachineState.{state}
use Rattle.pictures.specs.Late.{IsKept}
use Rattle.pictures.proofs.Follows.{IsPlayed}
use Rattle.pictures.proofs.playing.play_moves.Given as goal

abbrev pub invariant-moves : goal.invariant-moves
invariant-moves l = record {
  played : IsPlayed l.threads l.column (state l.fn.machine) (take l.made-index l.moves) (drop l.made-index l.moves) (state l.machine) l.fn.arrows.items l.arrows.items;
  kept : AllZip (IsKept l.column (state l.fn.machine) (state l.machine)) l.fn.lanes l.lanes;
}
