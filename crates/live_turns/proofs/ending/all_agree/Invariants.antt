use Rattle.std.proofs.Common.{take, All}
use Rattle.live_turns.specs.Ends.{HasOwn}
use Rattle.live_turns.proofs.ending.all_agree.Given as goal

abbrev pub invariant-loop-rest : goal.invariant-loop-rest
invariant-loop-rest g l = All (HasOwn l.log) (take l.rest-index l.rests)
