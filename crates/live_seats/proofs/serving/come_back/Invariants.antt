use Rattle.std.proofs.Common.{All, length, false}
use Rattle.live_turns.specs.Ways.{PassState, Belongs}
use Rattle.live_seats.proofs.serving.come_back.Given as goal

abbrev pub invariant-loop-pass : goal.invariant-loop-pass
invariant-loop-pass g l = All (λ (p : PassState). Belongs l.house false p.holding) l.rest.items

abbrev pub decreases-loop-pass : goal.decreases-loop-pass
decreases-loop-pass g l = length l.rest.items
