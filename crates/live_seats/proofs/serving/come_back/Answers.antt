use Rattle.std.proofs.Common.{All, false, subst}
use Rattle.live_turns.specs.Ways.{PassState, Belongs}
use Rattle.live_seats.proofs.Finishing.{all_front}
use Rattle.live_seats.proofs.serving.come_back.Goals as goal

pub loop-pass-preserved : goal.loop-pass-preserved
loop-pass-preserved g c =
    let P = λ (p : PassState). Belongs c.in-Some.house false p.holding in
    all_front P c.pop.new.self.items c.in-Some-pop.pass (subst (All P) c.in-Some-pop.ensures.items c.loop-pass.invariant)
