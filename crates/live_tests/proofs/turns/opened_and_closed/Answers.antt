use Rattle.std.proofs.Common.{All, false, sym, subst}
use Rattle.live_turns.specs.Ways.{PassState, Belongs}
use Rattle.live_tests.proofs.NewPasses.{new_states_belong}
use Rattle.live_tests.proofs.turns.opened_and_closed.Goals as goal

pub close-requires-clause-belong : goal.close-requires-clause-belong
close-requires-clause-belong g c =
    subst (All (λ (p : PassState). Belongs c.in_ok-turns.turns false p.holding)) (sym c.in_ok-turns.ensures.passes) (new_states_belong c.in_ok-turns.turns 1 c.args.size.passes)
