-- The passes of an opening belong to it.
use Rattle.std.proofs.Common.{ℕ, zero, suc, ◌<◌, map, refl, arith, false}
use Rattle.std.specs.List.{All}
use Rattle.header_words.specs.Passes.{Opening, new_passes}
use Rattle.live_turns.specs.Ways.{PassState, Belongs, new_state}

pub new_states_belong : (z : Opening) (i n : ℕ) → All (λ (p : PassState). Belongs z false p.holding) (map new_state (new_passes z i n))
new_states_belong z i zero k d lt = absurd (let l : k < 0 = lt in omega arith)
new_states_belong z i (suc n) zero d lt = (refl, refl)
new_states_belong z i (suc n) (suc k) d lt = new_states_belong z (suc i) n k d (omega arith)
