use Rattle.std.proofs.Common.{◌≡◌, ℕ, map, subst, sym}
use Rattle.std.specs.List.{All}
use Rattle.std.proofs.lemmas.List.Elements.{All-map}
use Rattle.header_words.specs.Passes.{Opening, new_passes}
use Rattle.header_words.proofs.Opens.{new_passes_belong}
use Rattle.live_turns.specs.Ways.{Holding, new_holding}
use Rattle.long_run.proofs.rounds.play.Goals as goal

pub play_on-requires-clause-here : goal.play_on-requires-clause-here
play_on-requires-clause-here g c κs within =
    subst (All (λ (p : Holding). p.words.opening ≡ c.in_ok-live.live)) (sym c.in_ok-live.ensures.passes) (belong c.in_ok-live.live c.args.threads)
  where
    belong : (z : Opening) (count : ℕ) → All (λ (p : Holding). p.words.opening ≡ z) (map new_holding (new_passes z 1 count))
    belong z count = All-map (λ (p : Holding). p.words.opening ≡ z) new_holding (new_passes z 1 count) (new_passes_belong z 1 count)
