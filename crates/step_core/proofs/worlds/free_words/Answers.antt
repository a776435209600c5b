use Rattle.std.proofs.lemmas.Grind.{common_steps}
use Rattle.std.proofs.Common.{arith, ℕ, List, map, ap, ◌∙◌}
use Rattle.std.proofs.lemmas.List.{take_all}
use Rattle.step_core.specs.World.{low_word}
use Rattle.step_core.proofs.worlds.free_words.Goals as goal

pub loop-low-preserved : goal.loop-low-preserved
loop-low-preserved c = grind (arith, common_steps)

pub returns : goal.returns
returns c = c.loop-low.invariant ∙ ap (λ (ls : List ℕ). map low_word ls) (take_all c.loop-low.low-index c.args.lows.now c.loop-low-test.false)
