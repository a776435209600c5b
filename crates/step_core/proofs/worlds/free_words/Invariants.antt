use Rattle.std.proofs.Common.{◌≡◌, take, map}
use Rattle.step_core.specs.World.{low_word}
use Rattle.step_core.proofs.worlds.free_words.Given as goal

abbrev pub invariant-loop-low : goal.invariant-loop-low
invariant-loop-low l = l.words.items ≡ map low_word (take l.low-index l.lows)
