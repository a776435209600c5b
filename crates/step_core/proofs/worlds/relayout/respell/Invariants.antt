use Rattle.std.proofs.Common.{◌≡◌, take, drop, ◌++◌, map}
use Rattle.step_core.specs.Relayout.{word_in}
use Rattle.step_core.proofs.worlds.relayout.respell.Given as goal

abbrev pub invariant-loop-word : goal.invariant-loop-word
invariant-loop-word l = l.word-items ≡ map (word_in l.old l.new) (take l.word-index l.fn.words.items) ++ drop l.word-index l.fn.words.items
