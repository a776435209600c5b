use Rattle.std.proofs.Common.{◌≡◌, ◌++◌, drop}
use Rattle.fat_monitor.specs.Numbers.{BeginsWith}
use Rattle.step_core.specs.Numbers.{words_numbers}
use Rattle.step_core.proofs.worlds.numbers.push_words.Given as goal

-- what is still to be put stands behind what is there
abbrev pub invariant-loop-word : goal.invariant-loop-word
invariant-loop-word l =
    (l.numbers.items ++ words_numbers (drop l.word-index l.words) ≡ l.initial.numbers.items ++ words_numbers l.words)
    × BeginsWith l.numbers.items l.initial.numbers.items
