use Rattle.std.proofs.Common.{◌≡◌, drop, map}
use Rattle.program_text.specs.Lines.{numbers_from, numbers_then}
use Rattle.program_text.proofs.lines.numbers_of.Given as goal

abbrev pub invariant-words : goal.invariant-words
invariant-words l =
    numbers_from (map (λ word. word.now) l.words) ≡ numbers_then l.numbers.items (map (λ word. word.now) (drop l.word-index l.words))
