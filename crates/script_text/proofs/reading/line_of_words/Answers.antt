use Rattle.std.proofs.Common.{List, ℕ, map, sym, arith, Bor}
use Rattle.std.proofs.lemmas.Grind.{common_steps}
use Rattle.std.proofs.lemmas.List.{length-map}
use Rattle.script_text.proofs.LineLaws.{few_words, five_words, many_words}
use Rattle.script_text.proofs.reading.line_of_words.Goals as goal

pub returns-in-len1 : goal.returns-in-len1
returns-in-len1 c = sym (few_words (map (λ (word : Bor (List ℕ)). word.now) c.args.words.now) (simp length-map (omega arith)))

pub returns-in-len7-up : goal.returns-in-len7-up
returns-in-len7-up c = sym (many_words (map (λ (word : Bor (List ℕ)). word.now) c.args.words.now) (simp length-map (omega arith)))

pub returns-in-len5 : goal.returns-in-len5
returns-in-len5 c = sym (five_words (map (λ (word : Bor (List ℕ)). word.now) c.args.words.now) (simp length-map (omega arith)))

pub returns-in_err-step_of_two-in-len2 : goal.returns-in_err-step_of_two-in-len2
returns-in_err-step_of_two-in-len2 c = grind (arith, common_steps)

pub returns-in-empty : goal.returns-in-empty
returns-in-empty c = grind (arith, common_steps)

pub returns-in_ok-step_of_two-in-len2 : goal.returns-in_ok-step_of_two-in-len2
returns-in_ok-step_of_two-in-len2 c = grind (arith, common_steps)

pub returns-in-len3 : goal.returns-in-len3
returns-in-len3 c = grind (arith, common_steps)

pub returns-in-len4 : goal.returns-in-len4
returns-in-len4 c = grind (arith, common_steps)

pub returns-in-len6 : goal.returns-in-len6
returns-in-len6 c = grind (arith, common_steps)
