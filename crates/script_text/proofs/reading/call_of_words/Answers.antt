use Rattle.std.proofs.Common.{◌≡◌, ℕ, ◌<◌, List, [], ◌∷◌, length, None, map, sym, refl, arith, Bor}
use Rattle.std.proofs.lemmas.List.{length-map}
use Rattle.std.proofs.lemmas.Grind.{common_steps}
use Rattle.script_text.specs.Lines.{call_from}
use Rattle.script_text.proofs.reading.call_of_words.Goals as goal

three_words : (ws : List (List ℕ)) → length ws ≡ 3 → call_from ws ≡ None
three_words [] h = refl
three_words (v ∷ []) h = absurd (omega arith)
three_words (v ∷ a ∷ []) h = absurd (omega arith)
three_words (v ∷ a ∷ b ∷ []) h = refl
three_words (v ∷ a ∷ b ∷ c ∷ more) h = absurd (omega arith)

many_words : (ws : List (List ℕ)) → 4 < length ws → call_from ws ≡ None
many_words [] h = refl
many_words (v ∷ []) h = absurd (omega arith)
many_words (v ∷ a ∷ []) h = absurd (omega arith)
many_words (v ∷ a ∷ b ∷ []) h = refl
many_words (v ∷ a ∷ b ∷ c ∷ []) h = absurd (omega arith)
many_words (v ∷ a ∷ b ∷ c ∷ d ∷ more) h = refl

pub returns-in-len3 : goal.returns-in-len3
returns-in-len3 c = sym (three_words (map (λ (word : Bor (List ℕ)). word.now) c.args.words.now) (simp length-map (omega arith)))

pub returns-in-len5-up : goal.returns-in-len5-up
returns-in-len5-up c = sym (many_words (map (λ (word : Bor (List ℕ)). word.now) c.args.words.now) (simp length-map (omega arith)))

pub returns-in-len1 : goal.returns-in-len1
returns-in-len1 c = grind (arith, common_steps)
