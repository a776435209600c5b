use Rattle.std.proofs.Common.{◌≡◌, ℕ, List, ◌∷◌, ◌++◌, Result, Ok, Err, OnOk, ap, ◌∙◌, append_assoc, string_bytes}
use Rattle.lock_word.specs.Names.{word_text}
use Rattle.history.specs.NameLists.{name_at}
use Rattle.history.specs.Reports.{shown_word}
use Rattle.history.proofs.reports.put_written.Goals as goal

written : {T F : Type 0} (r : Result T F) (old verb with_verb shown name named x y new : List ℕ) → with_verb ≡ old ++ verb → named ≡ with_verb ++ shown → shown ≡ name
    → OnOk r (new ≡ (named ++ 32 ∷ x) ++ 32 ∷ y) → OnOk r (new ≡ ((old ++ verb) ++ name) ++ 32 ∷ (x ++ 32 ∷ y))
written (Ok t) old verb with_verb shown name named x y new p q s e =
    e ∙ append_assoc named (32 ∷ x) (32 ∷ y) ∙ ap (λ (l : List ℕ). l ++ 32 ∷ (x ++ 32 ∷ y)) (q ∙ ap (λ (l : List ℕ). with_verb ++ l) s ∙ ap (λ (l : List ℕ). l ++ name) p)
written (Err t) old verb with_verb shown name named x y new p q s e = tt

pub returns : goal.returns
unfolding shown_word
returns c =
    written c.put_words.result (string_bytes c.args.report.now) c.args.verb.now (string_bytes c.push_str.new.self) c.name_of_object.result.now (name_at c.args.names.now.objects c.args.object.0)
    (string_bytes c.push_str-2.new.self) (word_text c.args.old.0) (word_text c.args.new.0) (string_bytes c.put_words.new.report) c.in_ok-push_str.ensures.bytes c.in_ok-push_str-2.ensures.bytes
    c.name_of_object.ensures c.put_words.ensures
