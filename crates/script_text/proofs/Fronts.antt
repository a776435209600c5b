-- What some bytes begin with, put together from what was cut off in front of them.
use Rattle.std.proofs.Common.{◌≡◌, ℕ, List, ◌∷◌, ◌++◌, true, refl, sym, ap, ◌∙◌, append_assoc, codes}
use Rattle.std.specs.List.{join_with_byte}
use Rattle.script_text.specs.declared.lines.Call.{Call}
use Rattle.script_text.specs.declared.lines.Call.TheVariants.{Enter, Exit, Wait, Notify, NotifyAll, Holds, Interrupt, Interrupted, IsInterrupted, End}
use Rattle.script_text.specs.declared.lines.Line.TheVariants.{Step}
use Rattle.script_text.specs.declared.lines.StepLine.TheVariants.{Begin}
use Rattle.script_text.specs.Words.{is_name}
use Rattle.script_text.specs.Lines.{call_words}
use Rattle.script_text.specs.Quick.{BeginsWithCall, BeginsWithLine}

-- a verb with its blank, and what stands behind it
pub verb_text : (bytes verb rest tail : List ℕ) → bytes ≡ verb ++ rest → rest ≡ tail → bytes ≡ verb ++ tail
verb_text bytes verb rest tail p q = p ∙ ap (λ (l : List ℕ). verb ++ l) q

words_behind : (name : List ℕ) (c : Call) → join_with_byte 32 (name ∷ call_words c) ≡ name ++ 32 ∷ join_with_byte 32 (call_words c)
words_behind name (Enter object) = refl
words_behind name (Exit object) = refl
words_behind name (Wait object millis nanos) = refl
words_behind name (Notify object) = refl
words_behind name (NotifyAll object) = refl
words_behind name (Holds object) = refl
words_behind name (Interrupt target) = refl
words_behind name Interrupted = refl
words_behind name (IsInterrupted target) = refl
words_behind name End = refl

call_behind : (name after : List ℕ) (c : Call) → name ++ 32 ∷ (join_with_byte 32 (call_words c) ++ 10 ∷ after) ≡ join_with_byte 32 (name ∷ call_words c) ++ 10 ∷ after
call_behind name after c =
    sym (ap (λ (l : List ℕ). l ++ 10 ∷ after) (words_behind name c) ∙ append_assoc name (32 ∷ join_with_byte 32 (call_words c)) (10 ∷ after))

-- a `begin`, its thread and its call
pub begin_front : (bytes rest name behind after : List ℕ) (c : Call) → bytes ≡ codes "begin " ++ rest → rest ≡ name ++ 32 ∷ behind → is_name name ≡ true
    → BeginsWithCall behind c after → BeginsWithLine bytes (Step (Begin name c)) after
begin_front bytes rest name behind after c p q named call = record {
  text = verb_text bytes (codes "begin ") rest _ p (q ∙ ap (λ (l : List ℕ). name ++ 32 ∷ l) call.text ∙ call_behind name after c);
  fits = (named, call.fits);
}
