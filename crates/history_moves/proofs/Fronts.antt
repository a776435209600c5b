-- Lists that begin with another one; and the text of a wait.
use Rattle.std.proofs.Common.{◌≡◌, ℕ, ◌≤◌, List, ◌++◌, length, take, ℤ, pos, negsuc, refl, sym, ap, append_assoc, ◌∙◌, arith}
use Rattle.std.proofs.lemmas.List.{take_at, take-take, length-append}
use Rattle.serde_json.specs.Written.{compact_text}
use Rattle.serde_json.proofs.OnLiterals.{serde_json_on_literals}
use Rattle.lock_word.specs.declared.ThreadId.{ThreadId}
use Rattle.lock_word.specs.declared.ObjectId.{ObjectId}
use Rattle.fast_path.specs.declared.calls.Call.TheVariants as call
use Rattle.step_core.specs.declared.machine.Move.TheVariants as move
use Rattle.history_moves.specs.Moves.{data_of}
use Rattle.history_moves.specs.Texts.{IsFrontOf, wait_text}

pub front_after : (old mid new more : List ℕ) → mid ≡ old ++ more → IsFrontOf mid new → IsFrontOf old new
front_after old mid new more e f =
    let shorter : length old ≤ length mid = omega (arith, simp length-append at (ap length e)) in
    sym (take-take (length old) (length mid) new shorter)
    ∙ ap (take (length old)) (f ∙ e)
    ∙ take_at old more (length old) refl

pub three_parts : (old mid last new a b c : List ℕ) → mid ≡ old ++ a → last ≡ mid ++ b → new ≡ last ++ c → new ≡ old ++ (a ++ (b ++ c))
three_parts old mid last new a b c e f g =
    g ∙ ap (λ (l : List ℕ). l ++ c) (f ∙ ap (λ (l : List ℕ). l ++ b) e)
    ∙ append_assoc (old ++ a) b c ∙ append_assoc old a (b ++ c)

pub wait_is : (o : ObjectId) (millis nanos : ℤ) (t : ThreadId) → compact_text (data_of (move.Call t (call.Wait o millis nanos))) ≡ wait_text o millis nanos t
unfolding serde_json_on_literals
wait_is o (pos m) (pos n) t = refl
wait_is o (pos m) (negsuc n) t = refl
wait_is o (negsuc m) (pos n) t = refl
wait_is o (negsuc m) (negsuc n) t = refl
