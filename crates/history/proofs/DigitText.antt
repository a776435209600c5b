-- Words in digits, each behind a blank, are a text; and what a push of a text leaves.
use Rattle.std.proofs.Common.{◌≡◌, ℕ, ◌/◌, ◌%◌, ◌<◌, List, [], ◌∷◌, ◌++◌, Result, Ok, Err, OnOk, is_ok, if◌then◌else◌, ap, sym, ◌∙◌, append_assoc, arith}
use Rattle.lock_word.specs.Names.{hex_digit, word_text}
use Rattle.std.specs.Str.{IsAscii, IsUtf8}
use Rattle.std.proofs.lemmas.Str.{IsUtf8-from_ascii}
use Rattle.std.proofs.lemmas.Str.Ascii.{IsAscii-nil, IsAscii-cons}

-- a blank and eight digits, and what stands behind them
behind : (a b c d e f g h : ℕ) (rest : List ℕ) → a < 128 → b < 128 → c < 128 → d < 128 → e < 128 → f < 128 → g < 128 → h < 128
    → IsAscii rest → IsAscii (32 ∷ a ∷ b ∷ c ∷ d ∷ e ∷ f ∷ g ∷ h ∷ rest)
behind a b c d e f g h rest la lb lc ld le lf lg lh l =
    IsAscii-cons 32 (a ∷ b ∷ c ∷ d ∷ e ∷ f ∷ g ∷ h ∷ rest) (omega arith) (IsAscii-cons a (b ∷ c ∷ d ∷ e ∷ f ∷ g ∷ h ∷ rest) la (IsAscii-cons b (c ∷ d ∷ e ∷ f ∷ g ∷ h ∷ rest) lb (IsAscii-cons c (d ∷ e ∷ f ∷ g ∷ h ∷ rest) lc (IsAscii-cons d (e ∷ f ∷ g ∷ h ∷ rest) ld (IsAscii-cons e (f ∷ g ∷ h ∷ rest) le (IsAscii-cons f (g ∷ h ∷ rest) lf (IsAscii-cons g (h ∷ rest) lg (IsAscii-cons h rest lh l))))))))

pub word_utf8 : (a b c d e f g h : ℕ) → a < 128 → b < 128 → c < 128 → d < 128 → e < 128 → f < 128 → g < 128 → h < 128
    → IsUtf8 (32 ∷ a ∷ b ∷ c ∷ d ∷ e ∷ f ∷ g ∷ h ∷ [])
word_utf8 a b c d e f g h la lb lc ld le lf lg lh = IsUtf8-from_ascii (32 ∷ a ∷ b ∷ c ∷ d ∷ e ∷ f ∷ g ∷ h ∷ []) (behind a b c d e f g h [] la lb lc ld le lf lg lh IsAscii-nil)

pub words_utf8 : (a b c d e f g h i j k l m n o p : ℕ) → a < 128 → b < 128 → c < 128 → d < 128 → e < 128 → f < 128 → g < 128 → h < 128
    → i < 128 → j < 128 → k < 128 → l < 128 → m < 128 → n < 128 → o < 128 → p < 128
    → IsUtf8 (32 ∷ a ∷ b ∷ c ∷ d ∷ e ∷ f ∷ g ∷ h ∷ 32 ∷ i ∷ j ∷ k ∷ l ∷ m ∷ n ∷ o ∷ p ∷ [])
words_utf8 a b c d e f g h i j k l m n o p la lb lc ld le lf lg lh li lj lk ll lm ln lo lp =
    IsUtf8-from_ascii (32 ∷ a ∷ b ∷ c ∷ d ∷ e ∷ f ∷ g ∷ h ∷ 32 ∷ i ∷ j ∷ k ∷ l ∷ m ∷ n ∷ o ∷ p ∷ [])
    (behind a b c d e f g h (32 ∷ i ∷ j ∷ k ∷ l ∷ m ∷ n ∷ o ∷ p ∷ []) la lb lc ld le lf lg lh (behind i j k l m n o p [] li lj lk ll lm ln lo lp IsAscii-nil))

-- the digits of two words, one by one
pub words_text : (x y a b c d e f g h i j k l m n o p : ℕ)
    → a ≡ hex_digit (x / 268435456)
    → b ≡ hex_digit (x / 16777216 % 16)
    → c ≡ hex_digit (x / 1048576 % 16)
    → d ≡ hex_digit (x / 65536 % 16)
    → e ≡ hex_digit (x / 4096 % 16)
    → f ≡ hex_digit (x / 256 % 16)
    → g ≡ hex_digit (x / 16 % 16)
    → h ≡ hex_digit (x % 16)
    → i ≡ hex_digit (y / 268435456)
    → j ≡ hex_digit (y / 16777216 % 16)
    → k ≡ hex_digit (y / 1048576 % 16)
    → l ≡ hex_digit (y / 65536 % 16)
    → m ≡ hex_digit (y / 4096 % 16)
    → n ≡ hex_digit (y / 256 % 16)
    → o ≡ hex_digit (y / 16 % 16)
    → p ≡ hex_digit (y % 16)
    → 32 ∷ a ∷ b ∷ c ∷ d ∷ e ∷ f ∷ g ∷ h ∷ 32 ∷ i ∷ j ∷ k ∷ l ∷ m ∷ n ∷ o ∷ p ∷ [] ≡ 32 ∷ word_text x ++ 32 ∷ word_text y
words_text x y a b c d e f g h i j k l m n o p ea eb ec ed ee ef eg eh ei ej ek el em en eo ep =
    rw (ea, eb, ec, ed, ee, ef, eg, eh, ei, ej, ek, el, em, en, eo, ep)

-- a push of a text that is two others, one behind the other
pub pushed_two : {T F : Type 0} (r : Result T F) (old text a b new : List ℕ) → text ≡ a ++ b → new ≡ (if is_ok r then old ++ text else old) → OnOk r (new ≡ (old ++ a) ++ b)
pushed_two (Ok x) old text a b new same is = is ∙ ap (λ (l : List ℕ). old ++ l) same ∙ sym (append_assoc old a b)
pushed_two (Err x) old text a b new same is = tt

-- and of one that is three others
pub pushed_three : {T F : Type 0} (r : Result T F) (old text a b c new : List ℕ) → text ≡ a ++ (b ++ c) → new ≡ (if is_ok r then old ++ text else old) → OnOk r (new ≡ ((old ++ a) ++ b) ++ c)
pushed_three (Ok x) old text a b c new same is = is ∙ ap (λ (l : List ℕ). old ++ l) same ∙ sym (append_assoc old a (b ++ c)) ∙ sym (append_assoc (old ++ a) b c)
pushed_three (Err x) old text a b c new same is = tt
