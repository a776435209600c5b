-- Words that are escaped piece by piece.
use Rattle.std.proofs.Common.{◌≡◌, ◌⊎◌, inl, inr, ◌∙◌, sym, ap, refl, ℕ, zero, suc, ◌<◌, ◌≤◌, ◌-◌, List, [], ◌∷◌, ◌++◌, length, get_or, take, append-nil, arith}
use Rattle.std.proofs.lemmas.Bool.{cases_lt}
use Rattle.std.proofs.lemmas.Bool.Decides.{nat_tests}
use Rattle.std.proofs.lemmas.Grind.{flat_map-append}
use Rattle.std.proofs.lemmas.Str.{inside_one, chars-nil, chars_past_char}
use Rattle.std.specs.Char.{encode_utf8}
use Rattle.std.specs.Str.{IsUtf8, chars, encode_utf8_all}
use Rattle.std.specs.Prelude.{codes}
use Rattle.fat_monitor.specs.declared.actions.Cause.{Cause}
use Rattle.fat_monitor.specs.declared.actions.Cause.TheVariants as cause
use Rattle.fat_monitor.specs.declared.actions.Reply.{Reply}
use Rattle.fat_monitor.specs.declared.actions.Reply.TheVariants as reply
use Rattle.fat_monitor.specs.Names.{cause_name, reply_name}
use Rattle.picture_text.specs.Nodes.{escape, escaped}

pub escaped_append : (a b : List ℕ) → escaped (a ++ b) ≡ escaped a ++ escaped b
unfolding escaped
escaped_append a b = flat_map-append escape a b

escape_other : (c : ℕ) → (c ≡ 34 → ⊥) → (c ≡ 38 → ⊥) → (c ≡ 60 → ⊥) → (c ≡ 62 → ⊥) → escape c ≡ c ∷ []
escape_other c a b d e = grind (arith, nat_tests)

-- bytes that are not escaped one by one are not escaped together
escaped_other : (bs : List ℕ) → ((k : ℕ) → k < length bs → escape (get_or bs k 0) ≡ get_or bs k 0 ∷ []) → escaped bs ≡ bs
unfolding escaped
escaped_other [] h = refl
escaped_other (b ∷ bs) h =
    let first : escape b ≡ b ∷ [] = h 0 (omega arith) in
    let rest : escaped bs ≡ bs = escaped_other bs (λ k lt. h (suc k) (omega arith)) in
    rw first (ap (λ r. b ∷ r) rest)

pub escaped_char : (c : ℕ) → (c ≡ 34 → ⊥) → (c ≡ 38 → ⊥) → (c ≡ 60 → ⊥) → (c ≡ 62 → ⊥) → escaped (encode_utf8 c) ≡ encode_utf8 c
escaped_char c a b d e = escaped_other (encode_utf8 c) each
  where
    by : (k : ℕ) → k < length (encode_utf8 c) → (get_or (encode_utf8 c) k 0 < 128) ⊎ (128 ≤ get_or (encode_utf8 c) k 0) → escape (get_or (encode_utf8 c) k 0) ≡ get_or (encode_utf8 c) k 0 ∷ []
    by k lt (inl low) =
        let one : c ≡ get_or (encode_utf8 c) k 0 = inside_one c [] (encode_utf8 c) k (sym (append-nil _)) lt low in
        escape_other (get_or (encode_utf8 c) k 0) (λ q. a (one ∙ q)) (λ q. b (one ∙ q)) (λ q. d (one ∙ q)) (λ q. e (one ∙ q))
    by k lt (inr high) =
        escape_other (get_or (encode_utf8 c) k 0) (λ q. absurd (omega arith)) (λ q. absurd (omega arith)) (λ q. absurd (omega arith)) (λ q. absurd (omega arith))

    each : (k : ℕ) → k < length (encode_utf8 c) → escape (get_or (encode_utf8 c) k 0) ≡ get_or (encode_utf8 c) k 0 ∷ []
    each k lt = by k lt (cases_lt (get_or (encode_utf8 c) k 0) 128)

-- one character more of those that are to be written
pub front_step : (bs rest : List ℕ) (c n : ℕ) → IsUtf8 bs → bs ≡ encode_utf8 c ++ rest → 0 < n
    → escaped (encode_utf8_all (take n (chars bs))) ≡ escaped (encode_utf8 c) ++ escaped (encode_utf8_all (take (n - 1) (chars rest)))
front_step bs rest c zero u e lt = absurd (omega arith)
front_step bs rest c (suc m) u e lt =
    let less : suc m - 1 ≡ m = omega arith in
    rw (chars_past_char bs rest c u e, less) (escaped_append (encode_utf8 c) (encode_utf8_all (take m (chars rest))))

take_none : (n : ℕ) → take n (chars []) ≡ []
take_none zero = refl
take_none (suc n) = rw chars-nil refl

-- none is left
pub front_end : (bs : List ℕ) (n : ℕ) → length bs ≡ 0 → escaped (encode_utf8_all (take n (chars bs))) ≡ []
unfolding escaped
front_end [] n e = ap (λ (cs : List ℕ). escaped (encode_utf8_all cs)) (take_none n)
front_end (b ∷ bs) n e = absurd (omega arith)

-- none is to be written
pub front_none : (bs : List ℕ) (n : ℕ) → n ≡ 0 → escaped (encode_utf8_all (take n (chars bs))) ≡ []
unfolding escaped
front_none bs n e = rw e refl

-- nothing in a reply is escaped
escaped_cause : (c : Cause) → escaped (cause_name c) ≡ cause_name c
unfolding escaped
escaped_cause cause.NoMonitor = refl
escaped_cause cause.Memory = refl
escaped_cause cause.TooDeep = refl
escaped_cause cause.StillOwner = refl
escaped_cause cause.NoThread = refl

pub escaped_reply : (r : Reply) → escaped (reply_name r) ≡ reply_name r
unfolding escaped
escaped_reply (reply.Refused c) = rw (escaped_append (codes "Refused ") (cause_name c), escaped_cause c) refl
escaped_reply reply.Entered = refl
escaped_reply reply.Exited = refl
escaped_reply reply.WaitOver = refl
escaped_reply reply.Interrupted = refl
escaped_reply reply.Notified = refl
escaped_reply reply.Yes = refl
escaped_reply reply.No = refl
escaped_reply reply.Done = refl
escaped_reply reply.Ended = refl
escaped_reply reply.IllegalMonitorState = refl
escaped_reply reply.IllegalArgument = refl
