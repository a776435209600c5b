-- The table is laid beside the definition, byte after byte, by computing.
use Rattle.std.proofs.Common.{◌≡◌, ℕ, zero, suc, ◌+◌, ◌<◌, Bool, true, false, ◌&&◌, not, nat_eq, get_or, List, [], ◌∷◌, length, refl, subst, arith}
use Rattle.std.specs.Bool.{beq}
use Rattle.std.proofs.lemmas.Bool.{and_parts}
use Rattle.script_text.specs.declared.names.TheConstants.{NAME_BYTES}
use Rattle.script_text.specs.Words.{is_name_byte}
use Rattle.script_text.proofs.names.may_stand_in_name.Goals as goal

-- from this byte on, those that stand at their own positions are those of names
alike : ℕ → List ℕ → Bool
alike from [] = true
alike from (c ∷ cs) = beq (not (nat_eq c 46)) (is_name_byte from) && alike (suc from) cs

same : (x y : Bool) → beq x y ≡ true → x ≡ y
same true true is = refl
same true false is = cc
same false true is = cc
same false false is = refl

alike_at : (cs : List ℕ) (from k : ℕ) → alike from cs ≡ true → k < length cs
    → not (nat_eq (get_or cs k 0) 46) ≡ is_name_byte (from + k)
unfolding alike
alike_at [] from k is below = absurd (omega arith)
alike_at (c ∷ cs) from zero is below = let e : from ≡ from + 0 = omega arith in
    subst (λ n. not (nat_eq c 46) ≡ is_name_byte n) e (same (not (nat_eq c 46)) (is_name_byte from) (and_parts _ _ is).0)
alike_at (c ∷ cs) from (suc k) is below = let e : suc from + k ≡ from + suc k = omega arith in
    subst (λ n. not (nat_eq (get_or cs k 0) 46) ≡ is_name_byte n) e (alike_at cs (suc from) k (and_parts _ _ is).1 (omega arith))

from_zero : (cs : List ℕ) (k : ℕ) → alike 0 cs ≡ true → k < length cs → not (nat_eq (get_or cs k 0) 46) ≡ is_name_byte k
from_zero cs k is below = let e : 0 + k ≡ k = omega arith in
    subst (λ n. not (nat_eq (get_or cs k 0) 46) ≡ is_name_byte n) e (alike_at cs 0 k is below)

pub returns : goal.returns
unfolding alike
returns c = from_zero NAME_BYTES c.args.byte refl (omega arith)
