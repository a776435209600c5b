use Rattle.std.proofs.Common.{◌≤◌, sym, ◌∙◌, subst, ℕ}
use Rattle.script_text.proofs.NameFront.{front_name}
use Rattle.script_text.proofs.NameText.{name_utf8}
use Rattle.script_text.proofs.names.Name.at_front.Goals as goal

pub from_utf8_unchecked-text-requires : goal.from_utf8_unchecked-text-requires
from_utf8_unchecked-text-requires c =
    name_utf8 c.split_at.result.0.now (front_name c.args.bytes.now c.split_at.result.0.now c.in_ok-len.len (sym c.in_ok-len.ensures) c.split_at.ensures.front c.in-len1-up.len_at_least
    (subst (λ (n : ℕ). n ≤ 32) (sym c.split_at.ensures.front_len) c.if-len-gt-LONGEST_NAME.false) (sym c.is_letter.ensures ∙ c.if-not-is_letter.false))

pub invariant_of-result : goal.invariant_of-result
invariant_of-result c =
    rw c.from_utf8_unchecked-text.ensures
    (front_name c.args.bytes.now c.split_at.result.0.now c.in_ok-len.len (sym c.in_ok-len.ensures) c.split_at.ensures.front c.in-len1-up.len_at_least
    (subst (λ (n : ℕ). n ≤ 32) (sym c.split_at.ensures.front_len) c.if-len-gt-LONGEST_NAME.false) (sym c.is_letter.ensures ∙ c.if-not-is_letter.false))
