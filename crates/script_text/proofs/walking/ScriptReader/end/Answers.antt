use Rattle.std.proofs.Common.{◌≡◌, ◌==◌, length, true, false, sym, ◌∙◌, subst}
use Rattle.script_text.specs.Positions.{Position}
use Rattle.script_text.proofs.Coming.{come_whole, empty_bad, rest_bad}
use Rattle.script_text.proofs.walking.ScriptReader.end.Goals.{then-self-eq0-via-then-self-eq0, then-self-eq0-via-else-self-eq0+then-not-is_empty}
use Rattle.script_text.proofs.walking.ScriptReader.end.Goals as goal

pub returns-then-self-eq0 : goal.returns-then-self-eq0
returns-then-self-eq0 c =
    λ bytes came names come one. rw c.bad_line.ensures (elim c.then-self-eq0.branch [
      | then-self-eq0-via-then-self-eq0 w ↦ empty_bad bytes came names c.args.self.now come one (subst (λ (p : Position). p.count ≡ 0) c.self.view_is w.if-self-eq0.true)
      | then-self-eq0-via-else-self-eq0+then-not-is_empty w ↦
          rest_bad bytes came names c.args.self.now come one (subst (λ (p : Position). (length p.rest == 0) ≡ false) c.self.view_is (sym w.is_empty.ensures ∙ w.if-not-is_empty.true))
    ])

pub returns : goal.returns
returns c =
    λ bytes came names come one. come_whole bytes came names c.args.self.now come
    (subst (λ (p : Position). p.count ≡ 0 → ⊥) c.self.view_is c.if-self-eq0.false)
    (subst (λ (p : Position). (length p.rest == 0) ≡ true) c.self.view_is (sym c.is_empty.ensures ∙ c.if-not-is_empty.false))
