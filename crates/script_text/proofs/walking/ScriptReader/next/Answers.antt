use Rattle.std.proofs.Common.{◌≡◌, ◌<◌, ◌==◌, ◌∷◌, length, false, sym, ◌∙◌, subst}
use Rattle.script_text.specs.Lines.{parts_of}
use Rattle.script_text.specs.LinesSoFar.{may_follow_by}
use Rattle.script_text.specs.Positions.{HasCome, Position}
use Rattle.script_text.proofs.Coming.{come_more, no_line_bad, refused_bad}
use Rattle.script_text.proofs.walking.ScriptReader.next.Goals as goal

pub returns-in_default-2-clause-told : goal.returns-in_default-2-clause-told
returns-in_default-2-clause-told g c =
    λ bytes came come. rw c.bad_line.ensures
    (no_line_bad bytes came (g.D.Declared.names c.args.declared.now) c.args.self.now c.in-Some.part.now c.in-Some.after.now come (sym c.in_default-2.is ∙ c.in_ok-line.ensures)
    (subst (λ (p : Position). parts_of p.rest ≡ c.in-Some.part.now ∷ parts_of c.in-Some.after.now) c.self.view_is c.in-Some.ensures.parts)
    (subst (λ (p : Position). length c.in-Some.after.now < length p.rest) c.self.view_is c.in-Some.ensures.shorter))

pub returns-then-not-follows-clause-told : goal.returns-then-not-follows-clause-told
returns-then-not-follows-clause-told g c =
    λ bytes came come. rw c.bad_line-then-not-follows.ensures
    (refused_bad bytes came (g.D.Declared.names c.args.declared.now) c.args.self.now c.in-Some.part.now c.in-Some.after.now c.in-Some-2.line come
    (sym c.in-Some-2.is ∙ c.in_ok-line.ensures)
    (subst (λ (p : Position). may_follow_by (p.count == 0) p.declaring (g.D.Declared.names c.args.declared.now) c.in-Some-2.line ≡ false) c.self.view_is (sym c.follows.ensures ∙ c.if-not-follows.true))
    (subst (λ (p : Position). parts_of p.rest ≡ c.in-Some.part.now ∷ parts_of c.in-Some.after.now) c.self.view_is c.in-Some.ensures.parts)
    (subst (λ (p : Position). length c.in-Some.after.now < length p.rest) c.self.view_is c.in-Some.ensures.shorter))

pub returns-clause-told : goal.returns-clause-told
returns-clause-told g c = λ bytes came come.
    rw c.still_declaring-self-inside.ensures
    (come_more bytes came (g.D.Declared.names c.args.declared.now) (record { count = c.self.inside.count; declaring = c.self.inside.declaring; rest = c.self.inside.rest.now }) c.in-Some.part.now c.in-Some.after.now c.in-Some-2.line
    (subst (HasCome bytes came (g.D.Declared.names c.args.declared.now)) (sym c.self.view_is) come)
    (sym c.in-Some-2.is ∙ c.in_ok-line.ensures)
    (sym c.follows.ensures ∙ c.if-not-follows.false)
    c.in-Some.ensures.parts)
