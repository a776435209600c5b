use Rattle.std.proofs.Common.{◌≡◌, List, ℕ, ◌∷◌, [], ◌++◌, true, refl, sym, subst, rules}
use Rattle.std.proofs.lemmas.Result.{err_from_is_err_and}
use Rattle.script_text.specs.declared.lines.Line.{Line}
use Rattle.script_text.specs.declared.lines.Line.TheVariants.{Step}
use Rattle.script_text.specs.Lines.{may_follow}
use Rattle.script_text.specs.Positions.{HasCome}
use Rattle.script_text.proofs.Ahead.{ahead_more, next_line, no_next_line, object_ahead, same_names}
use Rattle.script_text.proofs.walking.ScriptReader.check_rest.Goals as goal

pub lines-preserved-in-Some : goal.lines-preserved-in-Some
lines-preserved-in-Some g c = λ bytes came come.
    let names = g.D.Declared.names c.args.declared.now in
    let is = c.lines.invariant bytes came come in
    ahead_more bytes names c.args.self.now c.lines.ahead c.next_usual.new.self (Step c.in-Some._step) is (c.in-Some.ensures.told bytes is.came names is.come).1

pub lines-preserved : goal.lines-preserved
lines-preserved g c = λ bytes came come.
    let names = g.D.Declared.names c.args.declared.now in
    let is = c.lines.invariant bytes came come in
    let here = subst (HasCome bytes is.came names) (sym (c.in_default.ensures.none refl)) is.come in
    let next = next_line bytes is.came names c.next.new.self c.in_ok-line.field-0 c.in-Some-2.line (c.in_ok-line.ensures.told bytes is.came here) c.in-Some-2.is in
    ahead_more bytes names c.args.self.now c.lines.ahead c.next.new.self c.in-Some-2.line is
    (subst (λ (ns : List (List ℕ)). HasCome bytes (is.came ++ c.in-Some-2.line ∷ []) ns c.next.new.self) (same_names names c.in-Some-2.line c.in_default-line.not-Object) next.1)

pub returns-in_err-line : goal.returns-in_err-line
returns-in_err-line g c = record {
  told = λ bytes came come.
      let names = g.D.Declared.names c.args.declared.now in
      let is = c.lines.invariant bytes came come in
      let here = subst (HasCome bytes is.came names) (sym (c.in_default.ensures.none refl)) is.come in
      let p = err_from_is_err_and c.from_residual.result c.from_residual.ensures.1 in
      rw (p.1, p.2) (c.in_err-line.ensures.told bytes is.came here);
}

pub returns-in-Object : goal.returns-in-Object
returns-in-Object g c = record {
  told = λ bytes came come closed.
      let names = g.D.Declared.names c.args.declared.now in
      let is = c.lines.invariant bytes came come in
      let here = subst (HasCome bytes is.came names) (sym (c.in_default.ensures.none refl)) is.come in
      let next = next_line bytes is.came names c.next.new.self c.in_ok-line.field-0 c.in-Some-2.line (c.in_ok-line.ensures.told bytes is.came here) c.in-Some-2.is in
      absurd (object_ahead bytes names c.args.self.now c.lines.ahead c.in-Object.name c.in-Object.low is (subst (λ (l : Line). may_follow is.came l ≡ true) c.in-Object.is next.0) closed);
}

pub returns-in_default-2 : goal.returns-in_default-2
returns-in_default-2 g c = record {
  told = λ bytes came come closed.
      let names = g.D.Declared.names c.args.declared.now in
      let is = c.lines.invariant bytes came come in
      let here = subst (HasCome bytes is.came names) (sym (c.in_default.ensures.none refl)) is.come in
      no_next_line bytes is.came names c.next.new.self c.in_ok-line.field-0 (c.in_ok-line.ensures.told bytes is.came here) c.in_default-2.is;
}

pub lines-init : goal.lines-init
lines-init g c = search rules
