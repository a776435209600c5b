use Rattle.std.proofs.Common.{◌≡◌, ◌<◌, length, vec_len, sym, arith, ◌∙◌}
use Rattle.std.proofs.lemmas.Bool.{eqb-true, eqb-false}
use Rattle.std.proofs.Common.{Option, None, Some, is_some, option_map, refl}
use Rattle.history_check.specs.Behind.{state_of}
use Rattle.jls_check.specs.MachineState.{MachineState}
use Rattle.history_check.proofs.Histories.{finish_begun, finish_ok}
use Rattle.history_check.proofs.checks.Check.finish.Goals as goal

is_some_map : (m : Option MachineState) → is_some (option_map state_of m) ≡ is_some m
is_some_map None = refl
is_some_map (Some m) = refl

pub returns-then-not-is_empty : goal.returns-then-not-is_empty
returns-then-not-is_empty c =
    let h = eqb-false (vec_len c.args.self.now.line) 0 (sym c.is_empty.ensures ∙ c.if-not-is_empty.true) in
    let some : 0 < length c.args.self.now.line.items = omega (arith, h, c.args.self.now.line.ok.0) in
    record { told = λ came s. finish_begun came _ _ _ some s }

pub returns : goal.returns
returns c =
    let h = eqb-true (vec_len c.args.self.now.line) 0 (sym c.is_empty.ensures ∙ c.if-not-is_empty.false) in
    let none : length c.args.self.now.line.items ≡ 0 = omega (arith, h, c.args.self.now.line.ok.0) in
    record { told = λ came s. rw c.saturating_sub.ensures (finish_ok came _ _ _ none (is_some_map c.args.self.now.machine ∙ c.if-is_none.ensures) s) }
