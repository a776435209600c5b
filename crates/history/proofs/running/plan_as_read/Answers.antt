use Rattle.std.proofs.Common.{◌≡◌, ◌<◌, ◌≤◌, ℕ, List, [], length, Result, Err, refl, ap, ◌∙◌, subst, sym, arith}
use Rattle.std.proofs.lemmas.Result.{err_from_is_err_and}
use Rattle.script_text.specs.declared.lines.Line.TheVariants.{Step}
use Rattle.script_text.specs.Positions.{HasCome, Position}
use Rattle.script_text.specs.Scripts.{IsReasonFor}
use Rattle.text_streams.specs.declared.faults.FileFault.{FileFault}
use Rattle.text_streams.specs.declared.faults.FileFault.TheVariants.{Read}
use Rattle.history.specs.NameLists.{NameLists}
use Rattle.history.specs.PlanSoFar.{IsPlanSoFar}
use Rattle.history.proofs.PlanSoFar.{at_end, at_line, may_take_next, more_so_far, whole_plan}
use Rattle.history.proofs.running.plan_as_read.Goals as goal

not_over : {P : Type 0} (bytes : List ℕ) → length bytes ≤ 16777216 → 16777216 < length bytes → P
not_over bytes few over = absurd (omega arith)

-- the fault that is handed on
same_fault : {S T : Type 0} (r : Result T FileFault) (e d : FileFault) → r ≡ Err e → e ≡ d → ◌≡◌ {A = Result S FileFault} (Err d) (Err Read) → r ≡ Err Read
same_fault r e d p q same = cc

pub take_line-requires : goal.take_line-requires
take_line-requires c =
    let so = c.lines.invariant in
    let none = subst (HasCome c.args.bytes.now so.came c.lines.plan.names.objects) (sym (c.in_default.ensures.none refl)) so.come in
    let come = subst (HasCome c.args.bytes.now so.came c.lines.plan.names.objects) (sym (c.in_default-next_seldom.ensures.none refl)) none in
    let next = at_line c.args.bytes.now so.came c.lines.plan.names.objects c.next.new.self c.in_ok-line.field-0 c.in-Some-2.line (c.in_ok-line.ensures.told c.args.bytes.now so.came come) c.in-Some-2.is in
    may_take_next c.args.bytes.now c.lines.plan c.lines.lines c.in-Some-2.line so next.0

pub lines-preserved : goal.lines-preserved
lines-preserved c =
    let so = c.lines.invariant in
    let none = subst (HasCome c.args.bytes.now so.came c.lines.plan.names.objects) (sym (c.in_default.ensures.none refl)) so.come in
    let come = subst (HasCome c.args.bytes.now so.came c.lines.plan.names.objects) (sym (c.in_default-next_seldom.ensures.none refl)) none in
    let next = at_line c.args.bytes.now so.came c.lines.plan.names.objects c.next.new.self c.in_ok-line.field-0 c.in-Some-2.line (c.in_ok-line.ensures.told c.args.bytes.now so.came come) c.in-Some-2.is in
    more_so_far c.args.bytes.now c.lines.plan c.take_line.new.self c.lines.lines c.next.new.self c.in-Some-2.line so next.1 c.in_ok-take_line.ensures.objects c.in_ok-take_line.ensures.lows c.in_ok-take_line.ensures.names
    c.in_ok-take_line.ensures.steps c.take_line.ensures.world

pub lines-preserved-in-Some : goal.lines-preserved-in-Some
lines-preserved-in-Some c =
    let so = c.lines.invariant in
    let next = c.in-Some.ensures.told c.args.bytes.now so.came c.lines.plan.names.objects so.come in
    more_so_far c.args.bytes.now c.lines.plan c.take_step.new.self c.lines.lines c.next_usual.new.self (Step c.in-Some.step) so next.1 c.in_ok-take_step.ensures.objects c.in_ok-take_step.ensures.lows
    c.in_ok-take_step.ensures.names c.in_ok-take_step.ensures.steps c.take_step.ensures.world

pub lines-preserved-in-Some-next_seldom : goal.lines-preserved-in-Some-next_seldom
lines-preserved-in-Some-next_seldom c =
    let so = c.lines.invariant in
    let none = subst (HasCome c.args.bytes.now so.came c.lines.plan.names.objects) (sym (c.in_default.ensures.none refl)) so.come in
    let next = c.in-Some-next_seldom.ensures.told c.args.bytes.now so.came c.lines.plan.names.objects none in
    more_so_far c.args.bytes.now c.lines.plan c.take_step_apart.new.self c.lines.lines c.next_seldom.new.self (Step c.in-Some-next_seldom.step) so next.1 c.in_ok-take_step_apart.ensures.objects
    c.in_ok-take_step_apart.ensures.lows c.in_ok-take_step_apart.ensures.names c.in_ok-take_step_apart.ensures.steps c.take_step_apart.ensures.world

pub first_plan-requires : goal.first_plan-requires
first_plan-requires c =
    let start = c.in_ok-lines.ensures.start in
    subst (λ (bytes : List ℕ). HasCome bytes [] [] c.in_ok-lines.lines) start.parts start

pub lines-init : goal.lines-init
lines-init c =
    subst (λ (bytes : List ℕ). IsPlanSoFar bytes c.in_ok-plan.plan c.first_plan.new.lines) (sym c.in_ok-lines.ensures.start.parts) c.in_ok-plan.ensures.plan

pub lines-smaller-in-Some : goal.lines-smaller-in-Some
lines-smaller-in-Some c = c.in-Some.ensures.shorter

pub lines-smaller-in-Some-next_seldom : goal.lines-smaller-in-Some-next_seldom
lines-smaller-in-Some-next_seldom c =
    subst (λ (p : Position). length c.next_seldom.new.self.rest < length p.rest) (c.in_default.ensures.none refl) c.in-Some-next_seldom.ensures.shorter

pub lines-smaller : goal.lines-smaller
lines-smaller c =
    let shorter = c.in_ok-line.ensures.shorter in
    let there = rw c.in-Some-2.is at shorter in
    subst (λ (p : Position). length c.next.new.self.rest < length p.rest) (c.in_default.ensures.none refl)
    (subst (λ (p : Position). length c.next.new.self.rest < length p.rest) (c.in_default-next_seldom.ensures.none refl) there)

pub returns-in_err-lines-clause-fault : goal.returns-in_err-lines-clause-fault
returns-in_err-lines-clause-fault c =
    let p = err_from_is_err_and c.from_residual.result c.from_residual.ensures.1 in
    rw (p.1, p.2) c.in_err-lines.ensures.fault

pub returns-in_err-lines-clause-too_long : goal.returns-in_err-lines-clause-too_long
returns-in_err-lines-clause-too_long c = λ over.
    let p = err_from_is_err_and c.from_residual.result c.from_residual.ensures.1 in
    same_fault c.from_residual.result p.0 c.in_err-lines.field-0.0 p.1 p.2 (c.in_err-lines.ensures.too_long over)

pub returns-in_err-plan-clause-fault : goal.returns-in_err-plan-clause-fault
returns-in_err-plan-clause-fault c =
    let p = err_from_is_err_and c.from_residual-in_err-plan.result c.from_residual-in_err-plan.ensures.1 in
    rw (p.1, p.2) (subst (λ (bytes : List ℕ). IsReasonFor bytes c.in_err-plan.field-0.0) (sym c.in_ok-lines.ensures.start.parts) c.in_err-plan.ensures.fault)

pub returns-in_err-plan-clause-too_long : goal.returns-in_err-plan-clause-too_long
returns-in_err-plan-clause-too_long c = λ over. not_over c.args.bytes.now c.in_ok-lines.ensures.start.few over

pub returns-in_err-check_rest-clause-fault : goal.returns-in_err-check_rest-clause-fault
returns-in_err-check_rest-clause-fault c =
    let p = err_from_is_err_and c.from_residual-in_err-check_rest.result c.from_residual-in_err-check_rest.ensures.1 in
    rw (p.1, p.2) (c.in_err-check_rest.ensures.told c.args.bytes.now c.lines.invariant.came c.lines.invariant.come)

pub returns-in_err-check_rest-clause-too_long : goal.returns-in_err-check_rest-clause-too_long
returns-in_err-check_rest-clause-too_long c = λ over. not_over c.args.bytes.now c.in_ok-lines.ensures.start.few over

pub returns-in_err-take_step-clause-fault : goal.returns-in_err-take_step-clause-fault
returns-in_err-take_step-clause-fault c =
    let p = err_from_is_err_and c.from_residual-in_err-take_step.result c.from_residual-in_err-take_step.ensures.1 in
    rw (p.1, p.2) tt

pub returns-in_err-take_step-clause-too_long : goal.returns-in_err-take_step-clause-too_long
returns-in_err-take_step-clause-too_long c = λ over. not_over c.args.bytes.now c.in_ok-lines.ensures.start.few over

pub returns-in_err-take_step_apart-clause-fault : goal.returns-in_err-take_step_apart-clause-fault
returns-in_err-take_step_apart-clause-fault c =
    let p = err_from_is_err_and c.from_residual-in_err-take_step_apart.result c.from_residual-in_err-take_step_apart.ensures.1 in
    rw (p.1, p.2) tt

pub returns-in_err-take_step_apart-clause-too_long : goal.returns-in_err-take_step_apart-clause-too_long
returns-in_err-take_step_apart-clause-too_long c = λ over. not_over c.args.bytes.now c.in_ok-lines.ensures.start.few over

pub returns-in_err-line-clause-fault : goal.returns-in_err-line-clause-fault
returns-in_err-line-clause-fault c =
    let p = err_from_is_err_and c.from_residual-in_err-line.result c.from_residual-in_err-line.ensures.1 in
    let so = c.lines.invariant in
    let none = subst (HasCome c.args.bytes.now so.came c.lines.plan.names.objects) (sym (c.in_default.ensures.none refl)) so.come in
    let come = subst (HasCome c.args.bytes.now so.came c.lines.plan.names.objects) (sym (c.in_default-next_seldom.ensures.none refl)) none in
    rw (p.1, p.2) (c.in_err-line.ensures.told c.args.bytes.now so.came come)

pub returns-in_err-line-clause-too_long : goal.returns-in_err-line-clause-too_long
returns-in_err-line-clause-too_long c = λ over. not_over c.args.bytes.now c.in_ok-lines.ensures.start.few over

pub returns-in_err-take_line-clause-fault : goal.returns-in_err-take_line-clause-fault
returns-in_err-take_line-clause-fault c =
    let p = err_from_is_err_and c.from_residual-in_err-take_line.result c.from_residual-in_err-take_line.ensures.1 in
    rw (p.1, p.2) tt

pub returns-in_err-take_line-clause-too_long : goal.returns-in_err-take_line-clause-too_long
returns-in_err-take_line-clause-too_long c = λ over. not_over c.args.bytes.now c.in_ok-lines.ensures.start.few over

pub returns-in_default-2-clause-too_long : goal.returns-in_default-2-clause-too_long
returns-in_default-2-clause-too_long c = λ over. not_over c.args.bytes.now c.in_ok-lines.ensures.start.few over

pub returns-in_default-2-clause-a_script : goal.returns-in_default-2-clause-a_script
returns-in_default-2-clause-a_script c =
    let so = c.lines.invariant in
    let none = subst (HasCome c.args.bytes.now so.came c.lines.plan.names.objects) (sym (c.in_default.ensures.none refl)) so.come in
    let come = subst (HasCome c.args.bytes.now so.came c.lines.plan.names.objects) (sym (c.in_default-next_seldom.ensures.none refl)) none in
    let whole = at_end c.args.bytes.now so.came c.lines.plan.names.objects c.next.new.self c.in_ok-line.field-0 (c.in_ok-line.ensures.told c.args.bytes.now so.came come) c.in_default-2.is in
    (so.came, whole.0, whole.1)

pub returns-in_default-2-clause-a_plan : goal.returns-in_default-2-clause-a_plan
returns-in_default-2-clause-a_plan c =
    let so = c.lines.invariant in
    let none = subst (HasCome c.args.bytes.now so.came c.lines.plan.names.objects) (sym (c.in_default.ensures.none refl)) so.come in
    let come = subst (HasCome c.args.bytes.now so.came c.lines.plan.names.objects) (sym (c.in_default-next_seldom.ensures.none refl)) none in
    let whole = at_end c.args.bytes.now so.came c.lines.plan.names.objects c.next.new.self c.in_ok-line.field-0 (c.in_ok-line.ensures.told c.args.bytes.now so.came come) c.in_default-2.is in
    let plan = whole_plan c.args.bytes.now c.lines.plan c.lines.lines so whole in
    record {
      lines = plan.lines;
      script = plan.script;
      text = plan.text;
      world = plan.world;
      objects = ap (λ (n : NameLists). n.objects) c.forget_hints.ensures ∙ plan.objects;
      lows = plan.lows;
      names = c.forget_hints.ensures ∙ plan.names;
      steps = plan.steps;
    }
