use native.Mathlib.Omega.{arith}
use Rattle.std.proofs.Common.{◌≡◌, ◌∙◌, ℕ, subst}
use Rattle.std.proofs.lemmas.Result.{IfOk-weaker}
use Rattle.jls_check.specs.MachineState.{state}
use Rattle.jls_check.specs.Numbers.{AreBelow}
use Rattle.explore_java.specs.JavaStates.{count_of}
use Rattle.explore_runs.proofs.JavaCycles.{are_all}
use Rattle.explore_runs.proofs.java_outcomes.java_cycles.Goals as goal

pub cycles_along-requires : goal.cycles_along-requires
cycles_along-requires c =
    let n = c.threads.number in
    let past = c.threads-test.false in
    let end = c.threads.auto.number-end in
    let own = c.len-number-end.ensures in
    let fit = c.args.program.now.starts.ok.0 in
    let all : count_of c.args.program.now ≡ n = omega (arith, past, end, own, fit) in
    let threads = c.deref.ensures.value ∙ c.threads.invariant.threads in
    let nexts = c.deref-2.ensures.value ∙ c.threads.invariant.nexts in
    let below : AreBelow n c.args.machine.now = subst (λ (k : ℕ). AreBelow k c.args.machine.now) all c.requires in
    let nexts_are = are_all n c.args.machine.now c.deref.result.now c.deref-2.result.now below threads nexts in
    (state c.args.machine.now, nexts_are)

pub returns : goal.returns
returns c =
    let n = c.threads.number in
    let past = c.threads-test.false in
    let end = c.threads.auto.number-end in
    let own = c.len-number-end.ensures in
    let fit = c.args.program.now.starts.ok.0 in
    let all : count_of c.args.program.now ≡ n = omega (arith, past, end, own, fit) in
    let threads = c.deref.ensures.value ∙ c.threads.invariant.threads in
    let nexts = c.deref-2.ensures.value ∙ c.threads.invariant.nexts in
    let below : AreBelow n c.args.machine.now = subst (λ (k : ℕ). AreBelow k c.args.machine.now) all c.requires in
    let nexts_are = are_all n c.args.machine.now c.deref.result.now c.deref-2.result.now below threads nexts in
    IfOk-weaker c.cycles_along.result _ _ (λ cycles h. h (state c.args.machine.now) nexts_are) c.cycles_along.ensures
