use Rattle.std.proofs.Common.{arith, ◌≡◌, ◌<◌, ◌+◌, ◌++◌, ℕ, List, length, get_or, drop, add-one, ap, sym, ◌∙◌}
use Rattle.std.proofs.lemmas.Grind.{common_steps}
use Rattle.std.proofs.Math.Seq.{drop-cons}
use Rattle.std.proofs.lemmas.List.{append_assoc}
use Rattle.wait_lines.specs.Lines.{LineMap}
use Rattle.fat_monitor.specs.declared.monitors.Monitor.{Monitor}
use Rattle.fat_monitor.specs.Numbers.{monitor_numbers, monitors_numbers}
use Rattle.fat_monitor.proofs.Fronts.{front_then}
use Rattle.fat_monitor.proofs.monitors.Fats.push_numbers.Goals as goal

-- the next monitor
put_monitor : (lines : LineMap) (k : ℕ) (bs : List Monitor) (d : Monitor) (before more whole : List ℕ) → k < length bs → more ≡ before ++ monitor_numbers lines k (get_or bs k d)
    → before ++ monitors_numbers lines k (drop k bs) ≡ whole → more ++ monitors_numbers lines (k + 1) (drop (k + 1) bs) ≡ whole
put_monitor lines k bs d before more whole lt m h =
    let one : List ℕ = monitor_numbers lines k (get_or bs k d) in
    let e : monitors_numbers lines k (drop k bs) ≡ one ++ monitors_numbers lines (k + 1) (drop (k + 1) bs) =
    rw (drop-cons bs k d) (ap (λ (j : ℕ). one ++ monitors_numbers lines (k + 1) (drop j bs)) (sym (add-one k))) in
    ap (λ (l : List ℕ). l ++ monitors_numbers lines (k + 1) (drop (k + 1) bs)) m
    ∙ (append_assoc before one (monitors_numbers lines (k + 1) (drop (k + 1) bs)) ∙ (ap (λ (l : List ℕ). before ++ l) (sym e) ∙ h))

pub loop-number-preserved : goal.loop-number-preserved
loop-number-preserved c =
    let i = c.loop-number.invariant in (
      put_monitor c.args.self.now.standing.lines c.loop-number.number c.deref-monitor-items.result.now _ c.loop-number.numbers.items c.push_monitor.new.numbers.items _
          c.loop-number-test.true c.in_ok-push_monitor.ensures.written i.0,
      front_then c.args.numbers.now.items c.loop-number.numbers.items c.push_monitor.new.numbers.items i.1 c.push_monitor.ensures.front,
    )

pub returns-in_err-push_monitor-clause-front : goal.returns-in_err-push_monitor-clause-front
returns-in_err-push_monitor-clause-front c = front_then c.args.numbers.now.items c.loop-number.numbers.items c.push_monitor.new.numbers.items c.loop-number.invariant.1 c.push_monitor.ensures.front

pub returns-clause-written : goal.returns-clause-written
returns-clause-written c = grind (arith, common_steps)
