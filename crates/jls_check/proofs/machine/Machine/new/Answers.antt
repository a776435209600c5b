use Rattle.std.proofs.Common.{List, ap, rules, arith}
use Rattle.std.specs.FinMap as map
use Rattle.jls_check.specs.declared.monitors.ObjectRecord.{ObjectRecord}
use Rattle.jls_check.proofs.Soundness.{opening_sound}
use Rattle.jls_check.proofs.States.{state-opening}
use Rattle.jls_check.proofs.machine.Machine.new.Goals as goal

pub invariant_of-result : goal.invariant_of-result
invariant_of-result c =
    rw (c.new.ensures) (opening_sound c.in_ok-vec.field-0.items c.args.objects (c.in_ok-vec.ensures.items_if_clones_equal (λ x e. search rules)) (omega arith))

pub returns-clause-shown : goal.returns-clause-shown
returns-clause-shown c = rw (c.new.ensures) (state-opening c.in_ok-vec.field-0.items c.args.objects (c.in_ok-vec.ensures.items_if_clones_equal (λ x e. search rules)))

pub returns-clause-made : goal.returns-clause-made
returns-clause-made c =
    rw (c.new.ensures)
    (ap (λ (os : List ObjectRecord). record { threads = map.empty; objects = os; moment = 0 }) (c.in_ok-vec.ensures.items_if_clones_equal (λ x e. search rules)))
