use Rattle.std.proofs.Common.{◌∙◌, sym, arith}
use Rattle.live_scripts.proofs.Reading.{judged_live, judged_bad, one_script, bad_no_live}
use Rattle.live_scripts.proofs.scripts.read_live.Goals as goal

pub returns-in-Some-clause-only : goal.returns-in-Some-clause-only
returns-in-Some-clause-only c = λ ls live same few.
    absurd (bad_no_live c.args.bytes.now c.in-Some.number ls (judged_bad c.args.bytes.now c.in_ok-lines.rest.now c.in_ok-lines.lines.items c.deref.result.now c.in_ok-number.field-0 c.in-Some.number c.deref.ensures.value c.in-Some.is c.in_ok-number.ensures c.in_ok-lines.ensures) live same)

pub returns-in-Some-clause-fault : goal.returns-in-Some-clause-fault
returns-in-Some-clause-fault c =
    (omega (arith, c.if-bytes-gt-MOST_BYTES.false), judged_bad c.args.bytes.now c.in_ok-lines.rest.now c.in_ok-lines.lines.items c.deref.result.now c.in_ok-number.field-0 c.in-Some.number c.deref.ensures.value c.in-Some.is c.in_ok-number.ensures c.in_ok-lines.ensures)

pub invariant_of-result : goal.invariant_of-result
invariant_of-result c = (judged_live c.args.bytes.now c.in_ok-lines.rest.now c.in_ok-lines.lines.items c.deref.result.now c.in_ok-number.field-0 c.deref.ensures.value c.in-None.is c.in_ok-number.ensures c.in_ok-lines.ensures).0

pub returns-clause-found : goal.returns-clause-found
returns-clause-found c = judged_live c.args.bytes.now c.in_ok-lines.rest.now c.in_ok-lines.lines.items c.deref.result.now c.in_ok-number.field-0 c.deref.ensures.value c.in-None.is c.in_ok-number.ensures c.in_ok-lines.ensures

pub returns-clause-only : goal.returns-clause-only
returns-clause-only c = λ ls live same few.
    let found = judged_live c.args.bytes.now c.in_ok-lines.rest.now c.in_ok-lines.lines.items c.deref.result.now c.in_ok-number.field-0 c.deref.ensures.value c.in-None.is c.in_ok-number.ensures c.in_ok-lines.ensures in
    one_script c.in_ok-lines.lines.items ls found.0.0 live.0 (sym found.1 ∙ same)
