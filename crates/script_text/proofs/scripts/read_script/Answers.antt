use Rattle.std.proofs.Common.{rules}
use Rattle.std.proofs.lemmas.Result.{err_from_is_err_and}
use Rattle.script_text.proofs.ScriptLaws.{lines_take, fails_only, is_reason, found_only}
use Rattle.script_text.proofs.scripts.read_script.Goals as goal

pub returns-in_err-lines-clause-only : goal.returns-in_err-lines-clause-only
returns-in_err-lines-clause-only c =
    let p = err_from_is_err_and c.from_residual.result c.from_residual.ensures.1 in
    λ ls is same few. rw (p.1, p.2) (fails_only c.in_err-lines.field-0.0 c.args.bytes.now ls is same c.in_err-lines.ensures)

pub returns-in_err-lines-clause-fault : goal.returns-in_err-lines-clause-fault
returns-in_err-lines-clause-fault c =
    let p = err_from_is_err_and c.from_residual.result c.from_residual.ensures.1 in
    rw (p.1, p.2) (is_reason c.in_err-lines.field-0.0 c.args.bytes.now (search rules) c.in_err-lines.ensures)

pub invariant_of-result : goal.invariant_of-result
invariant_of-result c = (lines_take c.args.bytes.now c.in_ok-lines.lines.items c.in_ok-lines.ensures).0

pub returns-clause-found : goal.returns-clause-found
returns-clause-found c = lines_take c.args.bytes.now c.in_ok-lines.lines.items c.in_ok-lines.ensures

pub returns-clause-only : goal.returns-clause-only
returns-clause-only c = λ ls is same few. found_only c.args.bytes.now c.in_ok-lines.lines.items ls is same c.in_ok-lines.ensures
