use Rattle.std.proofs.Common.{◌∷◌, ap, arith, length, length-append}
use Rattle.std.proofs.lemmas.Result.{err_from_is_err_and}
use Rattle.history_check.proofs.Histories.{Fed-ended, fed_ended, fed_last}
use Rattle.history_check.proofs.checks.Check.feed.Goals as goal

pub returns-in_err-end_with-clause-told : goal.returns-in_err-end_with-clause-told
returns-in_err-end_with-clause-told c =
    let p = err_from_is_err_and c.from_residual.result c.from_residual.ensures.1 in
    rw (p.1, p.2) (fed_ended _ _ _ _ _ _ _ _ c.in-Some.piece.now c.in-Some.after.now c.in_err-end_with.field-0.0 c.pieces.invariant.fed c.in-Some.ensures.parts c.in_err-end_with.ensures.fault)

pub pieces-preserved : goal.pieces-preserved
pieces-preserved c = record {
  fed = Fed-ended _ _ _ _ _ _ _ _ c.in-Some.piece.now c.in-Some.after.now _ _ _ c.pieces.invariant.fed c.in-Some.ensures.parts c.in_ok-end_with.ensures.small c.in_ok-end_with.ensures.ok;
  counted =
      let e = ap length c.in-Some.ensures.parts.1 in
      let l = length-append c.in-Some.piece.now (10 ∷ c.in-Some.after.now) in
      let n = c.in_ok-end_with.ensures.ok.1 in
      omega (arith, e, l, n);
}

pub returns-clause-told : goal.returns-clause-told
returns-clause-told c =
    fed_last c.add.result _ _ _ _ _ _ _ _ _ _ _ c.pieces.invariant.fed c.in_default.ensures.parts c.add.ensures.ok c.add.ensures.small c.add.ensures.fault
