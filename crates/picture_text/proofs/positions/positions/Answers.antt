use Rattle.std.proofs.Common.{◌≡◌, ◌∙◌, ap, ℕ, Option, Some, get_or, arith}
use Rattle.std.proofs.lemmas.Option.{slice_get-get_or}
use Rattle.std.specs.Prelude.{slice_get, cond, nat_eq}
use Rattle.picture_text.proofs.Stand.{position_more}
use Rattle.picture_text.proofs.positions.positions.Goals as goal

pub lanes-preserved : goal.lanes-preserved
lanes-preserved c = λ q.
    let there : slice_get c.args.lanes.now c.lanes.number ≡ Some (get_or c.args.lanes.now c.lanes.number c.index-lanes-number.result) =
    slice_get-get_or c.args.lanes.now c.lanes.number _ (omega arith) in
    position_more c.args.lanes.now c.lanes.number q _ _ there
    (c.in_ok-insert.ensures.updates.0 q ∙ ap (λ (o : Option ℕ). cond (nat_eq (get_or c.args.lanes.now c.lanes.number c.index-lanes-number.result).thread.0 q) (Some c.lanes.number) o) (c.lanes.invariant q))
