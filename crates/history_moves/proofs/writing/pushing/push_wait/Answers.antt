use Rattle.std.proofs.Common.{rules, ◌≡◌, ◌++◌, codes}
use Rattle.std.specs.Fmt.{signed_decimal}
use Rattle.std.proofs.lemmas.Result.{on_ok_weaker, on_err_weaker}
use Rattle.history_moves.proofs.Fronts.{front_after, three_parts}
use Rattle.history_moves.proofs.writing.pushing.push_wait.Goals as goal

pub returns-clause-told : goal.returns-clause-told
returns-clause-told c =
    let first : c.push_signed.new.text.items ≡ c.args.text.now.items ++ (codes "{\"call\":\"Wait\",\"millis\":" ++ signed_decimal c.args.millis) = search (rules, c.in_ok-push_signed.ensures.told) in
    let second : c.push_small_signed.new.text.items ≡ c.push_signed.new.text.items ++ (codes ",\"move\":\"Call\",\"nanos\":" ++ signed_decimal c.args.nanos) = search (rules, c.in_ok-push_small_signed.ensures.told) in
    on_ok_weaker c.push_two.result (three_parts _ _ _ _ _ _ _ first second) c.push_two.ensures.told

pub returns-clause-front : goal.returns-clause-front
returns-clause-front c =
    on_err_weaker c.push_two.result
    (λ e. front_after _ _ _ _ c.in_ok-push_signed.ensures.told (front_after _ _ _ _ c.in_ok-push_small_signed.ensures.told e))
    c.push_two.ensures.front
