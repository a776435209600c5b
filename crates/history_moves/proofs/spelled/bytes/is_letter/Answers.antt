use Rattle.std.proofs.Common.{◌≡◌, ◌≤◌, ◌<◌, arith, rules}
use Rattle.json.proofs.Printed.Strings.{escape_byte_plain}
use Rattle.history_moves.proofs.spelled.bytes.is_letter.Goals as goal

pub returns : goal.returns
returns c = λ yes.
    let low : 65 ≤ c.args.byte = search rules in
    let high : c.args.byte < 123 = search rules in
    let not_between : c.args.byte ≡ 92 → ⊥ = search rules in
    escape_byte_plain c.args.byte (λ e. omega arith) not_between (omega arith)
