use Rattle.std.proofs.Common.{◌∙◌, sym}
use Rattle.history.proofs.Namings.{absent_number, any_named, found_number}
use Rattle.history.proofs.names.listed.Goals as goal

pub returns-in_err-number : goal.returns-in_err-number
returns-in_err-number c =
    let texts = c.args.names.now.keys in
    rw c.from_residual.ensures
    (sym (absent_number c.args.word.now texts c.in_err-number.ensures.index), sym (any_named c.args.word.now texts) ∙ sym c.in_err-number.ensures.found)

pub returns : goal.returns
returns c =
    let texts = c.args.names.now.keys in
    (found_number c.args.word.now texts c.in_ok-number.field-0 c.in_ok-number.ensures.index, sym (any_named c.args.word.now texts) ∙ sym c.in_ok-number.ensures.found)
