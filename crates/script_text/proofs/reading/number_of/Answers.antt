use Rattle.std.proofs.Common.{◌∙◌, sym}
use Rattle.script_text.proofs.Numerals.{parsed}
use Rattle.script_text.proofs.reading.number_of.Goals as goal

pub returns-then-is_number : goal.returns-then-is_number
returns-then-is_number c = c.ok.ensures.value ∙ parsed c.args.word.now c.parse.result (sym c.is_number.ensures ∙ c.if-is_number.true) c.parse.ensures.value.0
