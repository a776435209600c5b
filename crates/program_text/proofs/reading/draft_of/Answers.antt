use Rattle.std.proofs.Common.{◌∙◌, sym, rules}
use Rattle.program_text.proofs.Parts.{no_line, first_goes, first_bad}
use Rattle.program_text.proofs.reading.draft_of.Goals as goal

pub returns-in_default : goal.returns-in_default
returns-in_default c = record { whole = tt; fault = no_line c.args.bytes.now (search rules) }

pub returns-in_default-2-clause-fault : goal.returns-in_default-2-clause-fault
returns-in_default-2-clause-fault c =
    first_bad c.args.bytes.now c.in-Some.first.now c.in-Some.rest.now c.in-Some.ensures.parts (sym c.in_ok-draft.ensures.draft ∙ c.in_default-2.is)

pub returns-in_err-take_lines-clause-fault : goal.returns-in_err-take_lines-clause-fault
returns-in_err-take_lines-clause-fault c =
    rw (first_goes c.in-Some-2.draft c.args.bytes.now c.in-Some.first.now c.in-Some.rest.now c.in-Some.ensures.parts
    (sym c.in_ok-draft.ensures.draft ∙ c.in-Some-2.is)) (search rules)

pub returns-clause-whole : goal.returns-clause-whole
returns-clause-whole c =
    first_goes c.in-Some-2.draft c.args.bytes.now c.in-Some.first.now c.in-Some.rest.now c.in-Some.ensures.parts
    (sym c.in_ok-draft.ensures.draft ∙ c.in-Some-2.is) ∙ c.in_ok-take_lines.ensures.whole
