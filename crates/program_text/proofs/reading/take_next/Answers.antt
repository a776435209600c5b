use Rattle.std.proofs.Common.{◌≡◌, ℕ, List, Option, Some, None, refl, sym}
use Rattle.program_text.specs.declared.lines.ProgramLine.{ProgramLine}
use Rattle.program_text.specs.Drafts.{DraftState, next_draft, with_line}
use Rattle.program_text.specs.Lines.{program_line_at}
use Rattle.program_text.proofs.reading.take_next.Goals as goal

-- what the line that is there leads to
line_leads : (d : DraftState) (bytes : List ℕ) (l : ProgramLine) (o : Option DraftState) → program_line_at bytes ≡ Some l → with_line d l ≡ o
    → next_draft d bytes ≡ o
unfolding next_draft
line_leads d bytes l o e h = rw e h

-- no line leads nowhere
no_line_leads : (d : DraftState) (bytes : List ℕ) → program_line_at bytes ≡ None → next_draft d bytes ≡ None
unfolding next_draft
no_line_leads d bytes e = rw e refl

pub returns-in_ok-take-in-Some-clause-taken : goal.returns-in_ok-take-in-Some-clause-taken
returns-in_ok-take-in-Some-clause-taken c =
    let there : program_line_at c.args.bytes.now ≡ Some c.in-Some.line = rw (sym c.in_ok-line.ensures) c.in-Some.is in
    line_leads c.args.draft.now c.args.bytes.now c.in-Some.line _ there c.in_ok-take-in-Some.ensures.taken

pub returns-in_ok-take-in-Some-clause-more : goal.returns-in_ok-take-in-Some-clause-more
returns-in_ok-take-in-Some-clause-more c = c.take.ensures.more

pub returns-in_err-take-in-Some-clause-more : goal.returns-in_err-take-in-Some-clause-more
returns-in_err-take-in-Some-clause-more c = c.take.ensures.more

pub returns-in-None-clause-taken : goal.returns-in-None-clause-taken
returns-in-None-clause-taken c =
    let none : program_line_at c.args.bytes.now ≡ None = rw (sym c.in_ok-line.ensures) c.in-None.is in
    no_line_leads c.args.draft.now c.args.bytes.now none
