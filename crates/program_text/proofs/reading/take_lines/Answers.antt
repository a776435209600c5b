use Rattle.std.proofs.Common.{◌∙◌, ℕ, Err, ap, sym, rules, arith}
use Rattle.program_text.proofs.Parts.{draft_next, draft_bad, draft_cut, draft_whole}
use Rattle.program_text.proofs.reading.take_lines.Goals as goal

pub lines-preserved : goal.lines-preserved
lines-preserved c =
    let more = c.in_ok-take_next.ensures.more in
    let short = c.in-Some.ensures.shorter in
    let few = c.lines.invariant.few in
    record {
      same = c.lines.invariant.same
          ∙ draft_next c.lines.draft c.take_next.new.draft c.lines.rest.now c.in-Some.part.now c.in-Some.after.now c.in-Some.ensures.parts
          (search rules);
      few = omega (arith, more, short, few);
    }

pub returns-then-not-branch-clause-fault : goal.returns-then-not-branch-clause-fault
returns-then-not-branch-clause-fault c =
    c.lines.invariant.same ∙ draft_bad c.lines.draft c.lines.rest.now c.in-Some.part.now c.in-Some.after.now c.in-Some.ensures.parts (search rules)
    ∙ ap (λ (n : ℕ). Err n) (sym c.next_line-number.ensures)

pub returns-then-not-is_whole-clause-fault : goal.returns-then-not-is_whole-clause-fault
returns-then-not-is_whole-clause-fault c =
    c.lines.invariant.same ∙ draft_cut c.lines.draft c.lines.rest.now c.is_whole.result (search rules) c.is_whole.ensures c.if-not-is_whole.true
    ∙ ap (λ (n : ℕ). Err n) (sym c.next_line.ensures)

pub returns-clause-whole : goal.returns-clause-whole
returns-clause-whole c =
    c.lines.invariant.same ∙ draft_whole c.lines.draft c.lines.rest.now c.is_whole.result (search rules) c.is_whole.ensures c.if-not-is_whole.false
