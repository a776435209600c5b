use Rattle.std.proofs.Common.{◌≡◌, ◌+◌, ◌≤◌, length}
use Rattle.script_text.specs.Lines.{parts_of}
use Rattle.program_text.specs.Drafts.{draft_from}
use Rattle.program_text.proofs.reading.take_lines.Given as goal

abbrev pub invariant-lines : goal.invariant-lines
invariant-lines l = record {
  same : draft_from l.fn.draft (parts_of l.fn.bytes) ≡ draft_from l.draft (parts_of l.rest);
  few : l.draft.lines + length l.rest ≤ 16777216;
}

abbrev pub decreases-lines : goal.decreases-lines
decreases-lines l = length l.rest
