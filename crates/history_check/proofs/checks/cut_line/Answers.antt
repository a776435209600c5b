use Rattle.std.proofs.Common.{◌∙◌, sym}
use Rattle.history_check.proofs.Lines.{cut_at, no_feed_at}
use Rattle.history_check.proofs.checks.cut_line.Goals as goal

pub returns-in-None : goal.returns-in-None
returns-in-None c = record { parts = no_feed_at c.args.bytes.now (sym c.line_end.ensures ∙ c.in-None.is) }

pub returns-in-Some : goal.returns-in-Some
returns-in-Some c =
    let cut = cut_at c.args.bytes.now c.in-Some.end (sym c.line_end.ensures ∙ c.in-Some.is) in
    record { parts = rw (c.split_at.ensures.front, c.split_at-in-Some.ensures.back) (cut.1, cut.2) }
