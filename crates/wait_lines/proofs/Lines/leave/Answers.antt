use Rattle.std.proofs.Common.{sym, subst}
use Rattle.wait_lines.specs.Lines.{LineMap, StandsNowhere, standing}
use Rattle.wait_lines.proofs.LineLemmas.{StandsNowhere-after_leave}
use Rattle.wait_lines.proofs.Lines.leave.Goals as goal

pub returns-in-Some-clause-gone : goal.returns-in-Some-clause-gone
returns-in-Some-clause-gone c =
    let s = c.in-Some.ensures.stands in
    subst (λ (l : LineMap). StandsNowhere l c.args.thread) (sym (c.leave_at.ensures.left c.args.thread s.0 s.1 c.in-Some.ensures.found s.2))
    (StandsNowhere-after_leave (standing c.args.self.now) c.args.thread s.0 s.1 c.in-Some.ensures.orderly s.2)

pub returns-in-None-clause-stood : goal.returns-in-None-clause-stood
returns-in-None-clause-stood c = (λ e. absurd (cc), λ s. absurd (c.in-None.ensures.none s.0 s.1 s.2))

pub returns-in-None-clause-left : goal.returns-in-None-clause-left
returns-in-None-clause-left c m r h = absurd (c.in-None.ensures.none m r h)

pub returns-in-None-clause-nodes : goal.returns-in-None-clause-nodes
returns-in-None-clause-nodes c n at = absurd (c.in-None.ensures.no_node n at)
