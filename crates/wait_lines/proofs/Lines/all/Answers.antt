use Rattle.std.proofs.Common.{arith, ap, length, ◌≡◌, ◌∙◌}
use Rattle.wait_lines.specs.Links.{chart}
use Rattle.wait_lines.specs.Lines.{LinesState, line}
use Rattle.wait_lines.specs.Arrivals.{lines_of, arrivals_of}
use Rattle.wait_lines.proofs.LineLemmas.{length-line-le}
use Rattle.wait_lines.proofs.FindingLemmas.{line-walk}
use Rattle.wait_lines.proofs.Lines.all.Goals as goal

-- the threads are those of the line
shown : (c : goal.After-new) → c.new.result ≡ line (lines_of (arrivals_of (chart c.self.inside.links))) c.args.monitor c.args.role
shown c =
    (rw c.deref.ensures.value at c.new.ensures)
    ∙ line-walk (chart c.self.inside.links) c.args.monitor c.args.role c.first_of-first.result c.self.invariant.kept c.first_of-first.ensures

pub returns-clause-threads : goal.returns-clause-threads
returns-clause-threads c = shown c ∙ ap (λ (x : LinesState). line x.lines c.args.monitor c.args.role) c.self.view_is

pub returns-clause-few : goal.returns-clause-few
returns-clause-few c =
    let same = ap length (shown c) in
    let short = length-line-le (lines_of (arrivals_of (chart c.self.inside.links))) c.args.monitor c.args.role in
    let within = c.self.invariant.kept.orderly.within in
    let few = c.self.invariant.kept.orderly.few in
    omega arith
