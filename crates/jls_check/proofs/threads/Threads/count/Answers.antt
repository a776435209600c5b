use Rattle.std.proofs.Common.{sym, ◌∙◌}
use Rattle.jls_check.proofs.Positions.{len_records}
use Rattle.jls_check.proofs.threads.Threads.count.Goals as goal

pub returns-clause-count : goal.returns-clause-count
returns-clause-count c =
    rw (← c.self.view_is) (c.len.ensures.len ∙ sym (len_records c.self.inside.slots.items c.self.inside.positions.entries c.len.ensures.ordered))
