use Rattle.std.proofs.Common.{sym, ◌∙◌}
use Rattle.jls_check.specs.View.{machine_in}
use Rattle.jls_check.proofs.Soundness.{owns_nothing}
use Rattle.jls_check.proofs.machine.Machine.end.Goals as goal

pub reply-requires-clause-ends : goal.reply-requires-clause-ends
reply-requires-clause-ends c = λ e. rw (← c.self.view_is) (owns_nothing (machine_in c.self.inside) c.self.invariant c.args.thread (rw (← c.self.view_is) at (sym c.owns_one.ensures ∙ c.if-owns_one.false)))
