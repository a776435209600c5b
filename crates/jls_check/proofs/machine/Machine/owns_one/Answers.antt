use Rattle.std.proofs.Common.{◌∙◌, ap, nat_eq}
use Rattle.std.specs.Prelude.{not}
use Rattle.jls_check.specs.View.{machine_in}
use Rattle.jls_check.proofs.Soundness.{some_owned}
use Rattle.jls_check.proofs.machine.Machine.owns_one.Goals as goal

pub returns : goal.returns
returns c = ap (λ n. not (nat_eq n 0)) c.owned.ensures ∙ rw (← c.self.view_is) (some_owned (machine_in c.self.inside) c.self.invariant c.args.thread)
