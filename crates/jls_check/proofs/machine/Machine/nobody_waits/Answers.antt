use Rattle.std.proofs.Common.{◌∙◌, ap, nat_eq}
use Rattle.jls_check.specs.View.{machine_in}
use Rattle.jls_check.proofs.Soundness.{nobody_counted}
use Rattle.jls_check.proofs.machine.Machine.nobody_waits.Goals as goal

pub returns : goal.returns
returns c = ap (λ n. nat_eq n 0) c.waiting.ensures ∙ rw (← c.self.view_is) (nobody_counted (machine_in c.self.inside) c.self.invariant c.args.object)
