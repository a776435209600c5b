use native.Mathlib.Omega.{arith}
use Rattle.explore.proofs.StateCodes.{small_all}
use Rattle.explore.proofs.codes.put_dense.Goals as goal

pub returns-clause-small : goal.returns-clause-small
returns-clause-small c = small_all c.args.numbers.now (λ k. let h = c.type_inv.numbers k in omega (arith, h))
