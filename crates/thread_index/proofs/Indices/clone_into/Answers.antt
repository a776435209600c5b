use Rattle.std.proofs.Common.{arith, rules}
use Rattle.thread_index.proofs.Wholes.{length-shown}
use Rattle.thread_index.proofs.Indices.clone_into.Goals as goal

pub returns-then-are_same-clause-same : goal.returns-then-are_same-clause-same
returns-then-are_same-clause-same c = search rules

pub returns-then-are_same-clause-one_at_least : goal.returns-then-are_same-clause-one_at_least
returns-then-are_same-clause-one_at_least c =
    let long = length-shown _ _ _ _ _ c.copy.invariant c.copy.view_is in omega (arith, long, c.copy.invariant.kept.some)

pub returns-in_err-copy-inside-clause-one_at_least : goal.returns-in_err-copy-inside-clause-one_at_least
returns-in_err-copy-inside-clause-one_at_least c =
    let long = length-shown _ _ _ _ _ c.copy.invariant c.copy.view_is in omega (arith, long, c.copy.invariant.kept.some)

pub returns-clause-one_at_least : goal.returns-clause-one_at_least
returns-clause-one_at_least c =
    let long = length-shown _ _ _ _ _ c.copy.invariant c.copy.view_is in omega (arith, long, c.copy.invariant.kept.some)
