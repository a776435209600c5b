use native.Mathlib.Omega.{arith}
use Rattle.std.proofs.Common.{ap, length}
use Rattle.explore_java.specs.JavaFound.{FoundJavaStates}
use Rattle.explore_java.proofs.Finding.{length_witnesses}
use Rattle.explore_java.proofs.found.JavaFound.states.Goals as goal

pub returns : goal.returns
returns c =
    let l = length_witnesses c.self.inside.nodes.items in
    let v = ap (λ (f : FoundJavaStates). length f.witnesses) c.self.view_is in
    let n = c.len.ensures in
    omega (arith, l, v, n)
