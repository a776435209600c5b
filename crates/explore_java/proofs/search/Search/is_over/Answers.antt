use native.Mathlib.Omega.{arith}
use Rattle.std.proofs.Common.{◌+◌}
use Rattle.std.proofs.lemmas.Bool.{ltb-true}
use Rattle.explore_java.proofs.Finding.{length_witnesses}
use Rattle.explore_java.proofs.search.Search.is_over.Goals as goal

pub returns : goal.returns
returns c = λ over.
    let l = length_witnesses c.args.self.now.nodes.items in
    let h = ltb-true c.args.most (c.len.result + 1) over in
    let n = c.len.ensures in
    omega (arith, l, h, n)
