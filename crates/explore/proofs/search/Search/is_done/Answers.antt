use native.Mathlib.Omega.{arith}
use Rattle.std.proofs.lemmas.Bool.{ltb-false, ltb-true}
use Rattle.explore.proofs.Finding.{length_witnesses}
use Rattle.explore.proofs.search.Search.is_done.Goals as goal

pub returns-clause-done : goal.returns-clause-done
returns-clause-done c = λ done.
    let l = length_witnesses c.args.self.now.nodes.items in
    let h = ltb-true c.len.result c.args.most done in
    let n = c.len.ensures in
    omega (arith, l, h, n)

pub returns-clause-more : goal.returns-clause-more
returns-clause-more c = λ over.
    let l = length_witnesses c.args.self.now.nodes.items in
    let h = ltb-false c.len.result c.args.most over in
    let n = c.len.ensures in
    omega (arith, l, h, n)
