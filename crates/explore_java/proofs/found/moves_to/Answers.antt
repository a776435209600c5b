use Rattle.std.proofs.Common.{◌≡◌, ap, sym, ◌∙◌, ◌++◌, [], List, ℕ, rules}
use Rattle.std.specs.Prelude.{reverse}
use native.Mathlib.Omega.{arith}
use Rattle.step_core.specs.declared.machine.Move.{Move}
use Rattle.explore_java.specs.JavaFound.{witness_at, witnesses}
use Rattle.explore_java.proofs.Finding.{length_witnesses, walked, witness_first}
use Rattle.explore_java.proofs.found.moves_to.Goals as goal

pub index-node-requires : goal.index-node-requires
index-node-requires c =
    let l = length_witnesses c.args.nodes.now.items in
    let h = c.back.invariant.within in
    let t = c.back-test.true in
    omega (arith, l, h, t)

pub back-smaller : goal.back-smaller
back-smaller c =
    (walked c.args.nodes.now.items c.back.at c.index-node.result.now c.back.moves.items _ c.requires.parents c.back-test.true c.back.invariant.within
    c.index-node.ensures c.back.invariant.rest).0

pub back-preserved : goal.back-preserved
back-preserved c =
    let w = walked c.args.nodes.now.items c.back.at c.index-node.result.now c.back.moves.items _ c.requires.parents c.back-test.true c.back.invariant.within
    c.index-node.ensures c.back.invariant.rest in
    record {
      within = w.1;
      rest = rw c.in_ok-push.ensures.items w.2;
    }

pub returns : goal.returns
returns c =
    let t = c.back-test.false in
    let zero : c.back.at ≡ 0 = omega (arith, t) in
    let first : witness_at (witnesses c.args.nodes.now.items) 0 ≡ [] = witness_first c.args.nodes.now.items in
    let here : witness_at (witnesses c.args.nodes.now.items) c.back.at ≡ [] = ap (λ (k : ℕ). witness_at (witnesses c.args.nodes.now.items) k) zero ∙ first in
    c.reverse.ensures.items ∙ sym (c.back.invariant.rest ∙ ap (λ (ys : List Move). ys ++ reverse c.back.moves.items) here)

pub back-init : goal.back-init
back-init c = search rules
