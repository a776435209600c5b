use Rattle.std.proofs.Common.{arith, ◌∙◌, None, refl}
use Rattle.std.proofs.lemmas.List.{same_lists, get_or_default}
use Rattle.thread_index.proofs.are_same.Goals as goal

pub returns : goal.returns
returns c = (
  λ t. same_lists c.args.holders.now c.args.others.now c.if-holders-others.false
      (λ k d low.
      get_or_default c.args.holders.now k d None low
      ∙ c.loop-berth.invariant k (omega (arith, low, c.loop-berth-test.false))
      ∙ get_or_default c.args.others.now k None d (omega (arith, low, c.if-holders-others.false))),
  λ same. refl,
)
