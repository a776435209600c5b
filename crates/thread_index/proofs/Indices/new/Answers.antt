use Rattle.thread_index.proofs.Wholes.{IsWhole-new}
use Rattle.thread_index.proofs.Indices.new.Goals as goal

pub invariant_of-result : goal.invariant_of-result
invariant_of-result c = IsWhole-new c.args.k _ _ _ c.new.ensures.items c.new-2.ensures c.new-3.ensures.empty c.requires.some c.requires.few
