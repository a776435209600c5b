use Rattle.std.proofs.Common.{ℕ, List, slice_index, ap, sym, rules, arith}
use Rattle.thread_index.proofs.BitLemmas.{bit_of-lowest, bit_of-below, bit_of-full}
use Rattle.thread_index.proofs.bit_row.BitRow.lowest_clear.Goals as goal

pub returns-then-word-clause-clear : goal.returns-then-word-clause-clear
returns-then-word-clause-clear c =
    bit_of-lowest c.args.self.now.words.items c.loop-j.j _ _ (ap (λ (xs : List ℕ). slice_index xs c.loop-j.j) (sym c.deref-word-items.ensures.value)) (search rules) c.if-word.true c.trailing_ones.ensures

pub returns-then-word-clause-lowest : goal.returns-then-word-clause-lowest
returns-then-word-clause-lowest c =
    bit_of-below c.args.self.now.words.items c.loop-j.j _ _ (ap (λ (xs : List ℕ). slice_index xs c.loop-j.j) (sym c.deref-word-items.ensures.value)) (search rules) c.if-word.true c.trailing_ones.ensures c.loop-j.invariant

pub returns-clause-lowest : goal.returns-clause-lowest
returns-clause-lowest c = bit_of-full c.args.self.now.words.items c.len.result (λ i below. c.loop-j.invariant i (omega arith))
