use Rattle.std.specs.Int.{w64}
use Rattle.std.proofs.Common.{arith}
use Rattle.std.proofs.lemmas.Nat.Bits.{bit_at_set_same, bit_at_set_other}
use Rattle.std.proofs.lemmas.List.{get_or_read}
use Rattle.thread_index.proofs.BitLemmas.{bit_of-write}
use Rattle.thread_index.proofs.bit_row.BitRow.set.Goals as goal

pub returns-clause-bits : goal.returns-clause-bits
returns-clause-bits c =
    bit_of-write c.args.self.now.words.items c.args.position c.index_mut.result.now _ 1 c.requires
    (get_or_read c.args.self.now.words.items _ _ (omega arith) c.index_mut.ensures.value 0)
    (bit_at_set_same w64 _ _ (omega arith))
    (λ i _ ne. bit_at_set_other w64 _ _ (omega arith) i ne)
