use Rattle.std.proofs.Common.{sym, ◌/◌, ◌%◌, arith}
use Rattle.thread_index.proofs.BitLemmas.{AreTwoRows-write, full_bit-clear, bit_of-here}
use Rattle.thread_index.proofs.berth_bits.BerthBits.give.Goals as goal

pub invariant_of-self : goal.invariant_of-self
invariant_of-self c =
    record {
      rows =
          AreTwoRows-write c.args.self.now.taken.words.items c.args.self.now.full.words.items _ _ (c.args.berth / 64) 0 c.args.self.now.rows
          c.clear.ensures.length c.clear-2.ensures.length c.clear.ensures.words
          (sym (full_bit-clear _ (c.args.berth % 64) (omega arith) (bit_of-here _ _ c.args.berth 0 c.clear.ensures.bits)))
          c.clear-2.ensures.bits;
    }
