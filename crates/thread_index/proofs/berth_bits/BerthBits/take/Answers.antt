use Rattle.std.proofs.Common.{sym, ap, ◌/◌, ◌∙◌, refl}
use Rattle.thread_index.specs.BitRows.{full_bit}
use Rattle.thread_index.proofs.BitLemmas.{AreTwoRows-write, bit_of-clear, full_bit-other}
use Rattle.thread_index.proofs.berth_bits.BerthBits.take.Goals as goal

pub invariant_of-self : goal.invariant_of-self
invariant_of-self c =
    record {
      rows =
          AreTwoRows-write c.args.self.now.taken.words.items c.args.self.now.full.words.items _ _ (c.args.berth / 64) 1 c.args.self.now.rows
          c.set.ensures.length c.set-then-word.ensures.length c.set.ensures.words (ap full_bit (sym c.if-word.true ∙ c.word.ensures)) c.set-then-word.ensures.bits;
    }

pub invariant_of-self-else-word : goal.invariant_of-self-else-word
invariant_of-self-else-word c =
    record {
      rows =
          AreTwoRows-write c.args.self.now.taken.words.items c.args.self.now.full.words.items _ _ (c.args.berth / 64) 0 c.args.self.now.rows
          c.set.ensures.length refl c.set.ensures.words (sym (full_bit-other _ (λ e. c.if-word.false (c.word.ensures ∙ e))))
          (bit_of-clear c.args.self.now.taken.words.items c.args.self.now.full.words.items c.args.berth c.args.self.now.rows c.requires.free);
    }
