use Rattle.std.proofs.Common.{sym, ◌∙◌}
use Rattle.thread_index.proofs.BitLemmas.{bit_of-lowest, bit_of-below, room_in, full_below}
use Rattle.thread_index.proofs.berth_bits.BerthBits.lowest_free.Goals as goal

pub returns-clause-free : goal.returns-clause-free
returns-clause-free c =
    bit_of-lowest c.args.self.now.taken.words.items c.lowest_clear-j.result c.word.result c.trailing_ones.result (sym c.word.ensures) c.word.type_inv
    (λ e. room_in c.args.self.now.taken.words.items c.args.self.now.full.words.items c.lowest_clear-j.result c.args.self.now.rows c.lowest_clear-j.ensures.clear (sym c.word.ensures ∙ e))
    c.trailing_ones.ensures

pub returns-clause-lowest : goal.returns-clause-lowest
returns-clause-lowest c =
    bit_of-below c.args.self.now.taken.words.items c.lowest_clear-j.result c.word.result c.trailing_ones.result (sym c.word.ensures) c.word.type_inv
    (λ e. room_in c.args.self.now.taken.words.items c.args.self.now.full.words.items c.lowest_clear-j.result c.args.self.now.rows c.lowest_clear-j.ensures.clear (sym c.word.ensures ∙ e))
    c.trailing_ones.ensures
    (full_below c.args.self.now.taken.words.items c.args.self.now.full.words.items c.lowest_clear-j.result c.args.self.now.rows c.lowest_clear-j.ensures.lowest)
