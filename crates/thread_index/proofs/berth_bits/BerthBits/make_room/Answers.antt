use Rattle.thread_index.proofs.BitLemmas.{word_above, berth_word, AreTwoRows-above, AreTwoRows-more}
use Rattle.thread_index.proofs.berth_bits.BerthBits.make_room.Goals as goal

pub make_word-requires : goal.make_word-requires
make_word-requires c = word_above _ _ _ c.args.self.now.rows c.requires.next

pub invariant_of-self : goal.invariant_of-self
invariant_of-self c =
    record {
      rows =
          AreTwoRows-above _ _ _ _ c.args.self.now.rows (berth_word c.args.berth 0 c.requires.few).0 c.make_word.ensures.words
          c.make_word.ensures.longer c.make_word.ensures.few;
    }

pub invariant_of-self-2 : goal.invariant_of-self-2
invariant_of-self-2 c =
    let word = berth_word c.args.berth _ c.requires.few in
    record {
      rows =
          AreTwoRows-more _ _ _ _ _ c.args.self.now.rows word.0 c.make_word-2.ensures.words c.make_word.ensures.words
          c.make_word-2.ensures.few (word.1 c.in_ok-make_word.ensures.ok) c.make_word.ensures.longer c.make_word.ensures.few;
    }
