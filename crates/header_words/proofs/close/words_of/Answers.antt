use Rattle.std.proofs.Common.{rules, ◌≡◌, ◌+◌, ◌<◌, length, map, sym, ap, ◌∙◌, arith, vec_len, List}
use Rattle.std.specs.Prelude.{slice_index}
use Rattle.std.specs.Mem.Slots.{slots_items}
use Rattle.lock_word.specs.declared.Word.{Word}
use Rattle.header_words.proofs.Closes.{index_at, each_push}
use Rattle.header_words.proofs.close.words_of.Goals as goal

pub overflow_cast-word : goal.overflow_cast-word
overflow_cast-word g c =
    let t = c.loop-o-test.true in
    let e : slice_index (slots_items c.args.closed.now.words) (c.loop-o.o + 1) ≡ c.word.result = index_at (slots_items c.args.closed.now.words) (c.loop-o.o + 1) c.word.result c.word.ensures in
    let small : slice_index (slots_items c.args.closed.now.words) (c.loop-o.o + 1) < 4294967296 = c.requires.small c.loop-o.o t in
    let fits : c.word.result < 4294967296 = omega arith in search rules

pub loop-o-preserved : goal.loop-o-preserved
loop-o-preserved g c =
    let n : length c.loop-o.words.items ≡ vec_len c.loop-o.words = search rules in
    let filled : vec_len c.loop-o.words ≡ c.loop-o.o = c.loop-o.invariant.filled in
    let more : vec_len c.push_reserved.new.self ≡ vec_len c.loop-o.words + 1 = search rules in
    record {
      filled = omega arith;
      room = search rules;
      each = λ k lt. ap (λ (xs : List Word). slice_index (map (λ (w : Word). w.0) xs) k) c.push_reserved.ensures.items ∙ each_push c.loop-o.words.items (slots_items c.args.closed.now.words) (record { 0 = c.word.result }) c.loop-o.o (n ∙ filled) c.loop-o.invariant.each
          (sym (index_at (slots_items c.args.closed.now.words) (c.loop-o.o + 1) c.word.result c.word.ensures)) k lt;
    }
