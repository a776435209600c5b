use Rattle.std.proofs.Common.{◌+◌, ◌*◌, ◌∙◌}
use Rattle.std.specs.Prelude.{slice_index}
use Rattle.word_tests.proofs.headers.words.own_word.Goals as goal

pub returns-then-acquire-clause-word : goal.returns-then-acquire-clause-word
returns-then-acquire-clause-word c = c.load.ensures.own 0 c.if-acquire.ensures.won.new_depth ∙ λ k. c.if-acquire.ensures.won.index k * 65536 + 0 + slice_index c.args.headers.now.lows 0
