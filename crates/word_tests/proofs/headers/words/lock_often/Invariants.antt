use Rattle.std.proofs.Common.{◌≡◌, false}
use Rattle.header_words.specs.Events.{depth}
use Rattle.word_tests.proofs.headers.words.lock_often.Given as goal

abbrev pub invariant-loop-done : goal.invariant-loop-done
invariant-loop-done l = record { belongs : l.pass.opening ≡ l.headers; free : depth 0 l.pass.mine ≡ 0; without : l.pass.has_gate ≡ false }
