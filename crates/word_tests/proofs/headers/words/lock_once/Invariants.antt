use Rattle.std.proofs.Common.{◌≡◌}
use Rattle.header_words.specs.Events.{depth}
use Rattle.word_tests.proofs.headers.words.lock_once.Given as goal

abbrev pub invariant-loop : goal.invariant-loop
invariant-loop l = record { belongs : l.pass.opening ≡ l.headers; free : depth 0 l.pass.mine ≡ 0; gate : l.pass.has_gate ≡ l.fn.pass.has_gate }
