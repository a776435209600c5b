use Rattle.std.proofs.Common.{◌≡◌, false}
use Rattle.word_tests.proofs.headers.gate.add_often.Given as goal

abbrev pub invariant-loop-done : goal.invariant-loop-done
invariant-loop-done l = record { belongs : l.pass.opening ≡ l.headers; without : l.pass.has_gate ≡ false }
