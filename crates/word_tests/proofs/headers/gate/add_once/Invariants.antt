use Rattle.std.proofs.Common.{◌≡◌, false}
use Rattle.word_tests.proofs.headers.gate.add_once.Given as goal

abbrev pub invariant-loop : goal.invariant-loop
invariant-loop l = record { belongs : l.pass.opening ≡ l.headers; without : l.pass.has_gate ≡ false }
