use Rattle.std.proofs.Common.{◌≡◌, false}
use Rattle.bench_live.proofs.words.gates.hold.Given as goal

abbrev pub invariant-loop : goal.invariant-loop
invariant-loop l = record { belongs : l.pass.opening ≡ l.headers; without : l.pass.has_gate ≡ false }
