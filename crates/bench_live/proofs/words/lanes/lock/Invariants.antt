use Rattle.std.proofs.Common.{◌≡◌}
use Rattle.header_words.specs.Events.{depth}
use Rattle.bench_live.proofs.words.lanes.lock.Given as goal

abbrev pub invariant-loop : goal.invariant-loop
invariant-loop l = record { belongs : l.pass.opening ≡ l.headers; free : depth l.object.0 l.pass.mine ≡ 0 }
