use Rattle.std.proofs.Common.{◌≡◌, false}
use Rattle.live_turns.specs.Ways.{Went}
use Rattle.live_threads.proofs.live.Live.finish.Given as goal

abbrev pub invariant-loop : goal.invariant-loop
invariant-loop g l = record {
  here : l.pass.holding.words.opening ≡ l.self;
  gate : l.pass.holding.words.has_gate ≡ false;
  went : Went l.fn.pass.point l.pass.point l.fn.pass.holding l.pass.holding;
}
