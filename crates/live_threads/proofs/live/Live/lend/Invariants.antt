use Rattle.std.proofs.Common.{◌≡◌}
use Rattle.live_turns.specs.Ways.{AddsNoEvent}
use Rattle.live_threads.specs.Calls.{IsAtRest}
use Rattle.live_threads.proofs.live.Live.lend.Given as goal

abbrev pub invariant-loop : goal.invariant-loop
invariant-loop g l = record {
  here : l.pass.holding.words.opening ≡ l.self;
  rests : IsAtRest l.pass;
  words : AddsNoEvent l.fn.pass.holding.words l.pass.holding.words;
  own : l.pass.holding.own ≡ l.fn.pass.holding.own;
  same : l.pass ≡ l.fn.pass;
  lent : l.lent ≡ l.fn.f;
}
