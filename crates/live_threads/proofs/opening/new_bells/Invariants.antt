use Rattle.std.proofs.Common.{◌≡◌, ◌≤◌, length, vec_capacity}
use Rattle.live_threads.proofs.opening.new_bells.Given as goal

abbrev pub invariant-loop : goal.invariant-loop
invariant-loop l = record {
  bells : length l.bells.items ≡ l.counter;
  parkers : length l.parkers.items ≡ l.counter;
  bell_room : l.fn.count ≤ vec_capacity l.bells;
  parker_room : l.fn.count ≤ vec_capacity l.parkers;
}
