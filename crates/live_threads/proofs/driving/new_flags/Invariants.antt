use Rattle.std.proofs.Common.{◌≡◌, ◌≤◌, length, vec_capacity}
use Rattle.live_threads.proofs.driving.new_flags.Given as goal

abbrev pub invariant-loop : goal.invariant-loop
invariant-loop l = record {
  len : length l.flags.items ≡ l.counter;
  room : l.fn.count ≤ vec_capacity l.flags;
}
