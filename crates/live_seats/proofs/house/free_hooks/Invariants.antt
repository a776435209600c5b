use Rattle.std.proofs.Common.{◌≡◌, ◌≤◌, All, vec_len, vec_capacity}
use Rattle.live_seats.proofs.house.free_hooks.Given as goal

abbrev pub invariant-loop : goal.invariant-loop
invariant-loop g l = record {
  same : All (λ z. z ≡ l.turns) l.hooks.items;
  len : vec_len l.hooks ≡ l.counter;
  room : l.count ≤ vec_capacity l.hooks;
}
