use Rattle.std.proofs.Common.{◌≡◌, ◌+◌, length, map, sum}
use Rattle.live_turns.specs.Ends.{count_of}
use Rattle.live_turns.proofs.ending.gather.Given as goal

abbrev pub invariant-loop-rest : goal.invariant-loop-rest
invariant-loop-rest g l = record {
  parts : l.all.parts + length l.rests.items ≡ l.fn.all.parts + length l.fn.rests.items;
  amount : l.all.amount + sum (map count_of l.rests.items) ≡ l.fn.all.amount + sum (map count_of l.fn.rests.items);
}

abbrev pub decreases-loop-rest : goal.decreases-loop-rest
decreases-loop-rest g l = length l.rests.items
