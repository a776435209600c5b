use Rattle.std.proofs.Common.{◌≡◌, ℕ, ◌<◌, None, length, get_or}
use Rattle.owner_cycles.specs.Threads.{IsPosition}
use Rattle.owner_cycles.proofs.waits.positions_of.Given as goal

abbrev pub invariant-nexts : goal.invariant-nexts
invariant-nexts l = record {
  long : length l.row.items ≡ l.next-index;
  positioned : (k : ℕ) → k < l.next-index → IsPosition l.threads (get_or l.nexts k None) (get_or l.row.items k None);
}
