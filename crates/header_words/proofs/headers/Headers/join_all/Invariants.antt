use Rattle.std.proofs.Common.{◌≡◌}
use Rattle.header_words.proofs.Closes.{Joining}
use Rattle.header_words.proofs.headers.Headers.join_all.Given as goal

abbrev pub invariant-loop-pass : goal.invariant-loop-pass
invariant-loop-pass g l = record {
  same_table : l.seat.table_id ≡ l.self.table;
  joining : Joining l.fn.passes.items l.passes.items l.seat.me.0;
}

abbrev pub decreases-loop-pass : goal.decreases-loop-pass
decreases-loop-pass g l = goal.left-loop-pass g l
