use Rattle.fat_monitor.proofs.Overwriting.{AreBeingWritten}
use Rattle.fat_monitor.proofs.posts.copies.write_all_over.Given as goal

abbrev pub invariant-loop-key : goal.invariant-loop-key
invariant-loop-key l = record {
  may : (goal.iterator-loop-key).can_next l.key-iterator;
  ends : (goal.iterator-loop-key).is_finite l.key-iterator;
  written : AreBeingWritten l.records l.initial.over l.over l.key-iterator;
}
