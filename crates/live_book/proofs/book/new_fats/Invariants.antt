use Rattle.std.proofs.Common.{◌≡◌, ◌≤◌}
use Rattle.fat_monitor.specs.FatState.{opened, thread_count}
use Rattle.live_book.specs.Log.{with_threads}
use Rattle.live_book.proofs.book.new_fats.Given as goal

abbrev pub invariant-loop-done : goal.invariant-loop-done
invariant-loop-done l = (l.fats ≡ with_threads l.done (opened l.monitors)) × (thread_count l.fats ≤ l.done)
