use Rattle.std.proofs.Common.{◌≡◌, length}
use Rattle.wait_lines.specs.declared.Role.TheVariants.{Waiting as WaitSet}
use Rattle.fat_monitor.specs.FatState.{line_of}
use Rattle.fat_monitor.specs.Acting.{after_removals}
use Rattle.fat_monitor.proofs.monitors.Fats.notify_all.Given as goal

abbrev pub invariant-loop-first : goal.invariant-loop-first
invariant-loop-first l = record {
  removed : after_removals l.self (line_of l.self l.monitor WaitSet) ≡ after_removals l.fn.self (line_of l.fn.self l.monitor WaitSet);
  monitors : l.self.monitors ≡ l.fn.self.monitors;
}

abbrev pub decreases-loop-first : goal.decreases-loop-first
decreases-loop-first l = length (line_of l.self l.monitor WaitSet)
