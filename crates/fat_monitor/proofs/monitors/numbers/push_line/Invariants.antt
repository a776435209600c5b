use Rattle.std.proofs.Common.{◌≡◌, ◌++◌}
use Rattle.fat_monitor.specs.Numbers.{BeginsWith, line_numbers}
use Rattle.fat_monitor.proofs.monitors.numbers.push_line.Given as goal

-- what is still to be put stands behind what is there
abbrev pub invariant-loop-thread : goal.invariant-loop-thread
invariant-loop-thread l =
    (l.numbers.items ++ line_numbers l.line ≡ l.initial.numbers.items ++ line_numbers l.initial.line)
    × BeginsWith l.numbers.items l.initial.numbers.items
