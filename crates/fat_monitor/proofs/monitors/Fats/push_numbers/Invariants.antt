use Rattle.std.proofs.Common.{◌≡◌, ◌++◌, drop}
use Rattle.fat_monitor.specs.Numbers.{BeginsWith, monitors_numbers}
use Rattle.fat_monitor.proofs.monitors.Fats.push_numbers.Given as goal

-- what is still to be put stands behind what is there
abbrev pub invariant-loop-number : goal.invariant-loop-number
invariant-loop-number l =
    (l.numbers.items ++ monitors_numbers l.self.standing.lines l.number (drop l.number l.monitor-items)
    ≡ l.initial.numbers.items ++ monitors_numbers l.self.standing.lines 0 l.monitor-items)
    × BeginsWith l.numbers.items l.fn.numbers.items
