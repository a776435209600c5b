use Rattle.std.proofs.Common.{◌≡◌, ◌++◌, drop}
use Rattle.fat_monitor.specs.Numbers.{BeginsWith}
use Rattle.step_core.specs.Numbers.{berths_numbers}
use Rattle.step_core.proofs.worlds.World.push_berths.Given as goal

-- what is still to be put stands behind what is there
abbrev pub invariant-loop-berth : goal.invariant-loop-berth
invariant-loop-berth l =
    (l.numbers.items ++ berths_numbers l.self.fats (drop l.berth l.self.berths) (drop l.berth l.place-items)
    ≡ l.initial.numbers.items ++ berths_numbers l.self.fats l.self.berths l.place-items)
    × BeginsWith l.numbers.items l.initial.numbers.items
