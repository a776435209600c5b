use Rattle.std.proofs.Common.{◌≡◌, ◌++◌, drop}
use Rattle.fat_monitor.specs.Numbers.{BeginsWith}
use Rattle.jls_check.specs.Numbers.{objects_numbers}
use Rattle.jls_check.proofs.numbers.push_objects.Given as goal

-- what is still to be put stands behind what is there
abbrev pub invariant-objects : goal.invariant-objects
invariant-objects l =
    (l.numbers.items ++ objects_numbers (drop l.object-index l.objects) ≡ l.initial.numbers.items ++ objects_numbers l.objects)
    × BeginsWith l.numbers.items l.initial.numbers.items
