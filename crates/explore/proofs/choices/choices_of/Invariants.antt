use Rattle.std.proofs.Common.{◌≡◌}
use Rattle.explore.specs.Found.{choices_below}
use Rattle.explore.proofs.choices.choices_of.Given as goal

abbrev pub invariant-threads : goal.invariant-threads
invariant-threads l = l.choices.items ≡ choices_below l.thread
