use Rattle.std.proofs.Common.{◌≤◌, ◌+◌, length, option_map}
use Rattle.history_check.specs.Behind.{state_of}
use Rattle.history_check.proofs.Histories.{Fed}
use Rattle.history_check.proofs.checks.Check.feed.Given as goal

abbrev pub invariant-pieces : goal.invariant-pieces
invariant-pieces l = record {
  fed : Fed l.fn.self.count (option_map state_of l.fn.self.machine) l.fn.self.line.items l.fn.bytes l.self.count (option_map state_of l.self.machine) l.self.line.items l.rest;
  counted : l.self.count + length l.rest ≤ l.fn.self.count + length l.fn.bytes;
}

abbrev pub decreases-pieces : goal.decreases-pieces
decreases-pieces l = length l.rest
