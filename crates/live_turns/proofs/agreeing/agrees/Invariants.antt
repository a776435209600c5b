use Rattle.std.proofs.Common.{◌≡◌, ◌≤◌, length, take}
use Rattle.live_turns.specs.Ends.{own_of}
use Rattle.live_turns.proofs.agreeing.agrees.Given as goal

abbrev pub invariant-loop-entry : goal.invariant-loop-entry
invariant-loop-entry l = (own_of l.thread (take l.entry-index l.log) ≡ take l.next l.own) × (l.next ≤ length l.own)
