use Rattle.std.proofs.Common.{◌≡◌, ◌≤◌, ◌-◌, length, take}
use Rattle.json.specs.Print.{escape}
use Rattle.history_moves.proofs.spelled.bytes.letters_in.Given as goal

abbrev pub invariant-letters : goal.invariant-letters
invariant-letters l = (l.count ≤ length l.bytes) × (escape (take l.count l.bytes) ≡ take l.count l.bytes)

abbrev pub decreases-letters : goal.decreases-letters
decreases-letters l = length l.bytes - l.count
