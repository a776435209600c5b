use Rattle.std.proofs.Common.{◌≡◌, ℕ, ◌≤◌, length}
use Rattle.json.specs.Json.{members, value}
use Rattle.serde_json.specs.Data.{no_members}
use Rattle.serde_json.specs.Read.{of_members, converted}
use Rattle.history_moves.specs.GatheredMembers.{members_in, IsCounted}
use Rattle.history_moves.proofs.spelled.tokens.token_move.Given as goal

-- The rest of the tokens, put to the members that were gathered, gives what all tokens give.
abbrev pub invariant-members : goal.invariant-members
invariant-members l =
    (n : ℕ) × (length l.reader ≤ n)
    × (converted (λ ms. of_members ms no_members) (members (value 126) (length l.initial.reader) l.initial.reader) ≡ converted (λ ms. of_members ms (members_in l.found)) (members (value 126) n l.reader))
    × IsCounted l.found

abbrev pub decreases-members : goal.decreases-members
decreases-members l = length l.reader
