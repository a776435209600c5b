-- How far a search of the Java machine has come.
use Rattle.std.specs.Prelude.{◌≡◌, ℕ, ◌+◌, ◌-◌, ◌*◌, ◌<◌, ◌≤◌, List, length, slice_get, Some}
use Rattle.step_core.specs.declared.machine.Move.{Move}
use Rattle.explore.specs.declared.programs.Program.{Program}
use Rattle.explore_java.specs.declared.codes.Code.{Code}
use Rattle.explore_java.specs.JavaStates.{JavaProgramState, IsProper, after, code_of}
use Rattle.explore_java.specs.JavaFound.{IsAt, AreEnds, made_among, move_at, steps_before, witness_at}

-- the codes of the states that were found, the moves that lead to each, and the states in the queue
abbrev pub Keys : Type 0
Keys = List Code

abbrev pub Witnesses : Type 0
Witnesses = List (List Move)

abbrev pub States : Type 0
States = List JavaProgramState

-- the state with number k has this key
abbrev pub HasKey : Program → Keys → ℕ → JavaProgramState → Type 0
HasKey p keys k s = (key : Code) × (slice_get keys k ≡ Some key) × (key.numbers.items ≡ code_of p s)

-- the state with number k is known: its witness leads to it, and its key stands at k
pub record IsKnown (p : Program) (keys : Keys) (ws : Witnesses) (k : ℕ) (s : JavaProgramState) : Type 0 where
  pub leads : IsAt p ws k s
  pub proper : IsProper p s
  pub keyed : HasKey p keys k s

-- Each state that was found is known, no two have one key, and those that are still to be visited wait in their
-- order: the first states were taken already. Witnesses get longer, and none is longer by more than one move than that
-- of the state that was taken last.
pub record IsSearch (p : Program) (keys : Keys) (ws : Witnesses) (queue : States) (taken : ℕ) : Type 0 where
  pub counted : length keys ≡ length ws
  pub waiting : taken + length queue ≡ length ws
  pub known : (k : ℕ) → k < length ws → (s : JavaProgramState) × IsKnown p keys ws k s
  pub distinct : (j k : ℕ) (x y : Code) → j < k → slice_get keys j ≡ Some x → slice_get keys k ≡ Some y
      → x.numbers.items ≡ y.numbers.items → ⊥
  pub queued : (j : ℕ) (s : JavaProgramState) → slice_get queue j ≡ Some s → IsAt p ws (taken + j) s
  pub rising : (j k : ℕ) → j ≤ k → k < length ws → length (witness_at ws j) ≤ length (witness_at ws k)
  pub near : (k : ℕ) → k < length ws → length (witness_at ws k) ≤ length (witness_at ws (taken - 1)) + 1

-- the witnesses that there were stay
pub record StaysIn (ws ws' : Witnesses) : Type 0 where
  pub more : length ws ≤ length ws'
  pub same : (k : ℕ) → k < length ws → witness_at ws' k ≡ witness_at ws k

-- this state is found, and its witness is no longer than this
abbrev pub IsNear : Program → Witnesses → JavaProgramState → ℕ → Type 0
IsNear p ws s d = (k : ℕ) × (k < length ws) × IsAt p ws k s × (length (witness_at ws k) ≤ d)

-- how long a witness of what a move leads to from the state with a number may be
abbrev pub behind : Witnesses → ℕ → ℕ
behind ws k = length (witness_at ws k) + 1

-- what the first of these moves lead to from this state is found, with witnesses no longer than this
abbrev pub AreFoundFrom : Program → Witnesses → ℕ → JavaProgramState → List Move → ℕ → Type 0
AreFoundFrom p ws d s ms n =
    (i : ℕ) (s' : JavaProgramState) → i < n → after p s (move_at ms i) ≡ Some s' → IsNear p ws s' d

-- this move can be made in a state, and where it leads is found, with a witness no longer than this
abbrev pub Leads : Program → Witnesses → ℕ → JavaProgramState → Move → Type 0
Leads p ws d s m = (t : JavaProgramState) × (after p s m ≡ Some t) × IsNear p ws t d

-- the state has this number
abbrev pub HasNumber : Program → Witnesses → ℕ → JavaProgramState → Type 0
HasNumber p ws k s = (k < length ws) × IsAt p ws k s

-- what any move leads to from this state is found, with a witness no longer than this
abbrev pub AllFoundFrom : Program → Witnesses → ℕ → JavaProgramState → Type 0
AllFoundFrom p ws d s = (m : Move) (s' : JavaProgramState) → after p s m ≡ Some s' → IsNear p ws s' d

-- what any move leads to from the first states is found
abbrev pub IsClosed : Program → Witnesses → ℕ → Type 0
IsClosed p ws n = (k : ℕ) (s : JavaProgramState) → k < n → IsAt p ws k s → AllFoundFrom p ws (behind ws k) s

-- The first of these moves were tried in a state: where they lead is found, with witnesses no longer than this, and
-- those that can be made are counted.
pub record AreTried (p : Program) (ws : Witnesses) (d : ℕ) (s : JavaProgramState) (ms : List Move) (n made : ℕ)
    : Type 0 where
  pub found : AreFoundFrom p ws d s ms n
  pub counted : made ≡ made_among p s ms n
  pub few : made ≤ n

-- The first states were visited: what they lead to is found, those that are ends are noted, and the moves that can be
-- made there are counted.
pub record IsVisited (p : Program) (keys : Keys) (ws : Witnesses) (queue : States) (ends : List ℕ)
    (steps n : ℕ) : Type 0 where
  pub search : IsSearch p keys ws queue n
  pub closed : IsClosed p ws n
  pub noted : AreEnds p ws n ends
  pub counted : steps ≡ steps_before p ws n
  -- of each of 64 threads there are 68 moves at most, and one of the clock
  pub few : steps ≤ n * 4353
