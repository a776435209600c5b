-- How far a search has come.
use Rattle.std.specs.Prelude.{◌≡◌, ℕ, ◌+◌, ◌-◌, ◌*◌, ◌<◌, ◌≤◌, is_some}
use Rattle.std.specs.Prelude.{Bool, true, false, List, length, slice_get, Some}
use Rattle.explore.specs.declared.codes.Code.{Code}
use Rattle.explore.specs.declared.programs.Program.{Program}
use Rattle.explore.specs.declared.programs.Choice.{Choice}
use Rattle.explore.specs.States.{ProgramState, after}
use Rattle.explore.specs.Codes.{code_of, IsCoded}
use Rattle.explore.specs.declared.tried.Tried.{Tried}
use Rattle.explore.specs.declared.queue.Queued.{Queued}
use Rattle.explore.specs.declared.tried.Tried.TheVariants as tried
use Rattle.explore.specs.Found.{IsAt, AreEnds, choice_at, made_among, steps_before, witness_at}

-- the codes of the states that were found, the choices that lead to each, and the states in the queue
abbrev pub Keys : Type 0
Keys = List Code

abbrev pub Witnesses : Type 0
Witnesses = List (List Choice)

abbrev pub Queue : Type 0
Queue = List Queued

-- the state with number k has this key
abbrev pub HasKey : Keys → ℕ → ProgramState → Type 0
HasKey keys k s = (key : Code) × (slice_get keys k ≡ Some key) × (key.bytes.items ≡ code_of s)

-- the state with number k is known: its witness leads to it, and its key stands at k
pub record IsKnown (p : Program) (keys : Keys) (ws : Witnesses) (k : ℕ) (s : ProgramState) : Type 0 where
  pub leads : IsAt p ws k s
  pub coded : IsCoded s
  pub keyed : HasKey keys k s

-- the state has this number
abbrev pub HasNumber : Program → Witnesses → ℕ → ProgramState → Type 0
HasNumber p ws k s = (k < length ws) × IsAt p ws k s

-- Each state that was found is known, no two have one key, and those in the queue have their numbers. The first states
-- have been taken for their visit. Witnesses get longer, and none is longer by more than one choice than that of the
-- state that was taken last.
pub record IsSearch (p : Program) (keys : Keys) (ws : Witnesses) (queue : Queue) (taken : ℕ) : Type 0 where
  pub counted : length keys ≡ length ws
  pub within : taken ≤ length ws
  pub known : (k : ℕ) → k < length ws → (s : ProgramState) × IsKnown p keys ws k s
  pub distinct : (j k : ℕ) (x y : Code) → j < k → slice_get keys j ≡ Some x → slice_get keys k ≡ Some y
      → x.bytes.items ≡ y.bytes.items → ⊥
  pub queued : (j : ℕ) (w : Queued) → slice_get queue j ≡ Some w → HasNumber p ws w.number w.state
  pub rising : (j k : ℕ) → j ≤ k → k < length ws → length (witness_at ws j) ≤ length (witness_at ws k)
  pub near : (k : ℕ) → k < length ws → length (witness_at ws k) ≤ length (witness_at ws (taken - 1)) + 1

-- the witnesses that there were stay
pub record StaysIn (ws ws' : Witnesses) : Type 0 where
  pub more : length ws ≤ length ws'
  pub same : (k : ℕ) → k < length ws → witness_at ws' k ≡ witness_at ws k

-- this state is found, and its witness is no longer than this
abbrev pub IsNear : Program → Witnesses → ProgramState → ℕ → Type 0
IsNear p ws s d = (k : ℕ) × (k < length ws) × IsAt p ws k s × (length (witness_at ws k) ≤ d)

-- how long a witness of what a choice leads to from the state with a number may be
abbrev pub behind : Witnesses → ℕ → ℕ
behind ws k = length (witness_at ws k) + 1

-- what the first of these choices lead to from this state is found, with witnesses no longer than this
abbrev pub AreFoundFrom : Program → Witnesses → ℕ → ProgramState → List Choice → ℕ → Type 0
AreFoundFrom p ws d s cs n =
    (i : ℕ) (s' : ProgramState) → i < n → after p s (choice_at cs i) ≡ Some s' → IsNear p ws s' d

-- none of the first of these choices changes this state
abbrev pub NoneChanges : Program → ProgramState → List Choice → ℕ → Type 0
NoneChanges p s cs n = (i : ℕ) (t : ProgramState) → i < n → after p s (choice_at cs i) ≡ Some t → t ≡ s

-- this choice leads to another state
abbrev pub Changes : Program → ProgramState → Choice → Type 0
Changes p s c = (t : ProgramState) × (after p s c ≡ Some t) × (t ≡ s → ⊥)

-- what came of a choice that was tried: whether it changes the state, and whether it can be made
abbrev pub changes : Tried → Bool
changes tried.Refused = false
changes tried.Stays = false
changes tried.Leads = true

abbrev pub is_made : Tried → Bool
is_made tried.Refused = false
is_made tried.Stays = true
is_made tried.Leads = true

-- a choice was tried in a state: where it leads is found, with a witness no longer than this
pub record IsTried (p : Program) (ws : Witnesses) (d : ℕ) (s : ProgramState) (c : Choice) (x : Tried) : Type 0 where
  pub found : (t : ProgramState) → after p s c ≡ Some t → IsNear p ws t d
  pub leads : changes x ≡ true → Changes p s c
  pub stays : changes x ≡ false → (t : ProgramState) → after p s c ≡ Some t → t ≡ s
  pub made : is_some (after p s c) ≡ is_made x

-- the same of every choice
abbrev pub AllFoundFrom : Program → Witnesses → ℕ → ProgramState → Type 0
AllFoundFrom p ws d s = (c : Choice) (s' : ProgramState) → after p s c ≡ Some s' → IsNear p ws s' d

-- what any choice leads to from the first states is found
abbrev pub IsClosed : Program → Witnesses → ℕ → Type 0
IsClosed p ws n = (k : ℕ) (s : ProgramState) → k < n → IsAt p ws k s → AllFoundFrom p ws (behind ws k) s

-- The first states were visited: what they lead to is found, those that are ends are noted, and the choices that can
-- be made there are counted.
pub record IsVisited (p : Program) (keys : Keys) (ws : Witnesses) (q : Queue) (ends : List ℕ)
    (steps n : ℕ) : Type 0 where
  pub search : IsSearch p keys ws q n
  pub closed : IsClosed p ws n
  pub noted : AreEnds p ws n ends
  pub counted : steps ≡ steps_before p ws n
  pub few : steps ≤ n * 257

-- Of the first choices, those that are not among these cannot be made in this state.
pub record IsSifted (p : Program) (s : ProgramState) (cs : List Choice) (n : ℕ) (those : List Choice) : Type 0 where
  pub kept : (i : ℕ) (t : ProgramState) → i < n → after p s (choice_at cs i) ≡ Some t
      → (j : ℕ) × (j < length those) × (choice_at those j ≡ choice_at cs i)
  pub counted : made_among p s those (length those) ≡ made_among p s cs n
  pub few : length those ≤ n

-- These choices were tried in a state: where they lead is found, with witnesses no longer than this; whether none
-- changes it, and how many can be made.
pub record IsExpanded (p : Program) (ws : Witnesses) (d : ℕ) (s : ProgramState) (cs : List Choice) (is_end : Bool)
    (count : ℕ) : Type 0 where
  pub found : AreFoundFrom p ws d s cs (length cs)
  pub end : is_end ≡ true → NoneChanges p s cs (length cs)
  pub changing : is_end ≡ false → (c : Choice) × Changes p s c
  pub made : count ≡ made_among p s cs (length cs)
  pub few : count ≤ length cs
