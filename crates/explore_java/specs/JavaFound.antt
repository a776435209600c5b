-- What a search of the Java machine finds.
use Rattle.std.specs.Prelude.{◌≡◌, ℕ, zero, suc, ◌+◌, ◌<◌, ◌≤◌, List, [], ◌∷◌, ◌++◌, length, slice_index_or}
use Rattle.std.specs.Prelude.{Option, Some, None, if◌then◌else◌, is_some}
use Rattle.step_core.specs.declared.machine.Move.{Move}
use Rattle.step_core.specs.declared.machine.Move.TheVariants as move
use Rattle.explore.specs.declared.found.ExploreFault.{ExploreFault}
use Rattle.explore.specs.declared.found.ExploreFault.TheVariants as fault
use Rattle.explore.specs.declared.programs.Program.{Program}
use Rattle.explore_java.specs.declared.found.Node.{Node}
use Rattle.explore_java.specs.JavaStates.{IsProper, JavaProgramState, after, played}
use Rattle.explore_java.specs.Moves.{moves_in}

-- what was found: for each state the moves that lead there, which of the states are ends, and how many moves can be
-- made in all of them
pub record FoundJavaStates : Type 0 where
  pub witnesses : List (List Move)
  pub ends : List ℕ
  pub steps : ℕ

-- the moves that lead to the state with a number
abbrev pub witness_at : List (List Move) → ℕ → List Move
witness_at ws k = slice_index_or ws k []

-- one state more: a move behind those that lead to an earlier one
abbrev pub grown : List (List Move) → Node → List (List Move)
grown ws n = ws ++ (witness_at ws n.parent ++ n.made ∷ []) ∷ []

abbrev pub witnesses_from : List (List Move) → List Node → List (List Move)
witnesses_from ws [] = ws
witnesses_from ws (n ∷ ns) = witnesses_from (grown ws n) ns

-- the moves that lead to each state: none to the first, and to each other one its own behind those of its parent
abbrev pub witnesses : List Node → List (List Move)
witnesses ns = witnesses_from ([] ∷ []) ns

-- a move that stands where a list has none
abbrev pub first_attach : Move
first_attach = move.Attach (record { 0 = 0 })

-- how a state but the first was found
abbrev pub node_at : List Node → ℕ → Node
node_at ns i = slice_index_or ns i (record { parent = 0; made = first_attach })

-- each was found from one with a lower number
abbrev pub AreParents : List Node → Type 0
AreParents ns = (i : ℕ) → i < length ns → (node_at ns i).parent ≤ i

-- the state with this number is this one
abbrev pub IsAt : Program → List (List Move) → ℕ → JavaProgramState → Type 0
IsAt p ws k s = played p (witness_at ws k) ≡ Some s

-- this state is among those that were found
abbrev pub IsFound : Program → List (List Move) → JavaProgramState → Type 0
IsFound p ws s = (k : ℕ) × (k < length ws) × IsAt p ws k s

-- the number of an end
abbrev pub end_at : FoundJavaStates → ℕ → ℕ
end_at f i = slice_index_or f.ends i 0

-- The machine can make no move here that the program leaves to it and that is no refusal for want.
abbrev pub IsEnd : Program → JavaProgramState → Type 0
IsEnd p s = (m : Move) (t : JavaProgramState) → after p s m ≡ Some t → ⊥

-- These numbers, in rising order, are those of the ends among the first states.
pub record AreEnds (p : Program) (ws : List (List Move)) (n : ℕ) (ends : List ℕ) : Type 0 where
  pub each : (i : ℕ) → i < length ends
      → (s : JavaProgramState) × IsAt p ws (slice_index_or ends i 0) s × IsEnd p s × (slice_index_or ends i 0 < n)
  pub rising : (i j : ℕ) → i < j → j < length ends → slice_index_or ends i 0 < slice_index_or ends j 0
  pub every : (k : ℕ) (s : JavaProgramState) → k < n → IsAt p ws k s → IsEnd p s
      → (i : ℕ) × (i < length ends) × (slice_index_or ends i 0 ≡ k)

-- The moves that lead to state k are those that lead to an earlier one, and one behind them.
pub record HasParent (ws : List (List Move)) (k : ℕ) : Type 0 where
  pub parent : ℕ
  pub made : Move
  pub earlier : parent < k
  pub moves : witness_at ws k ≡ witness_at ws parent ++ made ∷ []

-- Each witness leads to a proper state, and no two to the same one. The first has no move, each other one a move behind
-- those of an earlier one.
pub record AreStates (p : Program) (ws : List (List Move)) : Type 0 where
  pub first : witness_at ws 0 ≡ []
  pub parents : (k : ℕ) → 0 < k → k < length ws → HasParent ws k
  pub sound : (k : ℕ) → k < length ws → (s : JavaProgramState) × IsAt p ws k s × IsProper p s
  pub distinct : (j k : ℕ) (s : JavaProgramState) → j < k → k < length ws → IsAt p ws j s → IsAt p ws k s → ⊥

-- the move with a number
abbrev pub move_at : List Move → ℕ → Move
move_at ms i = slice_index_or ms i first_attach

-- how many of the first of these moves can be made in a state
abbrev pub made_among : Program → JavaProgramState → List Move → ℕ → ℕ
made_among p s ms zero = 0
made_among p s ms (suc n) = made_among p s ms n + (if is_some (after p s (move_at ms n)) then 1 else 0)

-- how many moves can
abbrev pub made_in : Program → Option JavaProgramState → ℕ
made_in p None = 0
made_in p (Some s) = made_among p s (moves_in p s) (length (moves_in p s))

-- how many can be made in the first states, each counted where it is made
abbrev pub steps_before : Program → List (List Move) → ℕ → ℕ
steps_before p ws zero = 0
steps_before p ws (suc n) = steps_before p ws n + made_in p (played p (witness_at ws n))

-- Each state that any list of moves leads to is found, once, and nothing else is.
pub record FindsAll (p : Program) (f : FoundJavaStates) : Type 0 where
  pub states : AreStates p f.witnesses
  -- whatever moves lead to is found
  pub complete : (ms : List Move) (s : JavaProgramState) → played p ms ≡ Some s → IsFound p f.witnesses s
  -- and each witness is as short as any list of moves that leads there
  pub shortest : (k : ℕ) (ms : List Move) (s : JavaProgramState) → k < length f.witnesses → IsAt p f.witnesses k s
      → played p ms ≡ Some s → length (witness_at f.witnesses k) ≤ length ms
  -- and states with shorter witnesses come first
  pub rising : (j k : ℕ) → j ≤ k → k < length f.witnesses
      → length (witness_at f.witnesses j) ≤ length (witness_at f.witnesses k)
  -- and the ends are those in which no move can be made
  pub ends : AreEnds p f.witnesses (length f.witnesses) f.ends
  -- and the steps are counted, each state with each move that can be made there
  pub steps : f.steps ≡ steps_before p f.witnesses (length f.witnesses)

-- there are more states than this
abbrev pub HasMore : Program → ℕ → Type 0
HasMore p n = (ws : List (List Move)) × (n < length ws) × AreStates p ws

-- why a search tells nothing
abbrev pub IsReason : Program → ℕ → ExploreFault → Type 0
IsReason p n fault.Memory = Unit {0}
IsReason p n fault.TooManyStates = HasMore p n
