-- What a search of a program finds.
use Rattle.std.specs.Prelude.{◌≡◌, ℕ, zero, suc, ◌+◌, ◌<◌, ◌≤◌, List, [], ◌∷◌}
use Rattle.std.specs.Prelude.{◌++◌, length, slice_index_or, Option, Some, None}
use Rattle.std.specs.Prelude.{if◌then◌else◌, is_some}
use Rattle.explore.specs.declared.programs.Program.{Program}
use Rattle.explore.specs.declared.programs.Choice.{Choice}
use Rattle.explore.specs.declared.programs.Choice.TheVariants as choice
use Rattle.explore.specs.declared.found.Node.{Node}
use Rattle.explore.specs.declared.found.ExploreFault.{ExploreFault}
use Rattle.explore.specs.declared.found.ExploreFault.TheVariants as fault
use Rattle.explore.specs.States.{ProgramState, after, played}

-- what was found: for each state the choices that lead there, which of the states are ends, and how many choices can
-- be made in all of them
pub record FoundStates : Type 0 where
  pub witnesses : List (List Choice)
  pub ends : List ℕ
  pub steps : ℕ

-- the choices that lead to the state with a number
abbrev pub witness_at : List (List Choice) → ℕ → List Choice
witness_at ws k = slice_index_or ws k []

-- one state more: a choice behind those that lead to an earlier one
abbrev pub grown : List (List Choice) → Node → List (List Choice)
grown ws n = ws ++ (witness_at ws n.parent ++ n.choice ∷ []) ∷ []

abbrev pub witnesses_from : List (List Choice) → List Node → List (List Choice)
witnesses_from ws [] = ws
witnesses_from ws (n ∷ ns) = witnesses_from (grown ws n) ns

-- the choices that lead to each state: none to the first, and to each other one its own behind those of its parent
abbrev pub witnesses : List Node → List (List Choice)
witnesses ns = witnesses_from ([] ∷ []) ns

-- how a state but the first was found
abbrev pub node_at : List Node → ℕ → Node
node_at ns i = slice_index_or ns i (record { parent = 0; choice = choice.Begin 0 })

-- each was found from one with a lower number
abbrev pub AreParents : List Node → Type 0
AreParents ns = (i : ℕ) → i < length ns → (node_at ns i).parent ≤ i

-- the state with this number is this one
abbrev pub IsAt : Program → List (List Choice) → ℕ → ProgramState → Type 0
IsAt p ws k s = played p (witness_at ws k) ≡ Some s

-- this state is among those that were found
abbrev pub IsFound : Program → List (List Choice) → ProgramState → Type 0
IsFound p ws s = (k : ℕ) × (k < length ws) × IsAt p ws k s

-- Nothing changes this state any more: each choice that can be made leads to it again, as the load of a word that
-- another thread holds thinly, and holds for good.
abbrev pub IsEnd : Program → ProgramState → Type 0
IsEnd p s = (c : Choice) (t : ProgramState) → after p s c ≡ Some t → t ≡ s

-- These numbers, in rising order, are those of the ends among the first states.
pub record AreEnds (p : Program) (ws : List (List Choice)) (n : ℕ) (ends : List ℕ) : Type 0 where
  pub each : (i : ℕ) → i < length ends
      → (s : ProgramState) × IsAt p ws (slice_index_or ends i 0) s × IsEnd p s × (slice_index_or ends i 0 < n)
  pub rising : (i j : ℕ) → i < j → j < length ends → slice_index_or ends i 0 < slice_index_or ends j 0
  pub every : (k : ℕ) (s : ProgramState) → k < n → IsAt p ws k s → IsEnd p s
      → (i : ℕ) × (i < length ends) × (slice_index_or ends i 0 ≡ k)

-- Each witness leads to a state, and no two to the same one.
pub record AreStates (p : Program) (ws : List (List Choice)) : Type 0 where
  pub sound : (k : ℕ) → k < length ws → (s : ProgramState) × IsAt p ws k s
  pub distinct : (j k : ℕ) (s : ProgramState) → j < k → k < length ws → IsAt p ws j s → IsAt p ws k s → ⊥

-- the choice with a number
abbrev pub choice_at : List Choice → ℕ → Choice
choice_at cs i = slice_index_or cs i (choice.Begin 0)

-- the choices of a thread, and of the threads below a number
abbrev pub choices_for : ℕ → List Choice
choices_for k = choice.Begin k ∷ choice.Go k ∷ choice.Expire k ∷ choice.Spurious k ∷ []

abbrev pub choices_below : ℕ → List Choice
choices_below zero = []
choices_below (suc n) = choices_below n ++ choices_for n

-- all that may be chosen
abbrev pub all_choices : Program → List Choice
all_choices p = choices_below (length p.starts.items) ++ choice.Tick ∷ []

-- how many of the first of these choices can be made in a state
abbrev pub made_among : Program → ProgramState → List Choice → ℕ → ℕ
made_among p s cs zero = 0
made_among p s cs (suc n) = made_among p s cs n + (if is_some (after p s (choice_at cs n)) then 1 else 0)

-- how many of all choices can
abbrev pub made_in : Program → Option ProgramState → ℕ
made_in p None = 0
made_in p (Some s) = made_among p s (all_choices p) (length (all_choices p))

-- how many can be made in the first states, each counted where it is made
abbrev pub steps_before : Program → List (List Choice) → ℕ → ℕ
steps_before p ws zero = 0
steps_before p ws (suc n) = steps_before p ws n + made_in p (played p (witness_at ws n))

-- Each state that any list of choices leads to is found, once, and nothing else is.
pub record FindsAll (p : Program) (f : FoundStates) : Type 0 where
  pub states : AreStates p f.witnesses
  -- whatever choices lead to is found
  pub complete : (cs : List Choice) (s : ProgramState) → played p cs ≡ Some s → IsFound p f.witnesses s
  -- and each witness is as short as any list of choices that leads there
  pub shortest : (k : ℕ) (cs : List Choice) (s : ProgramState) → k < length f.witnesses → IsAt p f.witnesses k s
      → played p cs ≡ Some s → length (witness_at f.witnesses k) ≤ length cs
  -- and states with shorter witnesses come first
  pub rising : (j k : ℕ) → j ≤ k → k < length f.witnesses
      → length (witness_at f.witnesses j) ≤ length (witness_at f.witnesses k)
  -- and the ends are those that no choice changes
  pub ends : AreEnds p f.witnesses (length f.witnesses) f.ends
  -- and the steps are counted, each state with each choice that can be made there
  pub steps : f.steps ≡ steps_before p f.witnesses (length f.witnesses)

-- there are more states than this
abbrev pub HasMore : Program → ℕ → Type 0
HasMore p n = (ws : List (List Choice)) × (n < length ws) × AreStates p ws

-- why a search tells nothing
abbrev pub IsReason : Program → ℕ → ExploreFault → Type 0
IsReason p n fault.Memory = Unit {0}
IsReason p n fault.TooManyStates = HasMore p n
