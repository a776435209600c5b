-- Histories: lines, of which the first tells the number of objects and each other one is a move.
use Rattle.std.specs.Prelude.{◌≡◌, ◌≢◌, ◌⊎◌, ℕ, ◌+◌, ◌<◌, ◌≤◌, List, [], ◌∷◌, ◌++◌, length, Option, None, Some, codes}
use Rattle.std.specs.Prelude.{decimal}
use Rattle.step_core.specs.declared.machine.Move.{Move}
use Rattle.step_core.specs.Machine.{State, opening, Steps, Run}
use Rattle.jls_check.specs.Judging.{IsUnlawful}
use Rattle.text_streams.specs.declared.faults.FileFault.{FileFault}
use Rattle.text_streams.specs.declared.faults.FileFault.TheVariants.{BadLine, BadMove, Broken, Read, Write, Memory}
use Rattle.history_moves.specs.Lines.{IsFirst, IsMove}

-- ---- lines

-- there is no line feed in it
abbrev pub NoFeed : List ℕ → Type 0
NoFeed [] = Unit {0}
NoFeed (b ∷ bs) = (b ≢ 10) × NoFeed bs

-- with its line feed it has at most 4,096 bytes
abbrev pub IsLine : List ℕ → Type 0
IsLine line = NoFeed line × (length line < 4096)

-- each line is ended by a line feed
abbrev pub lines_text : List (List ℕ) → List ℕ
lines_text [] = []
lines_text (l ∷ ls) = l ++ (10 ∷ lines_text ls)

-- ---- what they tell

abbrev pub Spell : List (List ℕ) → List Move → Type 0
Spell [] [] = Unit {0}
Spell [] (m ∷ ms) = ⊥
Spell (l ∷ ls) [] = ⊥
Spell (l ∷ ls) (m ∷ ms) = IsLine l × IsMove l m × Spell ls ms

-- The moves of these lines are a run that leads to this state; before the first line there is none.
abbrev pub LeadTo : List (List ℕ) → Option State → Type 0
LeadTo [] None = Unit {0}
LeadTo [] (Some s) = ⊥
LeadTo (first ∷ ls) None = ⊥
LeadTo (first ∷ ls) (Some s) =
    (n : ℕ) × (ms : List Move) × IsLine first × IsFirst first n × Spell ls ms × Run (opening n) ms s

-- what the line has to be there: the first line, or a move
abbrev pub IsWellFormed : Option State → List ℕ → Type 0
IsWellFormed None line = (n : ℕ) × IsFirst line n
IsWellFormed (Some s) line = (m : Move) × IsMove line m

-- the line is a move that is not lawful there
abbrev pub IsUnlawfulLine : Option State → List ℕ → Type 0
IsUnlawfulLine None line = ⊥
IsUnlawfulLine (Some s) line = (m : Move) × IsMove line m × IsUnlawful s m

-- the line leads from the one to the other
abbrev pub LineLeads : Option State → List ℕ → Option State → Type 0
LineLeads None line None = ⊥
LineLeads None line (Some s) = (n : ℕ) × IsFirst line n × (s ≡ opening n)
LineLeads (Some s) line None = ⊥
LineLeads (Some s) line (Some next) = (m : Move) × IsMove line m × Steps s m next

-- the bytes are a history of these moves, which are a run
pub record IsRunOf (bytes : List ℕ) (ms : List Move) : Type 0 where
  pub first : List ℕ
  pub lines : List (List ℕ)
  pub objects : ℕ
  pub state : State
  pub parts : bytes ≡ lines_text (first ∷ lines)
  pub first_line : IsLine first
  pub first_is : IsFirst first objects
  pub spelled : Spell lines ms
  pub run : Run (opening objects) ms state

-- the same, and there are so many objects
pub record IsRunFrom (bytes : List ℕ) (n : ℕ) (ms : List Move) : Type 0 where
  pub run : IsRunOf bytes ms
  pub objects : run.objects ≡ n

-- Nothing is wrong as far as the bytes came: whole lines of a run, and the front of one more.
pub record IsRightSoFar (came : List ℕ) (count : ℕ) (reached : Option State) (line : List ℕ) : Type 0 where
  pub whole : List (List ℕ)
  pub number : count ≡ length whole
  pub right : LeadTo whole reached
  pub parts : came ≡ lines_text whole ++ line
  pub short : IsLine line

abbrev pub IsOpen : List ℕ → Type 0
IsOpen came = (count : ℕ) × (reached : Option State) × (line : List ℕ) × IsRightSoFar came count reached line

-- Line n is no line of a history: right lines stand before it, and what is there begins with none. So much of it came
-- that this is sure: a line feed, 4,096 bytes, or the end.
pub record IsBadMove (came : List ℕ) (ended : Type 0) (n : ℕ) : Type 0 where
  pub whole : List (List ℕ)
  pub reached : Option State
  pub rest : List ℕ
  pub number : n ≡ length whole + 1
  pub right : LeadTo whole reached
  pub parts : came ≡ lines_text whole ++ rest
  pub there : (0 < length rest) ⊎ (whole ≡ [])
  pub enough : (NoFeed rest → ⊥) ⊎ ((4096 ≤ length rest) ⊎ ended)
  pub bad : (line after : List ℕ) → IsLine line → rest ≡ line ++ (10 ∷ after) → IsWellFormed reached line → ⊥

-- line n is a move that is not lawful behind those before it
pub record IsBroken (came : List ℕ) (n : ℕ) : Type 0 where
  pub whole : List (List ℕ)
  pub reached : Option State
  pub line : List ℕ
  pub after : List ℕ
  pub number : n ≡ length whole + 1
  pub right : LeadTo whole reached
  pub parts : came ≡ lines_text whole ++ (line ++ (10 ∷ after))
  pub fits : IsLine line
  pub unlawful : IsUnlawfulLine reached line

-- ---- answers

-- why the line with this number was refused
abbrev pub Refuses : Option State → List ℕ → ℕ → FileFault → Type 0
Refuses reached line number (BadLine n) = ⊥
Refuses reached line number (BadMove n) = (n ≡ number) × (IsWellFormed reached line → ⊥)
Refuses reached line number (Broken n) = (n ≡ number) × IsUnlawfulLine reached line
Refuses reached line number Read = ⊥
Refuses reached line number Write = ⊥
Refuses reached line number Memory = Unit {0}

-- the fault of what came, whether it ended there or the rest was lost
abbrev pub IsFaultOf : List ℕ → Type 0 → Type 0 → FileFault → Type 0
IsFaultOf came ended lost (BadLine n) = ⊥
IsFaultOf came ended lost (BadMove n) = IsBadMove came ended n
IsFaultOf came ended lost (Broken n) = IsBroken came n
IsFaultOf came ended lost Read = IsOpen came × lost
IsFaultOf came ended lost Write = ⊥
IsFaultOf came ended lost Memory = Unit {0}

abbrev pub run_text : ℕ → List ℕ
run_text n = codes "run of " ++ (decimal n ++ (codes " moves" ++ (10 ∷ [])))
