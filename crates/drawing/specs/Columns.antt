-- The columns of a script, one for each step or relayout, and of a history, one for each move.
use Rattle.std.specs.Prelude.{◌≡◌, ℕ, List, [], ◌∷◌, Bool, Option, Some, None, Result, Ok, Err, map as list_map, Vec}
use Rattle.std.specs.declared.alloc.Global.{Global}
use Rattle.lock_word.specs.declared.Split.{Split}
use Rattle.lock_word.specs.declared.Word.{Word}
use Rattle.step_core.specs.declared.machine.Move.{Move}
use Rattle.step_core.specs.declared.steps.Did.{Did}
use Rattle.step_core.specs.declared.steps.Fault.{Fault}
use Rattle.step_core.specs.declared.steps.Request.{Request}
use Rattle.step_core.specs.declared.steps.Request.TheVariants as request
use Rattle.step_core.specs.declared.steps.Step.{Step}
use Rattle.step_core.specs.declared.worlds.relayout.RelayoutFault.{RelayoutFault}
use Rattle.step_core.specs.Machine.{Run}
use Rattle.step_core.specs.Relayout.{after_relayout}
use Rattle.step_core.specs.Requests.{world_then, moves_then}
use Rattle.step_core.specs.Shown.{shown}
use Rattle.step_core.specs.Step.{step_of}
use Rattle.step_core.specs.World.{WorldState, word_at}
use Rattle.history.specs.Histories.{HasMemory}
use Rattle.pictures.specs.declared.columns.Column.{Column}
use Rattle.pictures.specs.declared.columns.Refusal.{Refusal}
use Rattle.pictures.specs.declared.columns.Refusal.TheVariants as refusal
use Rattle.pictures.specs.declared.picture.Strip.{Strip}
use Rattle.pictures.specs.Marks.{moves_in}
use Rattle.pictures.specs.Spans.{strip_words}

-- ---- what a world refuses

abbrev pub refusal_of : Step → Result Did Fault → Option Refusal
refusal_of s (Ok d) = None
refusal_of s (Err f) = Some (refusal.Step s f)

abbrev pub relayout_refusal : Split → Result ℕ RelayoutFault → Option Refusal
relayout_refusal split (Ok n) = None
relayout_refusal split (Err f) = Some (refusal.Relayout split f)

abbrev pub refusal_then : WorldState → (Request × Bool) → Option Refusal
refusal_then w (request.Step s, room) = refusal_of s (step_of room w s).answer
refusal_then w (request.Relayout split, room) = relayout_refusal split (after_relayout room w split).answer

-- ---- the columns of a script

-- A step or a relayout leads from the one world to the other. Its column has the moves that it hands out, which are a
-- run of the machine, and where it is refused, why.
pub record IsColumn (w : WorldState) (asked : Request) (v : WorldState) (c : Column) : Type 0 where
  pub room : Bool
  pub memory : HasMemory w (asked, room)
  pub leads : v ≡ world_then w (asked, room)
  pub run : Run (shown w) (moves_in c) (shown v)
  pub moves : moves_in c ≡ moves_then w (asked, room)
  pub refused : c.refusal ≡ refusal_then w (asked, room)

-- the same of all of them
abbrev pub AreColumns : WorldState → List Request → WorldState → List Column → Type 0
AreColumns w [] v [] = v ≡ w
AreColumns w [] v (c ∷ cs) = ⊥
AreColumns w (r ∷ rs) v [] = ⊥
AreColumns w (r ∷ rs) v (c ∷ cs) = (mid : WorldState) × IsColumn w r mid c × AreColumns mid rs v cs

-- the same, where these are the worlds behind the columns
abbrev pub AreColumnsThrough : WorldState → List Request → WorldState → List WorldState → List Column → Type 0
AreColumnsThrough w [] v [] [] = v ≡ w
AreColumnsThrough w [] v [] (c ∷ cs) = ⊥
AreColumnsThrough w [] v (u ∷ us) cs = ⊥
AreColumnsThrough w (r ∷ rs) v [] cs = ⊥
AreColumnsThrough w (r ∷ rs) v (u ∷ us) [] = ⊥
AreColumnsThrough w (r ∷ rs) v (u ∷ us) (c ∷ cs) = IsColumn w r u c × AreColumnsThrough u rs v us cs

-- ---- the header words behind them

-- the words of some objects, by their numbers
abbrev pub words_of : WorldState → List ℕ → List Word
words_of w numbers = list_map (word_at w) numbers

-- a row for each world has the words of some objects
abbrev pub HaveWords : List ℕ → List WorldState → List (Vec Word Global) → Type 0
HaveWords drawn [] [] = Unit {0}
HaveWords drawn [] (row ∷ rows) = ⊥
HaveWords drawn (w ∷ ws) [] = ⊥
HaveWords drawn (w ∷ ws) (row ∷ rows) = (row.items ≡ words_of w drawn) × HaveWords drawn ws rows

-- the objects of some strips, by their numbers
abbrev pub strip_objects : List Strip → List ℕ
strip_objects strips = list_map (λ (p : Strip). p.object.0) strips

-- the word of a strip's object in a world
abbrev pub word_of : Strip → WorldState → Option Word
word_of p w = Some (word_at w p.object.0)

-- behind each column each strip has the word that its object has in the world there
abbrev pub AreWorded : List WorldState → List Strip → Type 0
AreWorded ws [] = Unit {0}
AreWorded ws (p ∷ ps) = (strip_words p.spans.items ≡ list_map (word_of p) ws) × AreWorded ws ps

-- ---- the columns of a history

-- the column of a move alone
abbrev pub column_of : Move → Column
column_of m = record { moves = Some m ∷ None ∷ None ∷ []; refusal = None }

abbrev pub columns_of : List Move → List Column
columns_of ms = list_map column_of ms
