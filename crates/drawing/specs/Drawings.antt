-- The drawing of a script and of a history.
use Rattle.std.specs.Prelude.{◌≡◌, ◌⊎◌, ℕ, ◌<◌, List, [], length, map, vec_items, Vec}
use Rattle.std.specs.declared.alloc.Global.{Global}
use Rattle.lock_word.specs.declared.Word.{Word}
use Rattle.text_streams.specs.declared.faults.FileFault.TheVariants as faults
use Rattle.script_text.specs.Scripts.{IsReasonFor}
use Rattle.step_core.specs.declared.machine.Move.{Move}
use Rattle.step_core.specs.declared.steps.Request.{Request}
use Rattle.step_core.specs.Cycles.{AreCycles}
use Rattle.step_core.specs.Shown.{shown}
use Rattle.step_core.specs.World.{WorldState}
use Rattle.history.specs.Histories.{first_world}
use Rattle.history.specs.Plans.{IsPlanOf}
use Rattle.history.specs.declared.plans.Plan.{Plan}
use Rattle.history_check.specs.Histories.{IsFaultOf, IsRunFrom}
use Rattle.pictures.specs.declared.columns.Column.{Column}
use Rattle.pictures.specs.declared.picture.Picture.{Picture}
use Rattle.pictures.specs.Pictures.{HasTooManyCycles, HasTooManyLanes, IsPicture, IsWithin}
use Rattle.picture_text.specs.declared.naming.Naming.{Naming}
use Rattle.picture_text.specs.declared.naming.Naming.TheVariants.{Names, Numbers}
use Rattle.picture_text.specs.Frame.{svg_text}
use Rattle.drawing.specs.Columns.{AreColumns, AreColumnsThrough, AreWorded, HaveWords, columns_of}
use Rattle.drawing.specs.Windows.{IsBeyond, front_of, part_of}
use Rattle.drawing.specs.declared.playing.Played.{Played}
use Rattle.drawing.specs.declared.windows.Window.{Window}
use Rattle.drawing.specs.declared.faults.DrawFault.{DrawFault}
use Rattle.drawing.specs.declared.faults.DrawFault.TheVariants.{File, TooManyColumns, TooManyLanes}
use Rattle.drawing.specs.declared.faults.DrawFault.TheVariants.{NoSuchColumn}

-- why columns have no picture, where others are in front of them
abbrev pub HaveTooMany : ℕ → List Column → List Column → DrawFault → Type 0
HaveTooMany objects front cs (File fault) = ⊥
HaveTooMany objects front cs TooManyColumns = 20000 < length cs
HaveTooMany objects front cs TooManyLanes = HasTooManyLanes objects front cs ⊎ HasTooManyCycles objects front cs
HaveTooMany objects front cs (NoSuchColumn n) = ⊥

abbrev pub IsPictureReason : ℕ → List Column → List Column → DrawFault → Type 0
IsPictureReason objects front cs (File fault) = fault ≡ faults.Memory
IsPictureReason objects front cs fault = HaveTooMany objects front cs fault

-- the window begins behind the last of n columns, and this is the number with which it begins
abbrev pub IsNoColumn : Window → ℕ → ℕ → Type 0
IsNoColumn window n first = (first ≡ window.first) × IsBeyond window n

-- ---- scripts

-- threads and objects are called by the names of the script
abbrev pub NamesBy : Plan → Naming → Type 0
NamesBy plan (Names names) = names.now ≡ plan.names
NamesBy plan Numbers = ⊥

-- The picture of columns behind which are these worlds, and others are in front of them: within the limits of
-- pictures, with the header words there, and the cycles of owners of the last world.
pub record IsPlayedDrawing (naming : Naming) (objects : ℕ) (played : Played) (worlds : List WorldState)
    (text : List ℕ) : Type 0 where
  pub picture : Picture
  pub is_picture : IsPicture objects played.front.items played.columns.items played.words.items picture
  pub limits : IsWithin picture
  pub worded : AreWorded worlds picture.strips.items
  pub cycles : AreCycles (shown played.world) (map vec_items picture.cycles.items)
  pub exact : text ≡ svg_text naming picture

-- The steps in front of a window lead to a world; each of those that it shows has a column and the world behind it,
-- and the last leads to the world at its end.
pub record IsPlayed (plan : Plan) (window : Window) (played : Played) (worlds : List WorldState) : Type 0 where
  pub start : WorldState
  pub front : AreColumns (first_world plan) (front_of window plan.steps.items) start played.front.items
  pub part : AreColumnsThrough start (part_of window plan.steps.items) played.world worlds played.columns.items
  pub words : HaveWords played.drawn.items worlds played.words.items

-- a column for each step in the window
pub record IsPlanDrawing (plan : Plan) (window : Window) (text : List ℕ) : Type 0 where
  pub within : IsBeyond window (length plan.steps.items) → ⊥
  pub played : Played
  pub worlds : List WorldState
  pub are : IsPlayed plan window played worlds
  pub naming : Naming
  pub names : NamesBy plan naming
  pub drawing : IsPlayedDrawing naming (length plan.lows.items) played worlds text

-- why steps that are played from a world on, with columns in front of them, have no picture
pub record TrialHasTooMany (objects : ℕ) (front : List Column) (start : WorldState) (steps : List Request)
    (fault : DrawFault) : Type 0 where
  pub world : WorldState
  pub columns : List Column
  pub played : AreColumns start steps world columns
  pub many : HaveTooMany objects front columns fault

abbrev pub IsTrialReason : ℕ → List Column → WorldState → List Request → DrawFault → Type 0
IsTrialReason objects front start steps (File fault) = fault ≡ faults.Memory
IsTrialReason objects front start steps fault = TrialHasTooMany objects front start steps fault

-- it has more steps, threads or objects in the window than a picture shows
pub record PlanHasTooMany (plan : Plan) (window : Window) (fault : DrawFault) : Type 0 where
  pub start : WorldState
  pub front : List Column
  pub in_front : AreColumns (first_world plan) (front_of window plan.steps.items) start front
  pub world : WorldState
  pub columns : List Column
  pub played : AreColumns start (part_of window plan.steps.items) world columns
  pub many : HaveTooMany (length plan.lows.items) front columns fault

abbrev pub IsPlanReason : Plan → Window → DrawFault → Type 0
IsPlanReason plan window (File fault) = fault ≡ faults.Memory
IsPlanReason plan window (NoSuchColumn n) = IsNoColumn window (length plan.steps.items) n
IsPlanReason plan window fault = PlanHasTooMany plan window fault

-- the same of the script that the bytes are the text of
pub record IsScriptDrawing (window : Window) (bytes text : List ℕ) : Type 0 where
  pub plan : Plan
  pub script : IsPlanOf plan bytes
  pub drawing : IsPlanDrawing plan window text

pub record ScriptHasReason (window : Window) (bytes : List ℕ) (fault : DrawFault) : Type 0 where
  pub plan : Plan
  pub script : IsPlanOf plan bytes
  pub many : IsPlanReason plan window fault

abbrev pub IsScriptReason : Window → List ℕ → DrawFault → Type 0
IsScriptReason window bytes (File fault) = IsReasonFor bytes fault
IsScriptReason window bytes fault = ScriptHasReason window bytes fault

-- ---- histories

-- a column for each move in the window, and the picture of the columns, within the limits of pictures
pub record IsMovesDrawing (objects : ℕ) (moves : List Move) (window : Window) (text : List ℕ) : Type 0 where
  pub within : IsBeyond window (length moves) → ⊥
  pub picture : Picture
  pub words : List (Vec Word Global)
  pub no_words : words ≡ []
  pub is_picture : IsPicture objects (columns_of (front_of window moves)) (columns_of (part_of window moves)) words
      picture
  pub limits : IsWithin picture
  pub exact : text ≡ svg_text Numbers picture

-- why moves have no picture
abbrev pub IsMovesReason : ℕ → List Move → Window → DrawFault → Type 0
IsMovesReason objects moves window (NoSuchColumn n) = IsNoColumn window (length moves) n
IsMovesReason objects moves window fault =
    IsPictureReason objects (columns_of (front_of window moves)) (columns_of (part_of window moves)) fault

-- the same of the history, whose moves are a run
pub record IsHistoryDrawing (window : Window) (bytes text : List ℕ) : Type 0 where
  pub objects : ℕ
  pub moves : List Move
  pub run : IsRunFrom bytes objects moves
  pub drawing : IsMovesDrawing objects moves window text

pub record HistoryHasReason (window : Window) (bytes : List ℕ) (fault : DrawFault) : Type 0 where
  pub objects : ℕ
  pub moves : List Move
  pub run : IsRunFrom bytes objects moves
  pub many : IsMovesReason objects moves window fault

abbrev pub IsHistoryReason : Window → List ℕ → DrawFault → Type 0
IsHistoryReason window bytes (File fault) = IsFaultOf bytes (Unit {0}) ⊥ fault
IsHistoryReason window bytes fault = HistoryHasReason window bytes fault
