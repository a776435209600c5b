-- Lines that are taken one after the other.
use Rattle.std.specs.Prelude.{◌≡◌, ◌<◌, ℕ, List, [], ◌∷◌, ◌++◌, false, length}
use Rattle.lock_word.specs.declared.Split.{Split}
use Rattle.script_text.specs.declared.lines.Line.{Line}
use Rattle.script_text.specs.declared.lines.Line.TheVariants.{World, Object, Step}
use Rattle.script_text.specs.Lines.{Continues}
use Rattle.script_text.specs.declared.lines.StepLine.{StepLine}
use Rattle.script_text.specs.declared.lines.StepLine.TheVariants as line
use Rattle.step_core.specs.declared.steps.Request.{Request}
use Rattle.step_core.specs.declared.steps.Request.TheVariants as request
use Rattle.step_core.specs.declared.steps.Step.TheVariants as step
use Rattle.history.specs.Calls.{call_in, names_with, thread_in, with_thread}
use Rattle.script_text.specs.Names.{is_named, with_name}
use Rattle.history.specs.NameLists.{NameLists}

-- an object has a new name, and there is room for it
abbrev pub MayTake : List (List ℕ) → Line → Type 0
MayTake objects (World monitors indices split) = Unit {0}
MayTake objects (Object name low) = (is_named objects name ≡ false) × (length objects < 65535)
MayTake objects (Step step) = Unit {0}

-- the lines behind some world
abbrev pub FollowsWorld : List Line → Type 0
FollowsWorld lines =
    (monitors : ℕ) × (indices : ℕ) × (split : Split) × Continues (World monitors indices split ∷ []) lines

-- the low bytes of the objects
abbrev pub low_bytes : List Line → List ℕ
low_bytes [] = []
low_bytes (World monitors indices split ∷ ls) = low_bytes ls
low_bytes (Object name low ∷ ls) = low ∷ low_bytes ls
low_bytes (Step step ∷ ls) = low_bytes ls

abbrev pub with_low : List ℕ → Line → List ℕ
with_low lows (World monitors indices split) = lows
with_low lows (Object name low) = lows ++ low ∷ []
with_low lows (Step step) = lows

-- the numbers of the first line
abbrev pub IsWorldWith : ℕ → ℕ → Split → List Line → Type 0
IsWorldWith monitors indices split [] = ⊥
IsWorldWith monitors indices split (World m k s ∷ ls) = (monitors ≡ m) × (indices ≡ k) × (split ≡ s)
IsWorldWith monitors indices split (Object name low ∷ ls) = ⊥
IsWorldWith monitors indices split (Step step ∷ ls) = ⊥

-- ---- names, and the steps that they are in

abbrev pub no_names : NameLists
no_names = record { threads = []; objects = [] }

-- the step or relayout that a line is, where these names were there before
abbrev pub request_in : NameLists → StepLine → Request
request_in names (line.Attach thread) = request.Step (step.Attach (thread_in names thread))
request_in names (line.Begin thread call) =
    request.Step (step.Begin (thread_in names thread) (call_in (with_thread names thread) call))
request_in names (line.Go thread) = request.Step (step.Go (thread_in names thread))
request_in names (line.Expire thread) = request.Step (step.Expire (thread_in names thread))
request_in names (line.Spurious thread) = request.Step (step.Spurious (thread_in names thread))
request_in names (line.Tick now) = request.Step (step.Tick now)
request_in names (line.Relayout split) = request.Relayout split

-- and the names that are there then
abbrev pub names_in_step : NameLists → StepLine → NameLists
names_in_step names (line.Attach thread) = with_thread names thread
names_in_step names (line.Begin thread call) = names_with (with_thread names thread) call
names_in_step names (line.Go thread) = with_thread names thread
names_in_step names (line.Expire thread) = with_thread names thread
names_in_step names (line.Spurious thread) = with_thread names thread
names_in_step names (line.Tick now) = names
names_in_step names (line.Relayout split) = names

-- the names behind a line
abbrev pub names_then : NameLists → Line → NameLists
names_then names (World monitors indices split) = names
names_then names (Object name low) = record names { objects = with_name names.objects name }
names_then names (Step step) = names_in_step names step

-- the step or relayout of a line, if it is one
abbrev pub requests_then : NameLists → Line → List Request
requests_then names (World monitors indices split) = []
requests_then names (Object name low) = []
requests_then names (Step step) = request_in names step ∷ []

-- the names behind some lines
abbrev pub names_after : NameLists → List Line → NameLists
names_after names [] = names
names_after names (l ∷ ls) = names_after (names_then names l) ls

-- the steps and relayouts of some lines, in order
abbrev pub requests_after : NameLists → List Line → List Request
requests_after names [] = []
requests_after names (l ∷ ls) = requests_then names l ++ requests_after (names_then names l) ls

-- the names of a script: of its threads in order of first appearance, and of its objects in order of declaration
abbrev pub names_of : List Line → NameLists
names_of ls = names_after no_names ls

-- its steps and relayouts, with the numbers of their names
abbrev pub requests_of : List Line → List Request
requests_of ls = requests_after no_names ls
