-- What a live script is: a script of attaches and begins, whose threads may run on threads of the system.
use Rattle.std.specs.Prelude.{◌≡◌, ◌⊎◌, ◌<◌, ◌+◌, ℕ, List, [], ◌∷◌, ◌++◌, length, Bool, true, false, not, ◌&&◌}
use Rattle.std.specs.Prelude.{nat_lt}
use Rattle.lock_word.specs.declared.Split.{Split}
use Rattle.lock_word.specs.declared.Split.TheVariants.{Wide, Deep}
use Rattle.text_streams.specs.declared.faults.FileFault.{FileFault}
use Rattle.script_text.specs.declared.lines.Line.{Line}
use Rattle.script_text.specs.declared.lines.Line.TheVariants.{World, Object, Step}
use Rattle.script_text.specs.declared.lines.StepLine.{StepLine}
use Rattle.script_text.specs.declared.lines.StepLine.TheVariants.{Attach, Begin, Go, Expire, Spurious, Tick, Relayout}
use Rattle.script_text.specs.declared.lines.Call.{Call}
use Rattle.script_text.specs.declared.lines.Call.TheVariants.{Enter, Exit, Wait, Notify, NotifyAll, Holds, Interrupt}
use Rattle.script_text.specs.declared.lines.Call.TheVariants.{Interrupted, IsInterrupted, End}
use Rattle.script_text.specs.Names.{is_named}
use Rattle.script_text.specs.Scripts.{IsReasonBy}
use Rattle.script_text.specs.Lines.{Fits, Continues, IsScript, may_follow, line_text, script_text}

abbrev pub attached_by : StepLine → List (List ℕ)
attached_by (Attach thread) = thread ∷ []
attached_by (Begin thread call) = []
attached_by (Go thread) = []
attached_by (Expire thread) = []
attached_by (Spurious thread) = []
attached_by (Tick now) = []
attached_by (Relayout split) = []

abbrev pub attached_in : Line → List (List ℕ)
attached_in (World monitors indices split) = []
attached_in (Object name low) = []
attached_in (Step step) = attached_by step

-- the names of the threads that are attached, in order
abbrev pub attached_threads : List Line → List (List ℕ)
attached_threads [] = []
attached_threads (l ∷ ls) = attached_in l ++ attached_threads ls

abbrev pub indices_of : Line → ℕ
indices_of (World monitors indices split) = indices
indices_of (Object name low) = 0
indices_of (Step step) = 0

-- how many threads the world may have
abbrev pub most_threads : List Line → ℕ
most_threads [] = 0
most_threads (l ∷ ls) = indices_of l

abbrev pub is_wide : Split → Bool
is_wide Wide = true
is_wide Deep = false

abbrev pub is_live_call : Call → Bool
is_live_call (Enter object) = true
is_live_call (Exit object) = true
is_live_call (Wait object millis nanos) = true
is_live_call (Notify object) = true
is_live_call (NotifyAll object) = true
is_live_call (Holds object) = true
is_live_call (Interrupt target) = true
is_live_call Interrupted = true
is_live_call (IsInterrupted target) = true
is_live_call End = false

-- a thread is attached once, and there are at most 64; only a thread that is attached begins a call, and not its end
abbrev pub may_do : ℕ → List (List ℕ) → StepLine → Bool
may_do most threads (Attach thread) =
    not (is_named threads thread) && nat_lt (length threads) most && nat_lt (length threads) 64
may_do most threads (Begin thread call) = is_named threads thread && is_live_call call
may_do most threads (Go thread) = false
may_do most threads (Expire thread) = false
may_do most threads (Spurious thread) = false
may_do most threads (Tick now) = false
may_do most threads (Relayout split) = false

abbrev pub may_run_with : ℕ → List (List ℕ) → Line → Bool
may_run_with most threads (World monitors indices split) = is_wide split
may_run_with most threads (Object name low) = true
may_run_with most threads (Step step) = may_do most threads step

-- whether a line may run behind these
abbrev pub may_run : List Line → Line → Bool
may_run earlier l = may_run_with (most_threads earlier) (attached_threads earlier) l

abbrev pub Runs : List Line → List Line → Type 0
Runs earlier [] = Unit {0}
Runs earlier (l ∷ ls) = (may_run earlier l ≡ true) × Runs (earlier ++ l ∷ []) ls

-- a script whose lines may run, and which has a thread
abbrev pub IsLiveScript : List Line → Type 0
IsLiveScript ls = IsScript ls × Runs [] ls × (0 < length (attached_threads ls))

-- Line n is the first that breaks a rule of live scripts: right lines stand before it, and what stands there
-- begins with no line that may follow them and run. Where nothing stands there, no thread is attached.
pub record IsFirstBadLive (bytes : List ℕ) (n : ℕ) : Type 0 where
  pub before : List Line
  pub rest : List ℕ
  pub number : n ≡ length before + 1
  pub right : Continues [] before
  pub runs : Runs [] before
  pub parts : bytes ≡ script_text before ++ rest
  pub there : 0 < length rest ⊎ attached_threads before ≡ []
  pub bad : (l : Line) (after : List ℕ) → Fits l → may_follow before l ≡ true → may_run before l ≡ true
      → rest ≡ line_text l ++ (10 ∷ after) → ⊥

-- Why bytes are no live script: where they are few enough, the first bad line, and else a failed read.
abbrev pub IsLiveReasonFor : List ℕ → FileFault → Type 0
IsLiveReasonFor bytes fault = IsReasonBy (IsFirstBadLive bytes) bytes fault
