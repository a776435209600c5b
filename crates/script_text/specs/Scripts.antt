-- What reading a script gives.
use Rattle.std.specs.Prelude.{◌≡◌, ◌<◌, ◌≤◌, ℕ, List, length, Result, Ok, Err}
use Rattle.script_text.specs.declared.lines.Line.{Line}
use Rattle.script_text.specs.Lines.{IsFirstBad, IsScript, script_text}
use Rattle.text_streams.specs.declared.faults.FileFault.{FileFault}
use Rattle.text_streams.specs.declared.faults.FileFault.TheVariants as faults

-- What a function returned is what reading gives, unless memory ran out.
abbrev pub Fails : FileFault → Result (List Line) ℕ → Type 0
Fails (faults.BadLine n) read = read ≡ Err n
Fails (faults.BadMove n) read = ⊥
Fails (faults.Broken n) read = ⊥
Fails faults.Read read = ⊥
Fails faults.Write read = ⊥
Fails faults.Memory read = Unit {0}

abbrev pub Gives : {X : Type 0} → (X → List Line) → Result X FileFault → Result (List Line) ℕ
    → Type 0
Gives view (Ok x) read = read ≡ Ok (view x)
Gives view (Err e) read = Fails e read

-- Why bytes are not read: where they are few enough, a line that is bad by this rule, and else a failed read.
abbrev pub IsReasonBy : (ℕ → Type 0) → List ℕ → FileFault → Type 0
IsReasonBy IsBad bytes (faults.BadLine n) = (length bytes ≤ 16777216) × IsBad n
IsReasonBy IsBad bytes (faults.BadMove n) = ⊥
IsReasonBy IsBad bytes (faults.Broken n) = ⊥
IsReasonBy IsBad bytes faults.Read = 16777216 < length bytes
IsReasonBy IsBad bytes faults.Write = ⊥
IsReasonBy IsBad bytes faults.Memory = Unit {0}

-- Why bytes are no script: the line is the first bad one.
abbrev pub IsReasonFor : List ℕ → FileFault → Type 0
IsReasonFor bytes fault = IsReasonBy (IsFirstBad bytes) bytes fault

-- these bytes are the text of a script
abbrev pub IsScriptText : List ℕ → Type 0
IsScriptText bytes = (lines : List Line) × IsScript lines × (bytes ≡ script_text lines)
