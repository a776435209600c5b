-- The program that a text says, with numbers for its names.
use Rattle.std.specs.Prelude.{◌≡◌, ℕ, ◌≤◌, ◌<◌, nat_lt, List, [], ◌∷◌, length, Result, Ok, Err}
use Rattle.fast_path.specs.declared.calls.Call.{Call}
use Rattle.script_text.specs.declared.lines.Call.{Call as CallLine}
use Rattle.history.specs.Calls.{call_in, names_with}
use Rattle.history.specs.NameLists.{NameLists}
use Rattle.text_streams.specs.declared.faults.FileFault.{FileFault}
use Rattle.text_streams.specs.declared.faults.FileFault.TheVariants as fault
use Rattle.program_text.specs.declared.numbering.NamedProgram.{NamedProgram}
use Rattle.program_text.specs.Drafts.{DraftState, draft_in}

-- the calls by numbers, one after the other: a target whose name is new gets the next number
abbrev pub calls_from : NameLists → List CallLine → List Call
calls_from names [] = []
calls_from names (c ∷ cs) = call_in names c ∷ calls_from (names_with names c) cs

-- and the names that are there behind them
abbrev pub names_behind : NameLists → List CallLine → NameLists
names_behind names [] = names
names_behind names (c ∷ cs) = names_behind (names_with names c) cs

-- Threads are numbered in the order of their lines, and targets that no line has behind them; objects in the order of
-- theirs.
pub record IsProgramOf (d : DraftState) (p : NamedProgram) : Type 0 where
  pub monitors : p.program.monitors ≡ d.monitors
  pub indices : p.program.indices ≡ d.indices
  pub split : p.program.split ≡ d.split
  pub lows : p.program.lows.items ≡ d.lows
  pub starts : p.program.starts.items ≡ d.starts
  pub calls : p.program.calls.items ≡ calls_from d.names d.calls
  pub moments : p.program.moments.items ≡ d.moments
  pub spurious : p.program.spurious ≡ nat_lt 0 d.spurious
  pub names : p.names ≡ names_behind d.names d.calls

-- the program that some bytes are the text of
abbrev pub IsProgramIn : List ℕ → NamedProgram → Type 0
IsProgramIn bytes p = (d : DraftState) × (draft_in bytes ≡ Ok d) × IsProgramOf d p

-- Why bytes are no program: where they are few enough, the first line that is bad, and else a failed read.
abbrev pub IsProgramReason : List ℕ → FileFault → Type 0
IsProgramReason bytes (fault.BadLine n) = (length bytes ≤ 16777216) × (draft_in bytes ≡ Err n)
IsProgramReason bytes (fault.BadMove n) = ⊥
IsProgramReason bytes (fault.Broken n) = ⊥
IsProgramReason bytes fault.Read = 16777216 < length bytes
IsProgramReason bytes fault.Write = ⊥
IsProgramReason bytes fault.Memory = Unit {0}

-- the fault of reading what gives this: the number of a bad line, or want of memory
abbrev pub IsFaultOf : Result DraftState ℕ → FileFault → Type 0
IsFaultOf read (fault.BadLine n) = read ≡ Err n
IsFaultOf read (fault.BadMove n) = ⊥
IsFaultOf read (fault.Broken n) = ⊥
IsFaultOf read fault.Read = ⊥
IsFaultOf read fault.Write = ⊥
IsFaultOf read fault.Memory = Unit {0}
