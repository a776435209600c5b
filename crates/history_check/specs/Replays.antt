-- What is told of a reader's bytes: those that were left before and after, and how many it gave.
use Rattle.std.specs.Prelude.{◌≡◌, ◌⊎◌, ℕ, ◌<◌, ◌≤◌, List, ◌++◌, length, take, Option}
use Rattle.std.specs.Io.KnownBytes.{Consumes, IsAtEnd}
use Rattle.step_core.specs.declared.machine.Move.{Move}
use Rattle.text_streams.specs.declared.faults.FileFault.{FileFault}
use Rattle.history_check.specs.Histories.{IsRunOf, IsFaultOf, IsOpen}

-- the reader came to its end, and what it gave is a history of so many moves, which are a run
abbrev pub IsReadAsRun : Option (List ℕ) → Option (List ℕ) → ℕ → ℕ → Type 0
IsReadAsRun old new given count =
    (came : List ℕ) × Consumes old new came × (length came ≡ given) × IsAtEnd new
    × (length came ≤ 1073741824) × (ms : List Move) × IsRunOf came ms × (count ≡ length ms)

-- but for the last 4,096 bytes at most, nothing is wrong
abbrev pub IsOpenBefore : List ℕ → Type 0
IsOpenBefore came =
    (front last : List ℕ) × (came ≡ front ++ last) × (length last ≤ 4096) × IsOpen front

-- What it gave, up to the limit, has this fault. It was lost where the reader failed, or came past its
-- limit. Without the last bytes that were read at once nothing was wrong yet, so no more was read than
-- that needs.
abbrev pub IsFaulty : Option (List ℕ) → Option (List ℕ) → ℕ → Type 0 → FileFault → Type 0
IsFaulty old new given failed e =
    (came : List ℕ) × Consumes old new came × (length came ≡ given)
    × IsFaultOf (take 1073741824 came) (IsAtEnd new × (length came ≤ 1073741824))
    (failed ⊎ (1073741824 < length came)) e
    × IsOpenBefore came
