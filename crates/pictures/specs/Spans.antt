-- What the machine says of a thread and of an object, column by column, and the spans that say so.
use Rattle.std.specs.Prelude.{◌≡◌, ℕ, zero, suc, ◌+◌, List, [], ◌∷◌, ◌++◌, Option, Some, None, slice_get}
use Rattle.std.specs.Prelude.{Vec}
use Rattle.std.specs.List.{flat_map}
use Rattle.std.specs.Option.{option_map}
use Rattle.std.specs.declared.alloc.Global.{Global}
use Rattle.lock_word.specs.declared.ThreadId.{ThreadId}
use Rattle.lock_word.specs.declared.ObjectId.{ObjectId}
use Rattle.lock_word.specs.declared.Word.{Word}
use Rattle.jls_check.specs.declared.threads.Live.{Live}
use Rattle.jls_check.specs.declared.monitors.Held.{Held}
use Rattle.step_core.specs.Machine.{State, Thread, Monitor}
use Rattle.pictures.specs.declared.picture.Span.{Span}
use Rattle.pictures.specs.declared.picture.Strip.{Strip}
use Rattle.pictures.specs.declared.picture.StripSpan.{StripSpan}

abbrev pub live_as : Thread → Live
live_as x = record { flag = x.flag; act = x.act }

abbrev pub held_as : Monitor → Held
held_as m = record { owner = m.owner; count = m.count }

-- what a state says of a thread
abbrev pub said_of : ThreadId → State → Option Live
said_of t s = option_map live_as (s.thread t)

-- and of an object
abbrev pub kept_of : ObjectId → State → Held
kept_of o s = held_as (s.monitor o)

abbrev pub repeated : {A : Type 0} → ℕ → A → List A
repeated zero x = []
repeated (suc n) x = x ∷ repeated n x

-- what spans say, column by column: each begins where the one in front of it ends
abbrev pub covered : List Span → List (Option Live)
covered spans = flat_map (λ (s : Span). repeated s.columns s.live) spans

abbrev pub strip_covered : List StripSpan → List Held
strip_covered spans = flat_map (λ (s : StripSpan). repeated s.columns s.held) spans

abbrev pub strip_words : List StripSpan → List (Option Word)
strip_words spans = flat_map (λ (s : StripSpan). repeated s.columns s.word) spans

-- ---- the header words: for each column a list, in which each strip has its own by its position

abbrev pub word_among : Option (Vec Word Global) → ℕ → Option Word
word_among None k = None
word_among (Some row) k = slice_get row.items k

-- the word of strip k behind column n, if it is told
abbrev pub word_in : List (Vec Word Global) → ℕ → ℕ → Option Word
word_in words n k = word_among (slice_get words n) k

-- the same of some columns, of which the first has number n: as many as there are states behind them
abbrev pub words_told : List (Vec Word Global) → ℕ → ℕ → List State → List (Option Word)
words_told words k n [] = []
words_told words k n (s ∷ ss) = word_in words n k ∷ words_told words k (n + 1) ss

-- ---- a column more

-- the strip with a column more, in which its object is as the state says, and has this word
pub record IsMarkedStrip (s : State) (w : Option Word) (p p' : Strip) : Type 0 where
  pub object : p'.object ≡ p.object
  pub spans : strip_covered p'.spans.items ≡ strip_covered p.spans.items ++ kept_of p.object s ∷ []
  pub words : strip_words p'.spans.items ≡ strip_words p.spans.items ++ w ∷ []

-- the same of all strips in column n, of which the first has position k
abbrev pub AllMarkedStrips : State → List (Vec Word Global) → ℕ → ℕ → List Strip → List Strip → Type 0
AllMarkedStrips s words n k [] [] = Unit {0}
AllMarkedStrips s words n k [] (q ∷ qs) = ⊥
AllMarkedStrips s words n k (p ∷ ps) [] = ⊥
AllMarkedStrips s words n k (p ∷ ps) (q ∷ qs) =
    IsMarkedStrip s (word_in words n k) p q × AllMarkedStrips s words n (k + 1) ps qs
