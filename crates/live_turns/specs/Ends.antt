-- What the end of a service tells.
use Rattle.std.specs.Prelude.{◌≡◌, ℕ, ◌==◌, List, All, filter, length, map, sum}
use Rattle.header_words.specs.Passes.{Opening, PassValue, IsClosed}
use Rattle.fat_monitor.specs.FatState.{FatState, objects_of}
use Rattle.live_book.specs.declared.deeds.Logged.{Logged}
use Rattle.live_turns.specs.declared.closed.Closed.{Closed}
use Rattle.live_turns.specs.declared.closed.TurnsClose.{TurnsClose}
use Rattle.live_turns.specs.declared.closed.TurnsClose.TheVariants.{WrongPass, Memory, Torn}
use Rattle.live_book.specs.Book.{BookState}
use Rattle.live_book.specs.Log.{Replays, nothing_bound}
use Rattle.live_turns.specs.Numbers.{HasEach}
use Rattle.live_turns.specs.Ways.{PassState}

-- the deeds of one thread
abbrev pub own_of : ℕ → List Logged → List Logged
own_of t log = filter (λ (e : Logged). e.thread.0 == t) log

abbrev pub words_of : PassState → PassValue
words_of p = p.holding.words

-- how many deeds a pass did
abbrev pub count_of : PassState → ℕ
count_of p = length p.holding.own

-- the record has just this pass's own deeds under its number
abbrev pub HasOwn : List Logged → PassState → Type 0
HasOwn log p = own_of p.holding.words.index log ≡ p.holding.own

-- The words are the replay of one trace whose events are those of the passes, with a monitor for each fat word; the
-- record replays from nothing bound, has just each pass's deeds under its number, and as many as all passes together.
pub record IsEnd (z : Opening) (limit : ℕ) (ps : List PassState) (c : Closed) : Type 0 where
  pub fats : FatState
  pub words : IsClosed z (map words_of ps) (map (λ w. w.0) c.words.items) (objects_of fats)
  pub replays : Replays z.count (nothing_bound z.count limit) c.logged.items fats
  pub own : All (HasOwn c.logged.items) ps
  pub counts : c.counts.items ≡ map count_of ps
  pub total : length c.logged.items ≡ sum (map count_of ps)

-- the numbers of the passes
abbrev pub numbers_of : List PassState → List ℕ
numbers_of ps = map (λ (p : PassState). p.holding.words.index) ps

-- want of memory and a torn pass are told of passes that are all there
abbrev pub TellsEnd : {L : Type 0} → ℕ → List PassState → TurnsClose L → Type 0
TellsEnd count ps (WrongPass t p) = HasEach count (numbers_of ps) → ⊥
TellsEnd count ps (Memory t p) = HasEach count (numbers_of ps)
TellsEnd count ps Torn = HasEach count (numbers_of ps)

-- the fault hands back this service and these passes
abbrev pub IsHandedBack : {L : Type 0} → Opening → List PassState → TurnsClose L → Type 0
IsHandedBack z ps (WrongPass t p) = (t ≡ z) × (p.items ≡ ps)
IsHandedBack z ps (Memory t p) = (t ≡ z) × (p.items ≡ ps)
IsHandedBack z ps Torn = Unit {0}

-- there is a record that replays from nothing bound, and is as long as the deeds of all passes together, but does not
-- have just each pass's deeds under its number
pub record Disagrees (z : Opening) (limit : ℕ) (ps : List PassState) : Type 0 where
  pub log : List Logged
  pub fats : FatState
  pub replays : Replays z.count (nothing_bound z.count limit) log fats
  pub total : length log ≡ sum (map count_of ps)
  pub other : All (HasOwn log) ps → ⊥

-- Torn is told where there is such a record, which does not have just each pass's own deeds
abbrev pub IsTornFrom : {L : Type 0} → Opening → ℕ → List PassState → TurnsClose L → Type 0
IsTornFrom z limit ps (WrongPass t p) = Unit {0}
IsTornFrom z limit ps (Memory t p) = Unit {0}
IsTornFrom z limit ps Torn = Disagrees z limit ps

abbrev pub IsTorn : {L : Type 0} → TurnsClose L → Type 0
IsTorn (WrongPass t p) = ⊥
IsTorn (Memory t p) = ⊥
IsTorn Torn = Unit {0}

-- this is so of a book
abbrev pub IsLookedAt : (BookState → Type 0) → Type 0
IsLookedAt told = (book : BookState) × told book
