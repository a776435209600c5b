-- The events of header words, and how a trace of them replays. The state between events is the list of locks:
-- low bytes never change.
use Rattle.std.specs.Prelude.{◌≡◌, ◌≢◌, ℕ, ◌+◌, ◌-◌, ◌<◌, ◌≤◌, if◌then◌else◌, ◌==◌, List, [], ◌∷◌, map, length, filter}
use Rattle.std.specs.Prelude.{slice_index, slice_index_or, slice_set}
use Rattle.lock_word.specs.declared.Lock.{Lock}
use Rattle.lock_word.specs.declared.Lock.TheVariants.{Free, Thin, Fat}
use Rattle.header_words.specs.WideWords.{word_of}
use Rattle.lock_word.specs.Layout.{count_of}
use Rattle.header_words.specs.declared.event.EventKind.{EventKind}
use Rattle.header_words.specs.declared.event.EventKind.TheVariants.{Load, Win, Lose, Nest, Unnest, Release, Publish}
use Rattle.header_words.specs.declared.event.Event.{Event}

-- the event of the pass i at the object o
abbrev pub event : ℕ → ℕ → EventKind → Event
event i o d = record { pass = i; object = o; kind = d }

-- an event of this kind may be made by the pass i, where the word has this lock above this low byte
abbrev pub Legal : ℕ → EventKind → Lock → ℕ → Type 0
Legal i (Load w) l b = w ≡ word_of l b
Legal i Win l b = l ≡ Free
Legal i Lose l b = l ≢ Free
Legal i Nest l b = (l ≡ Thin i (count_of l)) × (count_of l < 255)
Legal i Unnest l b = (l ≡ Thin i (count_of l)) × (0 < count_of l)
Legal i Release l b = l ≡ Thin i 0
Legal i (Publish m) l b = (l ≡ Thin i (count_of l)) × (m ≤ 8388607)

-- the lock after such an event
abbrev pub effect : ℕ → EventKind → Lock → Lock
effect i (Load w) l = l
effect i Win l = Thin i 0
effect i Lose l = l
effect i Nest l = Thin i (count_of l + 1)
effect i Unnest l = Thin i (count_of l - 1)
effect i Release l = Free
effect i (Publish m) l = Fat m

-- the lock of the object o
abbrev pub lock_at : List Lock → ℕ → Lock
lock_at ls o = slice_index_or ls o Free

-- the locks after an event
abbrev pub locks_after : Event → List Lock → List Lock
locks_after e ls = slice_set ls e.object (effect e.pass e.kind (lock_at ls e.object))

-- the event is of one of the passes 1 to count, at an object that there is, and legal where the locks are these
abbrev pub MayFollow : List ℕ → ℕ → Event → List Lock → Type 0
MayFollow lows count e ls =
    (1 ≤ e.pass) × (e.pass ≤ count) × (e.object < length lows)
    × Legal e.pass e.kind (lock_at ls e.object) (slice_index lows e.object)

-- the events, each legal where it stands, lead from the locks ls to the locks ms
abbrev pub Replays : List ℕ → ℕ → List Lock → List Event → List Lock → Type 0
Replays lows count ls [] ms = ls ≡ ms
Replays lows count ls (e ∷ es) ms = MayFollow lows count e ls × Replays lows count (locks_after e ls) es ms

-- the locks at the start: every object is free
abbrev pub free_locks : List ℕ → List Lock
free_locks lows = map (λ b. Free) lows

-- the events of the pass i, in their order
abbrev pub own_events : ℕ → List Event → List Event
own_events i es = filter (λ e. e.pass == i) es

-- how many times the pass i holds an object thinly by this lock
abbrev pub holds_of : ℕ → Lock → ℕ
holds_of i Free = 0
holds_of i (Thin j c) = if j == i then c + 1 else 0
holds_of i (Fat m) = 0

-- how many times a pass that held an object d times holds it thinly after an event of this kind
abbrev pub depth_after : EventKind → ℕ → ℕ
depth_after (Load w) d = d
depth_after Win d = 1
depth_after Lose d = d
depth_after Nest d = d + 1
depth_after Unnest d = d - 1
depth_after Release d = 0
depth_after (Publish m) d = 0

-- how many times a pass that held the object o d times holds it after these events of its own
abbrev pub depth_from : ℕ → ℕ → List Event → ℕ
depth_from o d [] = d
depth_from o d (e ∷ es) = depth_from o (if e.object == o then depth_after e.kind d else d) es

-- how many times a pass holds the object o thinly, by all events of its own
abbrev pub depth : ℕ → List Event → ℕ
depth o es = depth_from o 0 es
