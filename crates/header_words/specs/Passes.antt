-- What contracts see of the words of objects and of the passes to them.
use Rattle.std.specs.Prelude.{◌≡◌, ◌≢◌, ◌⊎◌, ◌↔◌, ℕ, zero, suc, ◌+◌, ◌<◌, ◌≤◌, Bool, true, false, Option, None, List}
use Rattle.std.specs.Prelude.{[], ◌∷◌, ◌++◌, length, map, replicate, slice_index}
use Rattle.std.specs.List.{All, Contains}
use mathlib.Core.List.{IsPrefix}
use Rattle.atomic_table.specs.Seated.{TableId}
use Rattle.atomic_table.specs.declared.shared.Seat.{Seat}
use Rattle.lock_word.specs.declared.Lock.{Lock}
use Rattle.lock_word.specs.declared.ObjectId.{ObjectId}
use Rattle.lock_word.specs.declared.Lock.TheVariants.{Thin}
use Rattle.header_words.specs.WideWords.{word_of}
use Rattle.header_words.specs.declared.event.EventKind.{EventKind}
use Rattle.header_words.specs.declared.event.Event.{Event}
use Rattle.header_words.specs.declared.open.Row.{Row}
use Rattle.header_words.specs.declared.rule.Layout.{Layout}
use Rattle.header_words.specs.declared.rule.Part.{Part}
use Rattle.header_words.specs.declared.rule.View.{View}
use Rattle.header_words.specs.Bindings.{Covers, BindsKind, HasPublishesOf}
use Rattle.header_words.specs.Events.{event, depth_after, lock_at, Replays, free_locks, own_events, depth}
use Rattle.header_words.specs.Rule.{Each, part, index_of, mine_of, HasOneIndex}
use Rattle.header_words.specs.Steps.{Saw, ShowsDepth}

-- what `open` fixes for good: which table it is, the low bytes of its words, and how many passes
-- there are
pub record Opening : Type 0 where
  pub table : TableId
  pub lows : List ℕ
  pub count : ℕ

-- the opening that a table of words with this layout had
abbrev pub opening_of : TableId → Layout → Opening
opening_of z layout = record { table = z; lows = layout.lows.items; count = layout.count }

-- the parts of a `Headers` belong together: the gate word and one for each object, and one slot
pub record IsHeaders (z : TableId) (table_key layout : Layout) : Type 0 where
  pub key : table_key ≡ layout
  pub bytes : (o : ℕ) → slice_index layout.lows.items o < 256
  pub some : 1 ≤ layout.count
  pub few : layout.count ≤ 32767
  pub slots : z.slots ≡ 1
  pub words : z.words ≡ length layout.lows.items + 1

-- A pass as contracts see it: what it was opened with, its index, its own events, the beginning of
-- the trace that it has seen, whether it has the gate, and how many atomic steps of its own have
-- changed what it knows.
pub record PassValue : Type 0 where
  pub opening : Opening
  pub index : ℕ
  pub mine : List Event
  pub seen : List Event
  pub has_gate : Bool
  pub steps : ℕ

-- how many times the pass holds the object o thinly
abbrev pub depth_at : PassValue → ℕ → ℕ
depth_at p o = depth o p.mine

-- the low byte of the object o
abbrev pub low_at : Opening → ℕ → ℕ
low_at z o = slice_index z.lows o

-- the word of the object o with this lock
abbrev pub word_at : Opening → ℕ → Lock → ℕ
word_at z o l = word_of l (low_at z o)

-- the pass of a seat that has one index
abbrev pub pass_value : {S : Type 0} → Seat S View → PassValue
pass_value s = record {
  opening = record { table = s.table_id; lows = s.me.0.lows; count = s.me.0.count };
  index = index_of s.me.0.parts;
  mine = mine_of s.me.0.parts;
  seen = s.me.0.seen;
  has_gate = s.me.0.has_gate;
  steps = s.me.0.steps;
}

-- the slots that a pass has out: where it has the gate, that of the book, which is empty then
abbrev pub carried : {B : Type 0} → Bool → List (ℕ × Option B)
carried true = (0, None) ∷ []
carried false = []

-- the parts of a pass belong together: its row has the depths by its events, it has a copy of the
-- low bytes, what it has seen replays, and it says whether it has the gate
pub record IsPass {B : Type 0} (index : ℕ) (depths low_bytes : List ℕ) (has_gate : Bool)
    (s : Seat (Option B) View) : Type 0 where
  pub lone : HasOneIndex s.me.0
  pub named : index_of s.me.0.parts ≡ index
  pub low : 1 ≤ index
  pub high : index ≤ 32767
  pub gate : s.me.0.has_gate ≡ has_gate
  pub carries : s.me.1 ≡ carried has_gate
  pub few : (o : ℕ) → o < length depths → slice_index depths o ≤ 256
  pub wide : length depths ≡ length s.me.0.lows
  pub copy : low_bytes ≡ s.me.0.lows
  pub rows : (o : ℕ) → o < length depths → slice_index depths o ≡ depth o (mine_of s.me.0.parts)
  pub saw : Saw s.me.0.lows s.me.0.count s.me.0.seen (index_of s.me.0.parts) (mine_of s.me.0.parts)

-- the pass made this event by one step, the last of its own and of all that it has seen, the
-- object's word then is n, and only its depth there follows the event
-- publishes: while the pass has the gate, what it sees of others has no publish that it had not
-- seen
-- covers: so a list that bound every publish that it had seen, and binds its own, binds every
-- publish that it has seen then
pub record MakesEvent (o : ℕ) (kind : EventKind) (n : ℕ) (p q : PassValue) : Type 0 where
  pub opening : q.opening ≡ p.opening
  pub index : q.index ≡ p.index
  pub mine : q.mine ≡ p.mine ++ event p.index o kind ∷ []
  pub has_gate : q.has_gate ≡ p.has_gate
  pub step : q.steps ≡ suc p.steps
  pub rest : List Event
  pub seen : q.seen ≡ (p.seen ++ rest) ++ event p.index o kind ∷ []
  pub saw : Saw q.opening.lows q.opening.count q.seen q.index q.mine
  pub word : n ≡ word_of (lock_at saw.locks o) (slice_index q.opening.lows o)
  pub new_depth : depth o q.mine ≡ depth_after kind (depth o p.mine)
  pub others : (k : ℕ) → k ≢ o → depth k q.mine ≡ depth k p.mine
  pub publishes : p.has_gate ≡ true → HasPublishesOf (p.seen ++ rest) p.seen
  pub covers : p.has_gate ≡ true → (objects : List ObjectId)
      → Covers objects p.seen → BindsKind objects kind o → Covers objects q.seen

-- in the replay of what the pass has seen, the object is locked thinly with its index and the count
-- c exactly where d is c + 1
pub record HoldsThinly (p : PassValue) (o d : ℕ) : Type 0 where
  pub saw : Saw p.opening.lows p.opening.count p.seen p.index p.mine
  pub thin : (c : ℕ) → (d ≡ c + 1) ↔ (lock_at saw.locks o ≡ Thin p.index c)

-- a row for a pass that has done nothing: no locks, and a copy of the low bytes
abbrev pub IsNewRow : List ℕ → Row → Type 0
IsNewRow lows r = (r.depths.items ≡ replicate (length lows) 0) × (r.lows.items ≡ lows)

-- a pass that has done and seen nothing
abbrev pub new_pass : Opening → ℕ → PassValue
new_pass z i = record { opening = z; index = i; mine = []; seen = []; has_gate = false; steps = 0 }

-- n such passes, with the indices from i on
abbrev pub new_passes : Opening → ℕ → ℕ → List PassValue
new_passes z i zero = []
new_passes z i (suc n) = new_pass z i ∷ new_passes z (suc i) n

-- `q` is the pass `p`, and has seen this trace, which begins with what `p` has seen; it does not
-- have the gate
abbrev pub SeesMore : PassValue → PassValue → List Event → Type 0
SeesMore p q seen = IsPrefix p.seen seen × (q
    ≡ record { opening = p.opening; index = p.index; mine = p.mine; seen = seen; has_gate = false; steps = q.steps })

-- two passes have met: they have seen one trace, which replays and has just the events that each
-- made, and they do not both hold an object thinly
pub record HaveMet (p q p' q' : PassValue) : Type 0 where
  pub seen : List Event
  pub left : SeesMore p p' seen
  pub right : SeesMore q q' seen
  pub locks : List Lock
  pub replays : Replays p.opening.lows p.opening.count (free_locks p.opening.lows) seen locks
  pub left_own : own_events p.index seen ≡ p.mine
  pub right_own : own_events q.index seen ≡ q.mine
  pub apart : (o : ℕ) → (depth o p.mine ≡ 0) ⊎ (depth o q.mine ≡ 0)

-- the pass has taken the gate by one step, and has seen a trace that begins with what it had
-- seen, replays, and has just its own events of it
pub record HasTaken (p q : PassValue) : Type 0 where
  pub pass : q ≡ record {
    opening = p.opening;
    index = p.index;
    mine = p.mine;
    seen = q.seen;
    has_gate = true;
    steps = suc p.steps;
  }
  pub seen : IsPrefix p.seen q.seen
  pub saw : Saw p.opening.lows p.opening.count q.seen p.index p.mine

-- the pass when it has given the gate back, by one step
abbrev pub has_given : PassValue → PassValue
has_given p = record {
  opening = p.opening;
  index = p.index;
  mine = p.mine;
  seen = p.seen;
  has_gate = false;
  steps = suc p.steps;
}

-- the indices of passes
abbrev pub indices_of : List PassValue → List ℕ
indices_of ps = map (λ p. p.index) ps

-- each index from 1 to count is some pass's
abbrev pub HasAll : ℕ → List PassValue → Type 0
HasAll count ps = (i : ℕ) → 1 ≤ i → i ≤ count → Contains (indices_of ps) i

-- an index from 1 to count is no pass's
abbrev pub LacksOne : ℕ → List PassValue → Type 0
LacksOne count ps = (i : ℕ) × (1 ≤ i) × (i ≤ count) × (Contains (indices_of ps) i → ⊥)

-- the words are the replay of one trace, each pass has seen a beginning of it, its events of a
-- pass are just those that the pass made, words show depths, and the list of bound objects binds
-- its publishes
pub record IsClosed (z : Opening) (ps : List PassValue) (words : List ℕ) (objects : List ObjectId) : Type 0 where
  pub log : List Event
  pub locks : List Lock
  pub replays : Replays z.lows z.count (free_locks z.lows) log locks
  pub mine : All (λ p. own_events p.index log ≡ p.mine) ps
  pub seen : All (λ p. IsPrefix p.seen log) ps
  pub wide : length words ≡ length z.lows
  pub each : (o : ℕ) → o < length z.lows → slice_index words o ≡ word_of (lock_at locks o) (slice_index z.lows o)
  pub shows :
      All (λ p. (o : ℕ) → o < length z.lows
      → ShowsDepth p.index (depth_at p o) (low_at z o) (slice_index words o)) ps
  pub covers : Covers objects log

-- what a seat has seen, now and before it took in others
abbrev pub seen_lists : View → List (List Event)
seen_lists v = v.seen ∷ v.earlier

-- x is one of them
abbrev pub Within : {X : Type 0} → X → List X → Type 0
Within x [] = ⊥
Within x (y ∷ ys) = (y ≡ x) ⊎ Within x ys

-- the parts of these passes, from the last to the first
abbrev pub parts_of : List PassValue → List Part
parts_of [] = []
parts_of (p ∷ ps) = parts_of ps ++ part p.index p.mine ∷ []

-- the seat has the indices of all these passes, and has kept what they had seen; it does not have
-- the gate
pub record TookAll (all : List PassValue) (v : View) : Type 0 where
  pub plain : v.has_gate ≡ false
  pub parts : v.parts ≡ parts_of all
  pub saw : Each (λ p. Within p.seen (seen_lists v)) all
