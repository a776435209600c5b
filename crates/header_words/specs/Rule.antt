-- The rule of the words: there is one trace, which replays to them. Each seat has seen a
-- beginning of it, and knows all events of its own.
use Rattle.std.specs.Prelude.{◌≡◌, ◌≢◌, ℕ, zero, suc, ◌+◌, ◌<◌, ◌≤◌, false, Option, List, [], ◌∷◌, ◌++◌, length}
use Rattle.std.specs.Prelude.{slice_index, if◌then◌else◌, nat_lt}
use mathlib.Core.List.{IsPrefix}
use mathlib.Core.Option.{some}
use lib.ListN.{get_elem?}
use Rattle.atomic_table.specs.Table.{State}
use Rattle.lock_word.specs.declared.Lock.{Lock}
use Rattle.lock_word.specs.declared.ObjectId.{ObjectId}
use Rattle.header_words.specs.WideWords.{word_of}
use Rattle.header_words.specs.declared.event.Event.{Event}
use Rattle.header_words.specs.declared.rule.Part.{Part}
use Rattle.header_words.specs.declared.rule.View.{View}
use Rattle.header_words.specs.Events.{lock_at, Replays, free_locks, own_events}
use Rattle.header_words.specs.Gate.{Gated}

-- P holds of each element
abbrev pub Each : {X : Type 0} → (X → Type 0) → List X → Type 0
Each P [] = Unit {0}
Each P (x ∷ xs) = P x × Each P xs

-- the index i, with the events m
abbrev pub part : ℕ → List Event → Part
part i m = record { index = i; mine = m }

-- the index of a seat that has one
abbrev pub index_of : List Part → ℕ
index_of [] = 0
index_of (p ∷ ps) = p.index

-- the events of a seat that has one index
abbrev pub mine_of : List Part → List Event
mine_of [] = []
mine_of (p ∷ ps) = p.mine

-- the seat has one index
abbrev pub HasOneIndex : View → Type 0
HasOneIndex v = v.parts ≡ part (index_of v.parts) (mine_of v.parts) ∷ []

-- n new indices, from i on
abbrev pub new_parts : ℕ → ℕ → List Part
new_parts i zero = []
new_parts i (suc n) = part i [] ∷ new_parts (suc i) n

-- the first seat of a table, which has all indices
abbrev pub opening_view : List ℕ → ℕ → View
opening_view lows count = record {
  lows = lows;
  count = count;
  parts = new_parts 1 count;
  seen = [];
  earlier = [];
  has_gate = false;
  steps = 0;
}

-- the seat k with this view has this index: the index has just these events in the trace, and in
-- what the seat has seen
pub record IsMine (lows : List ℕ) (count : ℕ) (log : List Event) (seat_of : ℕ → ℕ) (k : ℕ) (v : View)
    (p : Part) : Type 0 where
  pub same : v.lows ≡ lows
  pub same_count : v.count ≡ count
  pub low : 1 ≤ p.index
  pub high : p.index ≤ count
  pub all : own_events p.index log ≡ p.mine
  pub seen_all : own_events p.index v.seen ≡ p.mine
  pub seat : seat_of p.index ≡ k

-- no two have one index
abbrev pub AreApart : List Part → Type 0
AreApart [] = Unit {0}
AreApart (p ∷ ps) = Each (λ q. p.index ≢ q.index) ps × AreApart ps

-- what the seat k with this view knows of the trace: it has seen a beginning, as did the seats
-- that it took in, and it has its indices alone
pub record Knows (lows : List ℕ) (count : ℕ) (log : List Event) (seat_of : ℕ → ℕ) (k : ℕ) (v : View) : Type 0 where
  pub seen : IsPrefix v.seen log
  pub earlier : Each (λ old. IsPrefix old log) v.earlier
  pub parts : Each (IsMine lows count log seat_of k v) v.parts
  pub apart : AreApart v.parts

-- the rule: one trace replays to the words, of which 0 is the gate and o + 1 that of the object
-- o, and the book binds what it publishes
pub record Ruled {B : Type 0} (bound : B → List ObjectId) (lows : List ℕ) (count : ℕ)
    (s : State (Option B) View) : Type 0 where
  pub log : List Event
  pub locks : List Lock
  pub seat_of : ℕ → ℕ
  pub bytes : (o : ℕ) → slice_index lows o < 256
  pub few : count ≤ 32767
  pub replays : Replays lows count (free_locks lows) log locks
  pub wide : length s.words ≡ length lows + 1
  pub words : (o : ℕ) → o < length lows → slice_index s.words (o + 1) ≡ word_of (lock_at locks o) (slice_index lows o)
  pub views : (k : ℕ) (v : View) → get_elem? s.views k ≡ some v → Knows lows count log seat_of k v
  pub gated : Gated bound count log seat_of (slice_index s.words 0) s.homes s.views

-- what a step of a seat with the index i and the events m makes of its view, where the trace is
-- log
abbrev pub stepped_view : View → List Event → ℕ → List Event → Event → View
stepped_view v log i m e = record {
  lows = v.lows;
  count = v.count;
  parts = part i (m ++ e ∷ []) ∷ [];
  seen = log ++ e ∷ [];
  earlier = [];
  has_gate = v.has_gate;
  steps = suc v.steps;
}

-- a seat that has no index any more
abbrev pub spent_view : View
spent_view = record {
  lows = [];
  count = 0;
  parts = [];
  seen = [];
  earlier = [];
  has_gate = false;
  steps = 0;
}

-- the view with another number of steps and other indices
abbrev pub with_parts : View → ℕ → List Part → View
with_parts v n ps = record {
  lows = v.lows;
  count = v.count;
  parts = ps;
  seen = v.seen;
  earlier = v.earlier;
  has_gate = v.has_gate;
  steps = n;
}

-- the first of the parts, alone
abbrev pub first_part : List Part → List Part
first_part [] = []
first_part (p ∷ ps) = p ∷ []

-- all parts but the first
abbrev pub other_parts : List Part → List Part
other_parts [] = []
other_parts (p ∷ ps) = ps

-- the seat keeps all indices but the first
abbrev pub kept_view : View → View
kept_view v = with_parts v (suc v.steps) (other_parts v.parts)

-- which a new seat gets, that has taken no step
abbrev pub given_view : View → View
given_view v = with_parts v 0 (first_part v.parts)

-- the longer one of two lists of events
abbrev pub longer_of : List Event → List Event → List Event
longer_of xs ys = if nat_lt (length xs) (length ys) then ys else xs

-- a seat with the indices of both, which keeps both seen lists beside the longer one; neither has
-- the gate
abbrev pub joined_view : View → View → View
joined_view v w = record {
  lows = v.lows;
  count = v.count;
  parts = v.parts ++ w.parts;
  seen = longer_of v.seen w.seen;
  earlier = (v.seen ∷ v.earlier) ++ (w.seen ∷ w.earlier);
  has_gate = false;
  steps = suc v.steps;
}
