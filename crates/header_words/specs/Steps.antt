-- What each kind of step tells the seat that takes it.
use Rattle.std.specs.Prelude.{◌≡◌, ◌≢◌, ◌↔◌, ℕ, suc, ◌+◌, ◌-◌, ◌/◌, ◌<◌, Bool, true, false, Option, Some, List, [], ◌∷◌}
use Rattle.std.specs.Prelude.{◌++◌, slice_index}
use mathlib.Core.List.{IsPrefix}
use Rattle.atomic_table.specs.Table.{Me, Step, rest}
use Rattle.lock_word.specs.declared.Lock.{Lock}
use Rattle.lock_word.specs.declared.ObjectId.{ObjectId}
use Rattle.lock_word.specs.declared.Lock.TheVariants.{Thin, Fat}
use Rattle.header_words.specs.WideWords.{word_of, lock_of, IsMalformed}
use Rattle.lock_word.specs.Layout.{low_of}
use Rattle.header_words.specs.declared.event.EventKind.{EventKind}
use Rattle.header_words.specs.declared.event.EventKind.TheVariants.{Load, Win, Lose, Publish}
use Rattle.header_words.specs.declared.event.Event.{Event}
use Rattle.header_words.specs.declared.rule.View.{View}
use Rattle.header_words.specs.Bindings.{Covers, HasPublish, HasPublishesOf, GateAllows}
use Rattle.header_words.specs.Events.{event, Legal, effect, depth_after, lock_at, Replays, free_locks, own_events}
use Rattle.header_words.specs.Events.{depth}
use Rattle.header_words.specs.Rule.{Each, AreApart, stepped_view, index_of, mine_of}

-- `decode` reads this low byte off the word, and a thin lock with the index i and the count c
-- exactly where d, the depth of the pass i, is c + 1
pub record ShowsDepth (i d low word : ℕ) : Type 0 where
  pub thin : (c : ℕ) → (d ≡ c + 1) ↔ (lock_of word ≡ Thin i c)
  pub kept : low_of word ≡ low
  pub spelled : word ≡ word_of (lock_of word) low
  pub formed : IsMalformed word → ⊥

-- the trace that the pass i has seen replays, and has just these events of its own
pub record Saw (lows : List ℕ) (count : ℕ) (seen : List Event) (i : ℕ) (mine : List Event) : Type 0 where
  pub locks : List Lock
  pub replays : Replays lows count (free_locks lows) seen locks
  pub own : own_events i seen ≡ mine

-- the seat added this event of its own to the trace, saw it all, and the object's word then is n,
-- which is fat only by a publish
-- publishes: while the seat has the gate, no other publishes
pub record AddsEvent (o : ℕ) (kind : EventKind) (n : ℕ) (v w : View) : Type 0 where
  pub rest : List Event
  pub view : w ≡ stepped_view v (v.seen ++ rest) (index_of v.parts) (mine_of v.parts) (event (index_of v.parts) o kind)
  pub saw : Saw w.lows w.count w.seen (index_of w.parts) (mine_of w.parts)
  pub word : n ≡ word_of (lock_at saw.locks o) (slice_index w.lows o)
  pub small : n < 4294967296
  pub published : (m : ℕ) → lock_of n ≡ Fat m → HasPublish m o w.seen
  pub publishes : v.has_gate ≡ true → HasPublishesOf (v.seen ++ rest) v.seen
  pub shows : ShowsDepth (index_of w.parts) (depth o (mine_of w.parts)) (slice_index w.lows o) n

-- the step was an event of this kind at the object of its word, and left the slots that the seat holds
abbrev pub Does : {S : Type 0} → EventKind → ℕ → Step S → Me S View → Me S View → Type 0
Does kind n st me me' = ((o : ℕ) → st.word ≡ o + 1 → AddsEvent o kind n me.0 me'.0) × (me'.1 ≡ me.1)

-- the load of a word
abbrev pub Loads : {S : Type 0} → Step S → Me S View → ℕ → Me S View → Type 0
Loads st me n me' = Does (Load n) n st me me'

-- the store of a word, which tells the kind of its event
abbrev pub Stores : {S : Type 0} → (ℕ → EventKind) → Step S → Me S View → ℕ → Me S View → Type 0
Stores kind st me n me' = Does (kind n) n st me me'

-- the store of a fat word, by its monitor
abbrev pub publish_of : ℕ → EventKind
publish_of n = Publish ((n - 2147483648) / 256)

-- the exchange of the free word: it was won where it found that word
abbrev pub Exchanges : {S : Type 0} → Step S → Me S View → ℕ → Me S View → Type 0
Exchanges st me n me' = (n ≡ st.first → Does Win st.second st me me') × (n ≢ st.first → Does Lose n st me me')

-- the pass i, which holds the object `deep` times and has the gate or not, may store the word of
-- this lock, and then holds it `left` times
abbrev pub MayStore : ℕ → ℕ → Bool → EventKind → ℕ → Lock → ℕ → Type 0
MayStore i deep has_gate kind low lock left =
    GateAllows has_gate kind × (d : ℕ) × (deep ≡ suc d) × Legal i kind (Thin i d) low
    × (lock ≡ effect i kind (Thin i d)) × (left ≡ depth_after kind deep)

-- the seat sees the whole trace, which replays and begins with each list that was seen before
pub record SeesAll (v w : View) : Type 0 where
  pub view : w ≡ record {
    lows = v.lows;
    count = v.count;
    parts = v.parts;
    seen = w.seen;
    earlier = [];
    has_gate = v.has_gate;
    steps = suc v.steps;
  }
  pub seen : IsPrefix v.seen w.seen
  pub earlier : Each (λ old. IsPrefix old w.seen) v.earlier
  pub apart : AreApart v.parts
  pub parts : Each (λ p. own_events p.index w.seen ≡ p.mine) v.parts
  pub lows : List ℕ
  pub count : ℕ
  pub same : Each (λ p. (v.lows ≡ lows) × (v.count ≡ count)) v.parts
  pub locks : List Lock
  pub replays : Replays lows count (free_locks lows) w.seen locks

-- the load of the gate word
abbrev pub Syncs : {S : Type 0} → Step S → Me S View → ℕ → Me S View → Type 0
Syncs st me n me' = SeesAll me.0 me'.0 × (me'.1 ≡ me.1)

-- the seat sees the whole trace, and has the gate
pub record TakesGate (v w : View) : Type 0 where
  pub view : w ≡ record {
    lows = v.lows;
    count = v.count;
    parts = v.parts;
    seen = w.seen;
    earlier = v.earlier;
    has_gate = true;
    steps = suc v.steps;
  }
  pub seen : IsPrefix v.seen w.seen
  pub saw : Saw v.lows v.count w.seen (index_of v.parts) (mine_of v.parts)

-- the exchange of the gate word: where the gate was open the seat has it, and the book's slot; else
-- nothing changed
abbrev pub Takes : {B : Type 0} → (B → List ObjectId) → Step (Option B) → Me (Option B) View → ℕ
    → Me (Option B) View → Type 0
Takes {B} bound st me n me' =
    (n ≡ 0 → TakesGate me.0 me'.0 × (b : B) × (me'.1 ≡ (0, Some b) ∷ me.1)
    × Covers (bound b) me'.0.seen)
    × (n ≢ 0 → me' ≡ me)

-- the view of a seat that gave the gate back
abbrev pub without_gate : View → View
without_gate v = record {
  lows = v.lows;
  count = v.count;
  parts = v.parts;
  seen = v.seen;
  earlier = v.earlier;
  has_gate = false;
  steps = suc v.steps;
}

-- the store of the gate word: the seat has given the gate back, and the slot that it took last
abbrev pub Gives : {S : Type 0} → Step S → Me S View → ℕ → Me S View → Type 0
Gives st me n me' = (me'.0 ≡ without_gate me.0) × (me'.1 ≡ rest me.1)
