-- Where the book is, and what it has bound.
use Rattle.std.specs.Prelude.{◌≡◌, ◌≢◌, ℕ, ◌≤◌, true, Option, Some, List}
use mathlib.Core.Option.{some}
use mathlib.Core.Option.{Option as Home}
use lib.ListN.{get_elem?}
use Rattle.lock_word.specs.declared.ObjectId.{ObjectId}
use Rattle.header_words.specs.declared.event.Event.{Event}
use Rattle.header_words.specs.declared.rule.View.{View}
use Rattle.header_words.specs.Bindings.{Covers, HasPublishesOf}

-- The gate word is 0 where the gate is open, and else the index of the pass that took it.
-- home: while the gate is open, the book lies in its slot, and binds every publish of the trace.
-- taken: while it is taken, the seat of that index has it.
-- takers: a seat that has the gate is that one, and has seen every publish.
pub record Gated {B : Type 0} (bound : B → List ObjectId) (count : ℕ) (log : List Event) (seat_of : ℕ → ℕ) (gate : ℕ)
    (homes : List (Home (Option B))) (views : List View) : Type 0 where
  pub home : gate ≡ 0 → (b : B) × (get_elem? homes 0 ≡ some (some (Some b))) × Covers (bound b) log
  pub taken : gate ≢ 0 → (gate ≤ count) × (v : View) × (get_elem? views (seat_of gate) ≡ some v) × (v.has_gate ≡ true)
  pub takers : (k : ℕ) (v : View) → get_elem? views k ≡ some v → v.has_gate ≡ true
      → (gate ≢ 0) × (seat_of gate ≡ k) × HasPublishesOf log v.seen
