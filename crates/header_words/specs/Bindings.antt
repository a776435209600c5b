-- Which monitors a trace has published, and which of them a list of bound objects has.
use Rattle.std.specs.Prelude.{◌≡◌, ◌⊎◌, ℕ, Bool, true, List, [], ◌∷◌, slice_get, Some}
use Rattle.lock_word.specs.declared.ObjectId.{ObjectId}
use Rattle.header_words.specs.declared.event.EventKind.{EventKind}
use Rattle.header_words.specs.declared.event.EventKind.TheVariants.{Load, Win, Lose, Nest, Unnest, Release, Publish}
use Rattle.header_words.specs.declared.event.Event.{Event}

-- the trace has a publish of the monitor m at the object o
abbrev pub HasPublish : ℕ → ℕ → List Event → Type 0
HasPublish m o [] = ⊥
HasPublish m o (e ∷ es) = ((e.kind ≡ Publish m) × (e.object ≡ o)) ⊎ HasPublish m o es

-- every publish of the trace has its like in what was seen
abbrev pub HasPublishesOf : List Event → List Event → Type 0
HasPublishesOf log seen = (m o : ℕ) → HasPublish m o log → HasPublish m o seen

-- in the list of bound objects, by monitor number, the object o stands at m
abbrev pub Binds : List ObjectId → ℕ → ℕ → Type 0
Binds objects m o = slice_get objects m ≡ Some (record { 0 = o })

-- the list binds m to o for every publish of m at o
abbrev pub Covers : List ObjectId → List Event → Type 0
Covers objects log = (m o : ℕ) → HasPublish m o log → Binds objects m o

-- an event of this kind is no publish, or the list binds its monitor to the object o
abbrev pub BindsKind : List ObjectId → EventKind → ℕ → Type 0
BindsKind objects (Load w) o = Unit {0}
BindsKind objects Win o = Unit {0}
BindsKind objects Lose o = Unit {0}
BindsKind objects Nest o = Unit {0}
BindsKind objects Unnest o = Unit {0}
BindsKind objects Release o = Unit {0}
BindsKind objects (Publish m) o = Binds objects m o

-- an event of this kind is no publish
abbrev pub IsNoPublish : EventKind → Type 0
IsNoPublish (Load w) = Unit {0}
IsNoPublish Win = Unit {0}
IsNoPublish Lose = Unit {0}
IsNoPublish Nest = Unit {0}
IsNoPublish Unnest = Unit {0}
IsNoPublish Release = Unit {0}
IsNoPublish (Publish m) = ⊥

-- only a pass that has the gate publishes
abbrev pub GateAllows : Bool → EventKind → Type 0
GateAllows has_gate kind = (has_gate ≡ true) ⊎ IsNoPublish kind
