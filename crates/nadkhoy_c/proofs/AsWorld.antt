-- A world in a box, its parts, and the struct that C may keep in their place.
use denote.RattleType.{RattleType}
use Rattle.std_alloc.proofs.BoxSteps.Form.{Bx}
use Rattle.std_heap.specs.contracts.Global as Heap
use Rattle.std_heap.specs.contracts.GlobalAllocator.TheImpl.{ghosts}
use Rattle.step_core.specs.contracts.worlds.World as Home
use Rattle.step_core.proofs.worlds.World.TheLaws as home
use Rattle.c_slots.specs.contracts.parts.Parts as Parts
use Rattle.c_slots.proofs.Erased.{on_heap}
use Rattle.nadkhoy_c.specs.contracts.raw.RawWorld as Raw

abbrev pub Value : Type 0
Value = Home.the_row.Denot

abbrev pub E : Bx
E = on_heap Home.the_row home.the_row_laws

abbrev pub Open : RattleType
Open = Parts.the_row Home.the_row Heap.the_row ghosts

abbrev pub Sealed : RattleType
Sealed = Raw.the_row
