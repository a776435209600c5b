use Rattle.std.specs.Prelude.{◌≡◌, ℕ, zero, suc, List, [], ◌∷◌, slice_get, slice_index_or}
use Rattle.std.specs.Option.{option_map, unwrap_or}
use Rattle.std.proofs.Common.{refl}
use Rattle.fat_monitor.specs.declared.monitors.Monitor.{Monitor}
use Rattle.fat_monitor.specs.FatState.{unbound}
use Rattle.step_core.proofs.worlds.World.object.Goals as goal

-- the object of a monitor that is bound, and the first one of any other
object_or : (ms : List Monitor) (m : ℕ) → unwrap_or (option_map (λ (b : Monitor). b.object) (slice_get ms m)) (record { 0 = 0 }) ≡ (slice_index_or ms m unbound).object
object_or [] m = refl
object_or (b ∷ bs) zero = refl
object_or (b ∷ bs) (suc m) = object_or bs m

pub returns : goal.returns
returns c = rw (← c.self.view_is, c.unwrap_or.ensures, c.object.ensures) (object_or c.self.inside.fats.monitors c.args.monitor)
