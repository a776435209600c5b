use Rattle.std.proofs.Common.{◌≡◌, ◌<◌, ℕ, false}
use Rattle.step_core.specs.World.{lock_at}
use Rattle.step_core.specs.Shown.{shown}
use Rattle.step_core.specs.Relayout.{is_too_deep, inflated_below}
use Rattle.step_core.proofs.worlds.World.inflate_deep.Given as goal

abbrev pub invariant-loop-object : goal.invariant-loop-object
invariant-loop-object l =
    (l.self ≡ inflated_below l.split l.fn.self l.object)
    × (shown l.self ≡ shown l.fn.self)
    × ((q : ℕ) → q < l.object → is_too_deep l.split (lock_at l.self q) ≡ false)
