use Rattle.std.proofs.Common.{◌≡◌, ◌∷◌, [], arith, ◌∙◌, ap, ◌++◌, List}
use Rattle.lock_word.specs.declared.Split.TheVariants.{Wide}
use Rattle.step_core.specs.declared.places.Place.{Place}
use Rattle.step_core.specs.declared.places.Place.TheVariants.{Idle}
use Rattle.step_core.proofs.Sound.Opening.{opened_sound}
use Rattle.step_core.proofs.worlds.World.clone_into.Goals as goal

pub invariant_of-copy-2 : goal.invariant_of-copy-2
invariant_of-copy-2 c =
    let places : c.push_reserved.new.self.items ≡ Idle ∷ [] = c.push_reserved.ensures.items ∙ ap (λ (xs : List Place). xs ++ Idle ∷ []) c.clear-2.ensures.items in
    rw (c.clear.ensures.items, c.in-Ok.ensures.free, places, c.new-2.ensures.opened)
    (opened_sound [] 0 1 Wide (λ k h. absurd (omega (arith, h))) (omega arith) (omega arith) (omega arith))
