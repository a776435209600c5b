use Rattle.std.proofs.Common.{◌≡◌, refl, ℕ, ◌<◌, length, get_or, map, replicate, arith}
use Rattle.step_core.specs.declared.places.Place.TheVariants.{Idle}
use Rattle.step_core.specs.World.{low_word}
use Rattle.step_core.proofs.Sound.Opening.{opened_sound, opened_shows}
use Rattle.step_core.proofs.worlds.World.new.Goals as goal

pub invariant_of-result : goal.invariant_of-result
invariant_of-result c =
    let words : c.in_ok-words.words.items ≡ map low_word c.args.lows.now = c.in_ok-words.ensures in
    let places : c.in_ok-places.places.items ≡ replicate c.args.indices Idle = rw (← c.from.ensures) (c.in_ok-places.ensures.items_if_clones_equal (λ y e. e)) in
    let bytes : (k : ℕ) → k < length c.args.lows.now → get_or c.args.lows.now k 0 < 256 = λ k h. grind (arith, c.type_inv.lows k) in
    rw (words, c.in_ok-new.ensures.free, places, c.new-2.ensures.opened)
    (opened_sound c.args.lows.now c.args.monitors c.args.indices c.args.split bytes c.requires.objects c.requires.high c.requires.monitors)

pub returns-clause-shows : goal.returns-clause-shows
returns-clause-shows c =
    let words : c.in_ok-words.words.items ≡ map low_word c.args.lows.now = c.in_ok-words.ensures in
    let places : c.in_ok-places.places.items ≡ replicate c.args.indices Idle = rw (← c.from.ensures) (c.in_ok-places.ensures.items_if_clones_equal (λ y e. e)) in
    let bytes : (k : ℕ) → k < length c.args.lows.now → get_or c.args.lows.now k 0 < 256 = λ k h. grind (arith, c.type_inv.lows k) in
    rw (words, c.in_ok-new.ensures.free, places, c.new-2.ensures.opened) (opened_shows c.args.lows.now c.args.monitors c.args.indices c.args.split bytes)

pub returns-clause-world : goal.returns-clause-world
returns-clause-world c =
    let places : c.in_ok-places.places.items ≡ replicate c.args.indices Idle = rw (← c.from.ensures) (c.in_ok-places.ensures.items_if_clones_equal (λ y e. e)) in
    rw (c.in_ok-words.ensures, c.in_ok-new.ensures.free, places, c.new-2.ensures.opened) refl
