use Rattle.std.proofs.Common.{◌≡◌, ℕ, ◌-◌, ap, inr, refl, arith}
use Rattle.lock_word.specs.declared.Lock.TheVariants.{Thin}
use Rattle.header_words.specs.Events.{depth}
use Rattle.header_words.proofs.headers.Headers.unnest.Goals as goal

pub note_then_store-requires-clause-fits : goal.note_then_store-requires-clause-fits
note_then_store-requires-clause-fits g c = let i = c.index-index.ensures in let d = c.depth-depth.ensures in let most = d.most in (i.low, i.high, omega arith)

pub note_then_store-requires-clause-legal : goal.note_then_store-requires-clause-legal
note_then_store-requires-clause-legal g c = let i = c.index-index.ensures.value in let d = c.depth-depth.ensures.value in let several = c.requires.several in
    let n : ℕ = depth c.args.object.0 c.args.pass.now.mine in
    let down : c.depth-depth.result - 2 ≡ (n - 1) - 1 = omega arith in
    (inr tt, n - 1, omega arith, (refl, omega arith), (λ k. Thin (i k) (down k)), ap (λ (x : ℕ). x - 1) d)
