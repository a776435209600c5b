use Rattle.std.proofs.Common.{◌≡◌, ◌≢◌, ℕ, ◌+◌, ◌<◌, List, map, length, get_or, sym, ap, ◌∙◌, arith}
use Rattle.std.proofs.lemmas.List.{get_or_default, length-map}
use lib.ListN.{get_or-map}
use native.Mathlib.Decide.{ℕ_discrete}
use Rattle.header_words.specs.Passes.{PassValue}
use Rattle.header_words.proofs.close.has_index.Goals as goal

missed : (ps : List PassValue) (i n : ℕ) (p : PassValue) → n < length ps → p ≡ get_or ps n p → p.index ≢ i → ((k : ℕ) (d : ℕ) → k < n → get_or (map (λ (q : PassValue). q.index) ps) k d ≢ i)
    → (k : ℕ) (d : ℕ) → k < n + 1 → get_or (map (λ (q : PassValue). q.index) ps) k d ≢ i
missed ps i n p inside is not before k d lt e = go (ℕ_discrete k n)
  where
    f : PassValue → ℕ
    f q = q.index

    go : Dec (k ≡ n) → ⊥
    go (yes same) =
        let within : n < length (map (λ (q : PassValue). q.index) ps) = simp length-map inside in
        let read : get_or (map (λ (q : PassValue). q.index) ps) n d ≡ p.index = get_or_default (map (λ (q : PassValue). q.index) ps) n d p.index within ∙ (get_or-map (λ (q : PassValue). q.index) ps n p ∙ ap (λ (q : PassValue). q.index) (sym is)) in
        not (sym read ∙ (ap (λ (j : ℕ). get_or (map (λ (q : PassValue). q.index) ps) j d) (sym same) ∙ e))
    go (no ne) = before k d (omega arith) e

pub loop-pass-preserved : goal.loop-pass-preserved
loop-pass-preserved g c = missed c.args.passes.now c.args.index c.loop-pass.pass-index c.pass-item.result c.loop-pass-test.true c.pass-item.is (λ e. c.if-index.false (c.index.ensures.value ∙ e)) c.loop-pass.invariant
