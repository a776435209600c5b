use Rattle.std.proofs.Common.{◌≡◌, ◌⊎◌, inl, inr, ℕ, ◌-◌, ◌<◌, ◌≤◌, refl, rules}
use native.Mathlib.Omega.{arith}
use Rattle.drawing.proofs.windows.Window.cut.Goals as goal

not_beyond : (first begin n : ℕ) → begin ≡ first - 1 → ((0 < begin) × (begin < n)) ⊎ (begin ≤ 0) → 1 < first → n < first → ⊥
not_beyond first begin n e (inl h) more beyond = let x = h.1 in omega (arith, e, x, more, beyond)
not_beyond first begin n e (inr h) more beyond = omega (arith, e, h, more, beyond)

begins_within : (begin n : ℕ) → ((0 < begin) × (begin < n)) ⊎ (begin ≤ 0) → begin ≤ n
begins_within begin n (inl h) = let x = h.1 in omega (arith, x)
begins_within begin n (inr h) = omega (arith, h)

pub returns-clause-begin : goal.returns-clause-begin
returns-clause-begin c = c.saturating_sub-begin.ensures

pub returns-clause-end : goal.returns-clause-end
returns-clause-end c = rw (c.max.ensures, c.saturating_sub-begin.ensures, c.end_among.ensures.end) refl

pub returns-clause-within : goal.returns-clause-within
returns-clause-within c =
    let most = c.max.ensures in
    let within = c.end_among.ensures.within in
    let begins = begins_within c.saturating_sub-begin.result c.args.columns c.else-begin-gt0.either in
    (omega (arith, most), omega (arith, most, within, begins))

pub returns-clause-before : goal.returns-clause-before
returns-clause-before c = λ beyond.
    not_beyond c.args.self.first c.saturating_sub-begin.result c.args.columns c.saturating_sub-begin.ensures c.else-begin-gt0.either beyond.0 beyond.1

pub returns-then-begin-columns-clause-beyond : goal.returns-then-begin-columns-clause-beyond
returns-then-begin-columns-clause-beyond c = search rules
