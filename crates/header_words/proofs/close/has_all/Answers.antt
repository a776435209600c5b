use Rattle.std.proofs.Common.{◌≡◌, ◌≤◌, ℕ, ◌+◌, subst, arith, true≢false, ◌∙◌, sym}
use Rattle.std.specs.List.{Contains}
use Rattle.header_words.specs.Passes.{indices_of}
use native.Mathlib.Decide.{dec_le}
use Rattle.header_words.proofs.close.has_all.Goals as goal

up : (P : ℕ → Type 0) (n i : ℕ) → ((j : ℕ) → 1 ≤ j → j ≤ n → P j) → P (n + 1) → 1 ≤ i → i ≤ n + 1 → Dec (i ≤ n) → P i
up P n i all here one most (yes le) = all i one le
up P n i all here one most (no nle) = let e : n + 1 ≡ i = omega arith in subst P e here

pub loop-below-preserved : goal.loop-below-preserved
loop-below-preserved g c = λ i one most. up (λ j. Contains (indices_of c.args.passes.now) j) c.loop-below.below i c.loop-below.invariant (c.has_index.ensures.0 c.if-not-has_index.false) one most (dec_le i c.loop-below.below)

pub returns-clause-found : goal.returns-clause-found
returns-clause-found g c = λ _ i one most. c.loop-below.invariant i one (let t = c.loop-below-test.false in omega arith)

pub returns-then-not-has_index-clause-missing : goal.returns-then-not-has_index-clause-missing
returns-then-not-has_index-clause-missing g c = λ _. (c.loop-below.below + 1, omega arith, (let h = c.loop-below-test.true in omega arith), λ there. true≢false (sym (c.has_index.ensures.1 there) ∙ c.if-not-has_index.true))
