use Rattle.std.proofs.Common.{◌≡◌, false, All, sym, subst}
use Rattle.header_words.proofs.Opens.{new_passes_belong, new_passes_without}
use Rattle.word_tests.proofs.headers.limits.open_all.Goals as goal

pub returns-clause-belong : goal.returns-clause-belong
returns-clause-belong g c = subst (All (λ p. p.opening ≡ c.in-Ok-open.headers)) (sym c.in-Ok-open.ensures.passes) (new_passes_belong c.in-Ok-open.headers 1 64)

pub returns-clause-without : goal.returns-clause-without
returns-clause-without g c = subst (All (λ p. p.has_gate ≡ false)) (sym c.in-Ok-open.ensures.passes) (new_passes_without c.in-Ok-open.headers 1 64)
