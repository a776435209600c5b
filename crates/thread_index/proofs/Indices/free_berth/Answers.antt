use Rattle.std.proofs.Common.{ℕ, nat_lt, ap, ◌∙◌}
use Rattle.std.specs.Bool.{then_some}
use Rattle.thread_index.proofs.Berths.{free_berth-within}
use Rattle.thread_index.proofs.Wholes.{free_berth-shown}
use Rattle.thread_index.proofs.Indices.free_berth.Goals as goal

pub returns-clause-berth : goal.returns-clause-berth
returns-clause-berth c =
    let berth = c.lowest_free-berth.result in
    c.then_some.ensures
    ∙ ap (λ (n : ℕ). then_some (nat_lt berth n) berth) c.from.ensures
    ∙ free_berth-shown _ _ _ berth _ _ c.self.invariant c.self.view_is c.lowest_free-berth.ensures.free c.lowest_free-berth.ensures.lowest

pub returns-clause-within : goal.returns-clause-within
returns-clause-within c =
    let berth = c.lowest_free-berth.result in
    free_berth-within _ _
    (c.then_some.ensures
    ∙ ap (λ (n : ℕ). then_some (nat_lt berth n) berth) c.from.ensures
    ∙ free_berth-shown _ _ _ berth _ _ c.self.invariant c.self.view_is c.lowest_free-berth.ensures.free c.lowest_free-berth.ensures.lowest)
