use Rattle.std.proofs.Common.{ℕ, ◌+◌, arith, Some, ap, sym, ◌∙◌}
use Rattle.std.specs.Option.{option_map}
use Rattle.thread_index.specs.Indices.{given_back}
use Rattle.thread_index.proofs.Wholes.{looked_up, berth_of-low, given-shown, IsWhole-given}
use Rattle.thread_index.proofs.Indices.give.Goals as goal

pub returns-in_err-remove-clause-index : goal.returns-in_err-remove-clause-index
returns-in_err-remove-clause-index c =
    let none = looked_up _ _ _ c.args.id _ _ _ c.self.invariant c.self.view_is (sym c.in_err-remove.was ∙ c.remove.ensures.value) in
    c.from_residual.ensures ∙ ap (option_map (λ (k : ℕ). k + 1)) none

pub returns-in_err-remove-clause-given : goal.returns-in_err-remove-clause-given
returns-in_err-remove-clause-given c =
    let none = looked_up _ _ _ c.args.id _ _ _ c.self.invariant c.self.view_is (sym c.in_err-remove.was ∙ c.remove.ensures.value) in
    c.self.view_is ∙ ap (given_back c.args.self.now) none

pub index_mut-requires : goal.index_mut-requires
index_mut-requires c =
    let berth = ap (λ (k : ℕ). Some k) c.from-berth.ensures ∙ looked_up _ _ _ c.args.id _ _ _ c.self.invariant c.self.view_is c.in_ok-remove.ensures.value in
    omega (arith, (berth_of-low _ _ _ _ c.args.id _ _ c.self.invariant c.self.view_is (sym berth)).0)

pub give-requires : goal.give-requires
give-requires c =
    let berth = ap (λ (k : ℕ). Some k) c.from-berth.ensures ∙ looked_up _ _ _ c.args.id _ _ _ c.self.invariant c.self.view_is c.in_ok-remove.ensures.value in
    record { room = omega (arith, (berth_of-low _ _ _ _ c.args.id _ _ c.self.invariant c.self.view_is (sym berth)).2) }

pub overflow_add-result : goal.overflow_add-result
overflow_add-result c =
    let berth = ap (λ (k : ℕ). Some k) c.from-berth.ensures ∙ looked_up _ _ _ c.args.id _ _ _ c.self.invariant c.self.view_is c.in_ok-remove.ensures.value in
    omega (arith, (berth_of-low _ _ _ _ c.args.id _ _ c.self.invariant c.self.view_is (sym berth)).1)

pub invariant_of-self-2 : goal.invariant_of-self-2
invariant_of-self-2 c =
    let berth = ap (λ (k : ℕ). Some k) c.from-berth.ensures ∙ looked_up _ _ _ c.args.id _ _ _ c.self.invariant c.self.view_is c.in_ok-remove.ensures.value in
    IsWhole-given _ _ _ _ c.args.id _ _ c.self.inside.berths c.remove.new.self c.self.invariant c.self.view_is (sym berth)
    c.give.ensures.bits c.give.ensures.length c.remove.ensures.updates

pub returns-clause-given : goal.returns-clause-given
returns-clause-given c =
    let berth = ap (λ (k : ℕ). Some k) c.from-berth.ensures ∙ looked_up _ _ _ c.args.id _ _ _ c.self.invariant c.self.view_is c.in_ok-remove.ensures.value in
    (given-shown _ _ _ _ c.args.id _ _ c.self.invariant c.self.view_is (sym berth)).0

pub returns-clause-one_to_one : goal.returns-clause-one_to_one
returns-clause-one_to_one c =
    let berth = ap (λ (k : ℕ). Some k) c.from-berth.ensures ∙ looked_up _ _ _ c.args.id _ _ _ c.self.invariant c.self.view_is c.in_ok-remove.ensures.value in
    (given-shown _ _ _ _ c.args.id _ _ c.self.invariant c.self.view_is (sym berth)).1
