use native.Mathlib.Omega.{arith}
use Rattle.std.proofs.Common.{◌≡◌, ◌≤◌, ℕ, ◌+◌, ◌-◌, Some, length, refl, subst}
use Rattle.explore.specs.States.{after}
use Rattle.explore.specs.Found.{witnesses, witness_at}
use Rattle.explore.specs.Searches.{behind}
use Rattle.explore.proofs.Trying.{played_more, taken, not_taken, tried_none, tried_some, at_stays}
use Rattle.explore.proofs.Finding.{are_states, within_search}
use Rattle.explore.proofs.search.Search.try_choice.Goals as goal

pub add-requires-clause-leads : goal.add-requires-clause-leads
add-requires-clause-leads c =
    let e : after c.args.program.now c.args.state c.args.choice ≡ Some c.make.new.self =
    taken c.in_ok-make.field-0 _ c.make.new.self c.make.new.self c.in_ok-make.ensures.made c.if-not-branch.false refl in
    played_more c.args.program.now (witness_at (witnesses c.args.self.now.nodes.items) c.args.at) c.args.choice c.args.state _ c.requires.here e

pub returns-then-not-branch-clause-tried : goal.returns-then-not-branch-clause-tried
returns-then-not-branch-clause-tried c =
    tried_none c.args.program.now _ _ c.args.state c.args.choice (not_taken c.in_ok-make.field-0 _ c.make.new.self c.in_ok-make.ensures.made c.if-not-branch.true)

pub returns-clause-tried : goal.returns-clause-tried
returns-clause-tried c =
    let e : after c.args.program.now c.args.state c.args.choice ≡ Some c.make.new.self =
    taken c.in_ok-make.field-0 _ c.make.new.self c.make.new.self c.in_ok-make.ensures.made c.if-not-branch.false refl in
    let old = witnesses c.args.self.now.nodes.items in
    let new = witnesses c.add.new.self.nodes.items in
    let lt = within_search c.args.program.now c.args.self.now.codes.keys old c.args.self.now.queue.items c.args.at c.requires.search in
    let more = c.in_ok-number.ensures.stays.more in
    let one : c.args.at + 1 - 1 ≡ c.args.at = omega arith in
    let near = subst (λ (j : ℕ). length (witness_at new c.in_ok-number.number) ≤ length (witness_at new j) + 1) one
    (c.in_ok-number.ensures.search.near c.in_ok-number.number c.in_ok-number.ensures.found.0) in
    tried_some c.args.program.now new (behind new c.args.at) c.args.state c.make.new.self c.args.choice c.args.at c.in_ok-number.number _
    (are_states c.args.program.now c.add.new.self.codes.keys new c.add.new.self.queue.items _ c.in_ok-number.ensures.search)
    e (omega (arith, lt, more), at_stays c.args.program.now old new c.args.at c.args.state c.in_ok-number.ensures.stays lt c.requires.here)
    c.in_ok-number.ensures.found near c.tried_from.ensures
