use Rattle.std.proofs.Common.{◌≡◌, ◌++◌, ℕ, Some, None, cond, ap, sym, ◌∙◌, length, arith}
use Rattle.std.specs.Prelude.{[], ◌∷◌}
use Rattle.std.specs.BTreeMap.{is_at}
use Rattle.std.specs.Ordering.{nat_cmp}
use Rattle.std.specs.FinMap as map
use Rattle.jls_check.specs.declared.slots.Slot.{Slot}
use Rattle.jls_check.specs.Slots.{records_in}
use Rattle.jls_check.proofs.Kept.{none_owned}
use Rattle.jls_check.proofs.Positions.{position_in, no_live, no_position, leads-added, haves-added, records-added}
use Rattle.jls_check.proofs.threads.Threads.add.Goals as goal

pushed : (c : goal.After-give_back) → c.push.new.self.items ≡ c.self.inside.slots.items ++ record { number = c.args.thread.0; kept = record { live = c.args.live; owned = 0 } } ∷ []
pushed c =
    let room = c.in-Ok.ensures.ok in
    let ok = c.push.ensures.succeeds (omega arith) in
    rw (ok, c.in-Ok.ensures.items) at c.push.ensures.items

led : (c : goal.After-give_back) → (q : ℕ) → position_in c.insert.new.self.entries q ≡ cond (is_at (nat_cmp c.args.thread.0) q) (Some (length c.self.inside.slots.items)) (position_in c.self.inside.positions.entries q)
led c q =
    let long = c.self.inside.slots.ok in
    let at : c.len-position.result ≡ length c.self.inside.slots.items = c.len-position.ensures ∙ long.0 in
    c.in-Ok-insert.ensures.updates.0 q
    ∙ ap (λ (n : ℕ). cond (is_at (nat_cmp c.args.thread.0) q) (Some n) (position_in c.self.inside.positions.entries q)) at

fresh : (c : goal.After-give_back) → position_in c.self.inside.positions.entries c.args.thread.0 ≡ None
fresh c = no_position c.self.inside.slots.items c.self.inside.positions.entries c.args.thread.0 (no_live (map.get (records_in c.self.inside.slots.items c.self.inside.positions.entries) c.args.thread.0) (rw (← c.self.view_is) at c.requires))

pub invariant_of-self-2 : goal.invariant_of-self-2
invariant_of-self-2 c =
    let slots = c.self.inside.slots.items in
    let positions = c.self.inside.positions.entries in
    let new : Slot = record { number = c.args.thread.0; kept = record { live = c.args.live; owned = 0 } } in
    rw (c.give_back.ensures, pushed c) (
      leads-added slots positions c.insert.new.self.entries new c.self.invariant.0 c.self.invariant.1 (fresh c) (led c),
      haves-added slots positions c.insert.new.self.entries new c.self.invariant.0 c.self.invariant.1 (fresh c) (led c),
    )

pub returns-clause-ok : goal.returns-clause-ok
returns-clause-ok c =
    let slots = c.self.inside.slots.items in
    let positions = c.self.inside.positions.entries in
    let new : Slot = record { number = c.args.thread.0; kept = record { live = c.args.live; owned = 0 } } in
    let none = none_owned (records_in slots positions) c.args.thread (rw (← c.self.view_is) at c.requires) in
    rw (c.give_back.ensures, pushed c, ← c.self.view_is) (records-added slots positions c.insert.new.self.entries new c.self.invariant.0 c.self.invariant.1 (fresh c) (led c)
    ∙ ap (λ (n : ℕ). map.insert (records_in slots positions) c.args.thread.0 (record { live = c.args.live; owned = n })) (sym none))
