use Rattle.std.proofs.Common.{rules, ◌≡◌, false, sym, subst}
use Rattle.live_turns.specs.Ways.{PassState, Belongs}
use Rattle.live_seats.proofs.Passes.{more_after}
use Rattle.live_seats.proofs.house.take_from.Goals.{in-Some, in_default}
use Rattle.live_seats.proofs.house.take_from.Goals as goal

pub loop-hook-preserved : goal.loop-hook-preserved
loop-hook-preserved g c = elim c.match-take.branch [
  | in-Some w ↦ record {
    more =
        let inv = c.loop-hook.invariant.more in
        let same = subst (λ z. z ≡ c.args.turns.now) (sym c.hook-item.is) (c.requires.same c.loop-hook.hook-index c.hook-item.result c.loop-hook-test.true) in
        let one = w.in-Some.ensures in
        more_after (λ (p : PassState). Belongs c.args.turns.now false p.holding) c.args.passes.now.items c.loop-hook.passes.items c.match-take.passes.items inv.0 w.in-Some.pass inv.1 (search rules) inv.2 (search rules);
    len = search rules;
    room = search rules;
  }
  | in_default w ↦ search rules
]
