use Rattle.std.proofs.Common.{◌≡◌, ◌≤◌, ◌∙◌, sym, ap, Some, IsSome, arith, refl, subst}
use Rattle.wait_lines.specs.Lines.{LineMap, StandsIn, StandsNowhere, standing, total_count, after_leave}
use Rattle.wait_lines.specs.declared.Role.TheVariants.{Waiting as WaitSet}
use Rattle.wait_lines.proofs.LineLemmas.{total_count-after_leave, StandsNowhere-after_leave}
use Rattle.fat_monitor.specs.declared.actions.Post.TheVariants.{Waiting}
use Rattle.fat_monitor.specs.FatState.{FatState, IsSound, post_of, monitor_at}
use Rattle.fat_monitor.specs.Fats.{fat_state_in}
use Rattle.fat_monitor.proofs.Soundness.{IsSound-after_removal}
use Rattle.fat_monitor.proofs.Steps.{queued_as}
use Rattle.fat_monitor.proofs.WaitSets.{after_removal-behind}
use Rattle.fat_monitor.specs.Slots.{Posted}
use Rattle.fat_monitor.specs.Fats.{AreNodesKept, AreCounted}
use Rattle.std.specs.FinMap as map
use Rattle.wait_lines.specs.Lines.{NodeMap}
use Rattle.fat_monitor.proofs.NodesKept.{AreNodesKept-moved, stands_at}
use Rattle.fat_monitor.proofs.monitors.Fats.call_back.Goals as goal

pub grant-requires-clause-bound : goal.grant-requires-clause-bound
grant-requires-clause-bound c =
    let m = c.in-Some-Waiting.monitor in
    let waits : post_of (fat_state_in c.self.inside) c.args.thread ≡ Some (Waiting m c.in-Some-Waiting.holds c.in-Some-Waiting.field-0-2) = rw (c.in-Some-Waiting.field-0-is) at (sym c.in-Some-Waiting.ensures) in
    rw (← c.self.view_is) (c.self.invariant.sound.proper c.args.thread _ waits).0

pub grant-requires-clause-comes : goal.grant-requires-clause-comes
grant-requires-clause-comes c =
    let m = c.in-Some-Waiting.monitor in
    let waits : post_of (fat_state_in c.self.inside) c.args.thread ≡ Some (Waiting m c.in-Some-Waiting.holds c.in-Some-Waiting.field-0-2) = rw (c.in-Some-Waiting.field-0-is) at (sym c.in-Some-Waiting.ensures) in
    (c.self.invariant.sound.proper c.args.thread _ waits).1

pub join-node-requires-clause-room : goal.join-node-requires-clause-room
join-node-requires-clause-room c =
    let s = standing c.self.inside.lines in
    let m = c.in-Some-Waiting.monitor in
    let waits : post_of (fat_state_in c.self.inside) c.args.thread ≡ Some (Waiting m c.in-Some-Waiting.holds c.in-Some-Waiting.field-0-2) = rw (c.in-Some-Waiting.field-0-is) at (sym c.in-Some-Waiting.ensures) in
    let stands : StandsIn s.lines c.args.thread m WaitSet = c.self.invariant.sound.posted c.args.thread _ m WaitSet waits refl in
    let here = stands_at _ _ _ c.self.invariant.nodes_kept c.args.thread _ c.node.result.0 waits refl c.node.ensures in
    let now : total_count c.leave_at.new.self.lines ≡ total_count (after_leave s.lines c.args.thread m WaitSet) = ap total_count (c.leave_at.ensures.left c.args.thread m WaitSet here stands) in
    let fewer = total_count-after_leave s c.args.thread m WaitSet c.self.invariant.sound.orderly stands in
    let within : total_count s.lines ≤ s.reservations = c.self.invariant.sound.orderly.within in
    let kept = c.leave_at.ensures.reservations in
    omega arith

pub returns-clause-after : goal.returns-clause-after
returns-clause-after c =
    let f = fat_state_in c.self.inside in
    let m = c.in-Some-Waiting.monitor in
    let waits : post_of f c.args.thread ≡ Some (Waiting m c.in-Some-Waiting.holds c.in-Some-Waiting.field-0-2) = rw (c.in-Some-Waiting.field-0-is) at (sym c.in-Some-Waiting.ensures) in
    let stands : StandsIn f.standing.lines c.args.thread m WaitSet = c.self.invariant.sound.posted c.args.thread _ m WaitSet waits refl in
    let here = stands_at _ _ _ c.self.invariant.nodes_kept c.args.thread _ c.node.result.0 waits refl c.node.ensures in
    let some : IsSome c.owner.result = c.if-is_none.ensures in
    let owned : IsSome (monitor_at f m).owner = rw (c.owner.ensures, ← c.self.view_is) at some in
    rw (← c.self.view_is) (
    queued_as f c.args.thread c.args.why m c.in-Some-Waiting.holds c.in-Some-Waiting.field-0-2 c.park.new.self c.leave_at.new.self c.join-node.new.self c.park.ensures
    (c.leave_at.ensures.left c.args.thread m WaitSet here stands) c.leave_at.ensures.reservations c.join-node.ensures.joined c.join-node.ensures.reservations
    ∙ sym (after_removal-behind f c.args.thread c.args.why m c.in-Some-Waiting.holds c.in-Some-Waiting.field-0-2 waits owned))

pub invariant_of-self : goal.invariant_of-self
invariant_of-self c =
    record {
      sound =
          rw (returns-clause-after c) (IsSound-after_removal c.args.self.now c.args.thread c.args.why (subst (λ (f : FatState). IsSound f) c.self.view_is c.self.invariant.sound));
      nodes_kept =
          let m = c.in-Some-Waiting.monitor in
          let waits : post_of (fat_state_in c.self.inside) c.args.thread ≡ Some (Waiting m c.in-Some-Waiting.holds c.in-Some-Waiting.field-0-2) = rw (c.in-Some-Waiting.field-0-is) at (sym c.in-Some-Waiting.ensures) in
          let here = stands_at _ _ _ c.self.invariant.nodes_kept c.args.thread _ c.node.result.0 waits refl c.node.ensures in
          subst (λ (m : NodeMap). AreNodesKept c.park.new.self.posts c.park.new.self.nodes m)
          (sym (c.join-node.ensures.node ∙ ap (λ (m : NodeMap). map.insert m c.args.thread.0 c.join-node.result.0) (c.leave_at.ensures.nodes c.args.thread here)))
          (subst (λ (p : Posted). AreNodesKept p.posts p.nodes (map.insert (map.remove c.self.inside.lines.nodes c.args.thread.0) c.args.thread.0 c.join-node.result.0)) (sym c.park.ensures) (AreNodesKept-moved _ _ _ c.self.invariant.nodes_kept c.args.thread _ c.join-node.result.0));
      counted = subst (λ (p : Posted). AreCounted c.self.inside.monitors.items p.owned) (sym c.park.ensures) c.self.invariant.counted;
      reserved = c.self.invariant.reserved;
    }

pub leave_at-requires : goal.leave_at-requires
leave_at-requires c =
    let m = c.in-Some-Waiting.monitor in
    let waits : post_of (fat_state_in c.self.inside) c.args.thread ≡ Some (Waiting m c.in-Some-Waiting.holds c.in-Some-Waiting.field-0-2) = rw (c.in-Some-Waiting.field-0-is) at (sym c.in-Some-Waiting.ensures) in
    record { stands = (c.args.thread, stands_at _ _ _ c.self.invariant.nodes_kept c.args.thread _ c.node.result.0 waits refl c.node.ensures) }

pub join-node-requires-clause-nowhere : goal.join-node-requires-clause-nowhere
join-node-requires-clause-nowhere c =
    let m = c.in-Some-Waiting.monitor in
    let waits : post_of (fat_state_in c.self.inside) c.args.thread ≡ Some (Waiting m c.in-Some-Waiting.holds c.in-Some-Waiting.field-0-2) = rw (c.in-Some-Waiting.field-0-is) at (sym c.in-Some-Waiting.ensures) in
    let here = stands_at _ _ _ c.self.invariant.nodes_kept c.args.thread _ c.node.result.0 waits refl c.node.ensures in
    let stands = c.self.invariant.sound.posted c.args.thread _ m WaitSet waits refl in
    subst (λ (l : LineMap). StandsNowhere l c.args.thread) (sym (c.leave_at.ensures.left c.args.thread m WaitSet here stands))
    (StandsNowhere-after_leave (standing c.self.inside.lines) c.args.thread m WaitSet c.self.invariant.sound.orderly stands)
