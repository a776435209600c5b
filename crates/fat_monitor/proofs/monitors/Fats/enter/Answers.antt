use Rattle.std.proofs.Common.{◌+◌, ◌<◌, ◌∙◌, Some, None, IsSome, Ok, subst, sym, ap, refl, arith}
use Rattle.std.proofs.lemmas.Option.{same_Some}
use Rattle.lock_word.specs.declared.ThreadId.{ThreadId}
use Rattle.fat_monitor.specs.declared.monitors.Monitor.{Monitor}
use Rattle.std.proofs.lemmas.Bool.{lt-ltb, eq-eqb, ne_eqb}
use Rattle.wait_lines.specs.declared.Role.TheVariants.{Entry}
use Rattle.fat_monitor.specs.declared.actions.Action.TheVariants.{Enter}
use Rattle.fat_monitor.specs.declared.actions.Post.TheVariants.{Entering}
use Rattle.fat_monitor.specs.FatState.{FatState, IsSound, post_of}
use Rattle.fat_monitor.specs.Fats.{fat_state_in}
use Rattle.fat_monitor.proofs.Soundness.{stands_nowhere, room_to_join}
use Rattle.fat_monitor.proofs.Steps.{written, after_parking_as, replies_at, answers_at, sound_after}
use Rattle.std.specs.FinMap as map
use Rattle.fat_monitor.specs.Slots.{Posted}
use Rattle.fat_monitor.specs.Fats.{AreNodesKept, AreCounted}
use Rattle.wait_lines.specs.Lines.{NodeMap}
use Rattle.fat_monitor.proofs.NodesKept.{AreNodesKept-joined}
use Rattle.fat_monitor.proofs.OwnedCounts.{AreCounted-kept, counted_as, few_owned}
use Rattle.fat_monitor.proofs.monitors.Fats.enter.Goals as goal

pub returns-in_default : goal.returns-in_default
returns-in_default c =
    let bound = rw (← c.self.view_is) at c.requires.bound in
    let after = written (fat_state_in c.self.inside) c.args.monitor c.index_mut.result.now c.give.new.self (Some c.args.thread) 1 bound c.index_mut.ensures.value c.give.ensures in
    rw (← c.in_default.ensures, ← c.self.view_is, c.hand_over.ensures) (replies_at c.reply_with.result _ _ _ c.reply_with.ensures after)

pub invariant_of-self : goal.invariant_of-self
invariant_of-self c =
    record {
      sound =
          sound_after c.args.self.now _ c.args.thread (Enter c.args.monitor) (Ok c.reply_with.result)
          (subst (λ (f : FatState). IsSound f) c.self.view_is c.self.invariant.sound) c.requires.out c.requires.bound (returns-in_default c);
      nodes_kept = subst (λ (p : Posted). AreNodesKept p.posts p.nodes c.self.inside.lines.nodes) (sym c.hand_over.ensures) c.self.invariant.nodes_kept;
      counted =
          counted_as c.self.inside.monitors.items c.self.inside.posts.owned c.hand_over.new.self.owned c.args.monitor c.give.new.self None (Some c.args.thread) c.self.invariant.counted
          (rw (← c.self.view_is) at c.requires.bound) (sym (rw (← c.self.view_is) at c.in_default.ensures)) (ap (λ (b : Monitor). b.owner) c.give.ensures) (ap (λ (p : Posted). p.owned) c.hand_over.ensures);
      reserved = c.self.invariant.reserved;
    }

pub hand_over-requires-clause-attached : goal.hand_over-requires-clause-attached
hand_over-requires-clause-attached c t e =
    let out = rw (← c.self.view_is) at c.requires.out in
    subst (λ (u : ThreadId). IsSome (post_of (fat_state_in c.self.inside) u)) (same_Some c.args.thread t e) (rw (out) refl)

pub hand_over-requires-clause-few : goal.hand_over-requires-clause-few
hand_over-requires-clause-few c t e = few_owned (fat_state_in c.self.inside) c.self.inside.posts.owned t c.self.invariant.sound c.self.invariant.counted

pub join-node-requires-clause-nowhere : goal.join-node-requires-clause-nowhere
join-node-requires-clause-nowhere c = stands_nowhere (fat_state_in c.self.inside) c.args.thread c.self.invariant.sound (rw (← c.self.view_is) at c.requires.out)

pub join-node-requires-clause-room : goal.join-node-requires-clause-room
join-node-requires-clause-room c = room_to_join (fat_state_in c.self.inside) c.args.thread c.self.invariant.sound (rw (← c.self.view_is) at c.requires.out)

pub invariant_of-self-then-owner-thread : goal.invariant_of-self-then-owner-thread
invariant_of-self-then-owner-thread c =
    record {
      sound =
          let after = after_parking_as (fat_state_in c.self.inside) c.args.thread (Entering c.args.monitor) c.args.monitor Entry c.park.new.self c.join-node.new.self c.park.ensures c.join-node.ensures.joined c.join-node.ensures.reservations in
          sound_after c.args.self.now _ c.args.thread (Enter c.args.monitor) (Ok c.tell.result)
          (subst (λ (f : FatState). IsSound f) c.self.view_is c.self.invariant.sound) c.requires.out c.requires.bound
          (rw (← c.in-Some.ensures, ne_eqb c.in-Some.owner.0 c.args.thread.0 c.if-owner-thread.true, ← c.self.view_is)
          (answers_at c.tell.result _ _ _ _ _ c.tell.ensures after));
      nodes_kept = subst (λ (m : NodeMap). AreNodesKept c.park.new.self.posts c.park.new.self.nodes m) (sym c.join-node.ensures.node)
          (subst (λ (p : Posted). AreNodesKept p.posts p.nodes (map.insert c.self.inside.lines.nodes c.args.thread.0 c.join-node.result.0)) (sym c.park.ensures) (AreNodesKept-joined _ _ _ c.self.invariant.nodes_kept c.args.thread (Entering c.args.monitor) c.join-node.result.0));
      counted = subst (λ (p : Posted). AreCounted c.self.inside.monitors.items p.owned) (sym c.park.ensures) c.self.invariant.counted;
      reserved = c.self.invariant.reserved;
    }

pub returns-then-holds : goal.returns-then-holds
returns-then-holds c =
    rw (← c.in-Some.ensures, eq-eqb c.in-Some.owner.0 c.args.thread.0 c.if-owner-thread.false, ← c.holds-holds.ensures, c.if-holds.true)
    (c.reply_with-then-holds.ensures _)

pub returns : goal.returns
returns c =
    let bound = rw (← c.self.view_is) at c.requires.bound in
    let after = written (fat_state_in c.self.inside) c.args.monitor c.index_mut-2.result.now c.give-2.new.self (Some c.in-Some.owner) (c.holds-holds.result + 1) bound c.index_mut-2.ensures.value c.give-2.ensures in
    let fits : c.holds-holds.result < 65536 = c.holds-holds.type_inv in
    let below : c.holds-holds.result < 65535 = let no = c.if-holds.false in omega arith in
    rw (← c.in-Some.ensures, eq-eqb c.in-Some.owner.0 c.args.thread.0 c.if-owner-thread.false, ← c.holds-holds.ensures, lt-ltb c.holds-holds.result 65535 below, ← c.self.view_is)
    (replies_at c.reply_with-2.result _ _ _ c.reply_with-2.ensures after)

pub invariant_of-self-2 : goal.invariant_of-self-2
invariant_of-self-2 c =
    record {
      sound =
          sound_after c.args.self.now _ c.args.thread (Enter c.args.monitor) (Ok c.reply_with-2.result)
          (subst (λ (f : FatState). IsSound f) c.self.view_is c.self.invariant.sound) c.requires.out c.requires.bound (returns c);
      nodes_kept = c.self.invariant.nodes_kept;
      counted =
          AreCounted-kept c.self.inside.monitors.items c.self.inside.posts.owned c.args.monitor c.give-2.new.self c.self.invariant.counted (rw (← c.self.view_is) at c.requires.bound)
          (ap (λ (b : Monitor). b.owner) c.give-2.ensures ∙ (rw (← c.self.view_is) at c.in-Some.ensures));
      reserved = c.self.invariant.reserved;
    }
