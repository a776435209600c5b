use Rattle.std.proofs.Common.{w32, w64, ◌≡◌, ◌∙◌, sym, ap, Some, None, Ok, Option, subst, refl, true, false}
use Rattle.std.proofs.lemmas.Int.{to_z-of_z}
use Rattle.lock_word.specs.declared.ThreadId.{ThreadId}
use Rattle.wait_lines.specs.declared.Role.TheVariants.{Entry, Waiting as WaitSet}
use Rattle.fat_monitor.specs.declared.actions.Action.TheVariants.{Wait}
use Rattle.fat_monitor.specs.declared.actions.Answer.TheVariants.{Parked}
use Rattle.fat_monitor.specs.declared.actions.Done.{Done}
use Rattle.fat_monitor.specs.declared.actions.Reply.TheVariants.{Interrupted}
use Rattle.fat_monitor.specs.declared.actions.Post.{Post}
use Rattle.fat_monitor.specs.declared.actions.Post.TheVariants.{Out, Waiting}
use Rattle.fat_monitor.specs.FatState.{FatState, IsSound, post_of, monitor_at, first_of, flag_at}
use Rattle.fat_monitor.specs.Acting.{are_good, deadline, after_hand_on, after_parking}
use Rattle.fat_monitor.specs.Fats.{fat_state_in}
use Rattle.fat_monitor.proofs.SoundSteps.{IsSound-flags}
use Rattle.fat_monitor.proofs.Soundness.{stands_nowhere, room_to_join, out-after_hand_on}
use Rattle.fat_monitor.proofs.Steps.{monitor_read, after_parking_as, flagged_as, replies_at, answers_at, sound_after}
use Rattle.std.specs.FinMap as map
use Rattle.fat_monitor.specs.Slots.{Posted}
use Rattle.fat_monitor.specs.Fats.{AreNodesKept, AreCounted}
use Rattle.wait_lines.specs.Lines.{NodeMap}
use Rattle.fat_monitor.proofs.NodesKept.{AreNodesKept-joined}
use Rattle.fat_monitor.proofs.monitors.Fats.wait.Goals as goal

pub returns-then-not-is_owner : goal.returns-then-not-is_owner
returns-then-not-is_owner c = rw (← c.if-not-is_owner.ensures) (c.reply_with.ensures _)

pub returns-then-not-are_good : goal.returns-then-not-are_good
returns-then-not-are_good c =
    let bad = simp (to_z-of_z w64 c.args.millis c.ranges.millis, to_z-of_z w32 c.args.nanos c.ranges.nanos) at c.if-not-are_good.ensures in
    rw (← c.if-not-is_owner.ensures, ← bad) (c.reply_with-then-not-are_good.ensures _)

pub invariant_of-self : goal.invariant_of-self
invariant_of-self c =
    record {
      sound =
          let f = fat_state_in c.self.inside in
          rw (flagged_as f c.args.thread false c.set_flag.new.self c.set_flag.ensures) (IsSound-flags f _ c.self.invariant.sound);
      nodes_kept = subst (λ (p : Posted). AreNodesKept p.posts p.nodes c.self.inside.lines.nodes) (sym c.set_flag.ensures) c.self.invariant.nodes_kept;
      counted = subst (λ (p : Posted). AreCounted c.self.inside.monitors.items p.owned) (sym c.set_flag.ensures) c.self.invariant.counted;
      reserved = c.self.invariant.reserved;
    }

pub returns-then-flag : goal.returns-then-flag
returns-then-flag c =
    let good : true ≡ are_good c.args.millis c.args.nanos =
    simp (to_z-of_z w64 c.args.millis c.ranges.millis, to_z-of_z w32 c.args.nanos c.ranges.nanos) at c.if-not-are_good.ensures in
    let flagged : true ≡ flag_at c.args.self.now c.args.thread = rw (← c.self.view_is) (sym c.if-flag.true ∙ c.flag.ensures) in
    let after = flagged_as (fat_state_in c.self.inside) c.args.thread false c.set_flag.new.self c.set_flag.ensures in
    rw (← c.if-not-is_owner.ensures, ← good, ← flagged, ← c.self.view_is) (replies_at c.reply_with-then-flag.result Interrupted _ _ c.reply_with-then-flag.ensures after)

pub park-requires : goal.park-requires
park-requires c =
    let sound = subst (λ (f : FatState). IsSound f) c.self.view_is c.self.invariant.sound in
    let after = c.self-2.view_is ∙ c.hand_on-granted.ensures.after in
    let out : post_of (fat_state_in c.self-2.inside) c.args.thread ≡ Some Out =
    subst (λ (f : FatState). post_of f c.args.thread ≡ Some Out) (sym after) (out-after_hand_on c.args.self.now c.args.thread c.args.monitor sound c.requires.out) in
    rw (out) refl

pub join-node-requires-clause-nowhere : goal.join-node-requires-clause-nowhere
join-node-requires-clause-nowhere c =
    let sound = subst (λ (f : FatState). IsSound f) c.self.view_is c.self.invariant.sound in
    let after = c.self-2.view_is ∙ c.hand_on-granted.ensures.after in
    let out : post_of (fat_state_in c.self-2.inside) c.args.thread ≡ Some Out =
    subst (λ (f : FatState). post_of f c.args.thread ≡ Some Out) (sym after) (out-after_hand_on c.args.self.now c.args.thread c.args.monitor sound c.requires.out) in
    stands_nowhere (fat_state_in c.self-2.inside) c.args.thread c.self-2.invariant.sound out

pub join-node-requires-clause-room : goal.join-node-requires-clause-room
join-node-requires-clause-room c =
    let sound = subst (λ (f : FatState). IsSound f) c.self.view_is c.self.invariant.sound in
    let after = c.self-2.view_is ∙ c.hand_on-granted.ensures.after in
    let out : post_of (fat_state_in c.self-2.inside) c.args.thread ≡ Some Out =
    subst (λ (f : FatState). post_of f c.args.thread ≡ Some Out) (sym after) (out-after_hand_on c.args.self.now c.args.thread c.args.monitor sound c.requires.out) in
    room_to_join (fat_state_in c.self-2.inside) c.args.thread c.self-2.invariant.sound out

pub returns : goal.returns
returns c =
    let f = c.args.self.now in
    let t = c.args.thread in
    let m = c.args.monitor in
    let first = first_of f m Entry in
    let bound = rw (← c.self.view_is) at c.requires.bound in
    let read : monitor_at f m ≡ c.index.result.now = rw (← c.self.view_is) (monitor_read (fat_state_in c.self.inside) m c.index.result.now bound c.index.ensures) in
    let time : c.deadline.result ≡ deadline f.moment c.args.millis c.args.nanos =
    rw (← c.self.view_is) (simp (to_z-of_z w64 c.args.millis c.ranges.millis, to_z-of_z w32 c.args.nanos c.ranges.nanos) at c.deadline.ensures) in
    let clear : false ≡ flag_at f t = rw (← c.self.view_is) (sym c.if-flag.false ∙ c.flag.ensures) in
    let good : true ≡ are_good c.args.millis c.args.nanos =
    simp (to_z-of_z w64 c.args.millis c.ranges.millis, to_z-of_z w32 c.args.nanos c.ranges.nanos) at c.if-not-are_good.ensures in
    let post : Waiting m c.index.result.now.holds c.deadline.result ≡ Waiting m (monitor_at f m).holds (deadline f.moment c.args.millis c.args.nanos) = rw (read, time) refl in
    let parks = after_parking_as (fat_state_in c.self-2.inside) t (Waiting m c.index.result.now.holds c.deadline.result) m WaitSet c.park.new.self c.join-node.new.self c.park.ensures c.join-node.ensures.joined c.join-node.ensures.reservations in
    let handed = c.self-2.view_is ∙ c.hand_on-granted.ensures.after in
    let after = parks ∙ ap (λ (g : FatState). after_parking g t (Waiting m c.index.result.now.holds c.deadline.result) m WaitSet) handed ∙ ap (λ (p : Post). after_parking (after_hand_on f m first) t p m WaitSet) post in
    let told : c.tell.result ≡ record { answer = Parked; granted = first; chosen = None } =
    c.tell.ensures ∙ ap (λ (u : Option ThreadId). let d : Done = record { answer = Parked; granted = u; chosen = None } in d) c.hand_on-granted.ensures.granted in
    rw (← c.if-not-is_owner.ensures, ← good, ← clear) (answers_at c.tell.result Parked first None _ _ told after)

pub invariant_of-self-2 : goal.invariant_of-self-2
invariant_of-self-2 c =
    record {
      sound =
          sound_after c.args.self.now _ c.args.thread (Wait c.args.monitor c.args.millis c.args.nanos) (Ok c.tell.result)
          (subst (λ (f : FatState). IsSound f) c.self.view_is c.self.invariant.sound) c.requires.out c.requires.bound (returns c);
      nodes_kept = subst (λ (m : NodeMap). AreNodesKept c.park.new.self.posts c.park.new.self.nodes m) (sym c.join-node.ensures.node)
          (subst (λ (p : Posted). AreNodesKept p.posts p.nodes (map.insert c.self-2.inside.lines.nodes c.args.thread.0 c.join-node.result.0)) (sym c.park.ensures) (AreNodesKept-joined _ _ _ c.self-2.invariant.nodes_kept c.args.thread _ c.join-node.result.0));
      counted = subst (λ (p : Posted). AreCounted c.self-2.inside.monitors.items p.owned) (sym c.park.ensures) c.self-2.invariant.counted;
      reserved = c.self-2.invariant.reserved;
    }
