use Rattle.std.proofs.Common.{◌≡◌, ◌∙◌, sym, ap, ℕ, refl, subst, Some, IsSome, Bool, false}
use Rattle.std.specs.Ordering.{nat_cmp}
use Rattle.fat_monitor.specs.declared.monitors.Fats.TheInside.{Inside}
use Rattle.std.proofs.lemmas.Option.{same_Some}
use Rattle.lock_word.specs.declared.ThreadId.{ThreadId}
use Rattle.fat_monitor.specs.declared.monitors.Monitor.{Monitor}
use Rattle.std.specs.Vec.{with_item}
use Rattle.fat_monitor.specs.declared.actions.Reply.{Reply}
use Rattle.fat_monitor.specs.FatState.{FatState, IsSound, post_of}
use Rattle.fat_monitor.specs.Acting.{reply_granted}
use Rattle.fat_monitor.specs.Fats.{fat_state_in}
use Rattle.fat_monitor.proofs.SoundSteps.{line_key_bound}
use Rattle.fat_monitor.proofs.SoundGrants.{flags_after_grant, IsSound-after_grant}
use Rattle.fat_monitor.proofs.Steps.{has_line_key, flags_cleared, flags_kept, after_grant_as}
use Rattle.fat_monitor.specs.Slots.{Posted, handed_over}
use Rattle.fat_monitor.specs.Fats.{AreNodesKept}
use Rattle.std.specs.FinMap as map
use Rattle.fat_monitor.specs.declared.actions.Post.TheVariants.{Granted}
use Rattle.wait_lines.specs.Lines.{NodeMap}
use Rattle.fat_monitor.proofs.NodesKept.{AreNodesKept-left, stands_at, line_key_stands}
use Rattle.fat_monitor.proofs.OwnedCounts.{counted_as, one_owned, few_owned}
use Rattle.fat_monitor.proofs.monitors.Fats.grant.Goals.{in-Interrupted, in_default}
use Rattle.fat_monitor.proofs.monitors.Fats.grant.Goals as goal

-- the posts with the flag that the grant leaves, and the monitor counted
abbrev posts_with : (c : goal.After-set) → Posted
posts_with c = record c.self.inside.posts {
  flags = flags_after_grant (fat_state_in c.self.inside) c.args.thread c.args.post;
  owned = handed_over c.self.inside.posts.owned c.owner-owner.result (Some c.args.thread);
}

-- what stands beside these posts then
abbrev with_posts : (c : goal.After-set) → Posted → Inside
with_posts c posts = record c.self.inside { monitors = with_item c.self.inside.monitors c.args.monitor c.give.new.self; posts = posts; lines = c.leave_at.new.self }

abbrev with_flags : (c : goal.After-set) → map.FinMap nat_cmp Bool → Posted
with_flags c flags = record (posts_with c) { flags = flags }

-- the flag was cleared where an interrupt ended the wait
settled : (c : goal.After-set) → c.match-reply.self-inside ≡ with_posts c (posts_with c)
settled c =
    let f = fat_state_in c.self.inside in
    let told : c.granted_to-holds.result.1 ≡ reply_granted c.args.post = ap (λ (g : ℕ × Reply). g.1) c.granted_to-holds.ensures in
    elim c.match-reply.branch [
      | in-Interrupted w ↦ w.self-inside-is ∙ ap (with_posts c) (
          w.set_flag.ensures ∙ ap (λ (p : Posted). record p { flags = map.insert p.flags c.args.thread.0 false }) c.hand_over.ensures
          ∙ ap (with_flags c) (sym (flags_cleared f c.args.thread c.args.post (sym told ∙ w.in-Interrupted.is))))
      | in_default w ↦ w.self-inside-is ∙ ap (with_posts c) (
          c.hand_over.ensures ∙ ap (with_flags c) (sym (flags_kept f c.args.thread c.args.post (λ e. w.in_default.not-Interrupted (told ∙ e)))))
    ]

pub returns : goal.returns
returns c r in_line =
    let f = fat_state_in c.self.inside in
    let m = c.args.monitor in
    let here = rw (← c.self.view_is) at in_line in
    let post = has_line_key f c.args.thread _ here in
    let bound = line_key_bound f post.0 m r (c.self.invariant.sound.proper c.args.thread post.0 post.1) post.2 in
    let stands = c.self.invariant.sound.posted c.args.thread post.0 m r post.1 post.2 in
    let set = rw (settled c) at c.set.ensures in
    let at_node = stands_at _ _ _ c.self.invariant.nodes_kept c.args.thread post.0 c.node.result.0 post.1 (line_key_stands post.0 m r post.2) c.node.ensures in
    let lines = c.leave_at.ensures.left in
    let kept = c.leave_at.ensures.reservations in
    rw (← c.self.view_is, settled c) (
    after_grant_as f m c.args.thread c.args.post r c.index_mut.result.now c.give.new.self c.granted_to-holds.result
    (posts_with c) c.set.new.self c.leave_at.new.self
    bound c.index_mut.ensures.value c.give.ensures c.granted_to-holds.ensures refl set (lines c.args.thread m r at_node stands) kept)

pub invariant_of-self : goal.invariant_of-self
invariant_of-self c =
    record {
      sound =
          let f = c.args.self.now in
          let post = has_line_key f c.args.thread _ c.requires.stands.1 in
          let kept = IsSound-after_grant f c.args.monitor c.args.thread c.args.post post.0 c.requires.stands.0 (subst (λ (f : FatState). IsSound f) c.self.view_is c.self.invariant.sound) post.1 post.2 c.requires.comes in
          rw (returns c c.requires.stands.0 c.requires.stands.1) kept;
      nodes_kept =
          let post = has_line_key (fat_state_in c.self.inside) c.args.thread _ (rw (← c.self.view_is) at c.requires.stands.1) in
          let at_node = stands_at _ _ _ c.self.invariant.nodes_kept c.args.thread post.0 c.node.result.0 post.1 (line_key_stands post.0 c.args.monitor c.requires.stands.0 post.2) c.node.ensures in
          let set = rw (settled c) at c.set.ensures in
          rw (settled c) (subst (λ (m : NodeMap). AreNodesKept c.set.new.self.posts c.set.new.self.nodes m) (sym (c.leave_at.ensures.nodes c.args.thread at_node))
          (subst (λ (p : Posted). AreNodesKept p.posts p.nodes (map.remove c.self.inside.lines.nodes c.args.thread.0)) (sym set)
          (AreNodesKept-left _ _ _ c.self.invariant.nodes_kept c.args.thread (Granted c.granted_to-holds.result.1) refl)));
      counted =
          let post = has_line_key (fat_state_in c.self.inside) c.args.thread _ (rw (← c.self.view_is) at c.requires.stands.1) in
          let set = rw (settled c) at c.set.ensures in
          rw (settled c) (counted_as c.self.inside.monitors.items c.self.inside.posts.owned c.set.new.self.owned c.args.monitor c.give.new.self c.owner-owner.result (Some c.args.thread) c.self.invariant.counted
          (rw (← c.self.view_is) at c.requires.bound) (sym (rw (← c.self.view_is) at c.owner-owner.ensures)) (ap (λ (b : Monitor). b.owner) c.give.ensures) (ap (λ (p : Posted). p.owned) set));
      reserved = rw (settled c) c.self.invariant.reserved;
    }

pub hand_over-requires-clause-owned : goal.hand_over-requires-clause-owned
hand_over-requires-clause-owned c t e =
    one_owned c.self.inside.monitors.items c.self.inside.posts.owned c.args.monitor t c.self.invariant.counted (rw (← c.self.view_is) at c.requires.bound) (sym (rw (← c.self.view_is) at c.owner-owner.ensures) ∙ e)

pub hand_over-requires-clause-attached : goal.hand_over-requires-clause-attached
hand_over-requires-clause-attached c t e =
    let post = has_line_key (fat_state_in c.self.inside) c.args.thread _ (rw (← c.self.view_is) at c.requires.stands.1) in
    subst (λ (u : ThreadId). IsSome (post_of (fat_state_in c.self.inside) u)) (same_Some c.args.thread t e) (rw (post.1) refl)

pub hand_over-requires-clause-few : goal.hand_over-requires-clause-few
hand_over-requires-clause-few c t e = few_owned (fat_state_in c.self.inside) c.self.inside.posts.owned t c.self.invariant.sound c.self.invariant.counted

pub leave_at-requires : goal.leave_at-requires
leave_at-requires c =
    let post = has_line_key (fat_state_in c.self.inside) c.args.thread _ (rw (← c.self.view_is) at c.requires.stands.1) in
    record {
      stands = (c.args.thread, stands_at _ _ _ c.self.invariant.nodes_kept c.args.thread post.0 c.node.result.0 post.1 (line_key_stands post.0 c.args.monitor c.requires.stands.0 post.2) c.node.ensures);
    }
