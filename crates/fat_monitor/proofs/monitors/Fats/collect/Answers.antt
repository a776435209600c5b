use Rattle.std.proofs.Common.{◌≡◌, sym, Some, Ok, subst, refl}
use Rattle.fat_monitor.specs.declared.actions.Action.TheVariants.{Collect}
use Rattle.fat_monitor.specs.declared.actions.Post.TheVariants.{Granted, Out}
use Rattle.fat_monitor.specs.FatState.{FatState, IsSound, post_of, with_post}
use Rattle.fat_monitor.specs.Fats.{fat_state_in}
use Rattle.fat_monitor.proofs.Steps.{replies_at, sound_after}
use Rattle.fat_monitor.specs.Slots.{Posted}
use Rattle.fat_monitor.specs.Fats.{AreNodesKept, AreCounted}
use Rattle.fat_monitor.proofs.NodesKept.{AreNodesKept-set}
use Rattle.fat_monitor.proofs.monitors.Fats.collect.Goals as goal

pub returns : goal.returns
returns c =
    let held : post_of (fat_state_in c.self.inside) c.args.thread ≡ Some (Granted c.in-Some-Granted.reply) = rw (c.in-Some-Granted.field-0-is) at (sym c.in-Some-Granted.ensures) in
    let after : record (fat_state_in c.self.inside) { threads = c.set.new.self.posts; flags = c.set.new.self.flags } ≡ with_post (fat_state_in c.self.inside) c.args.thread Out = rw (c.set.ensures) refl in
    rw (← c.self.view_is, held) (replies_at c.reply_with.result c.in-Some-Granted.reply _ _ c.reply_with.ensures after)

pub invariant_of-self : goal.invariant_of-self
invariant_of-self c =
    record {
      sound =
          sound_after c.args.self.now _ c.args.thread Collect (Ok c.reply_with.result)
          (subst (λ (f : FatState). IsSound f) c.self.view_is c.self.invariant.sound) c.requires tt (returns c);
      nodes_kept = subst (λ (p : Posted). AreNodesKept p.posts p.nodes c.self.inside.lines.nodes) (sym c.set.ensures) (AreNodesKept-set _ _ _ c.self.invariant.nodes_kept c.args.thread Out refl);
      counted = subst (λ (p : Posted). AreCounted c.self.inside.monitors.items p.owned) (sym c.set.ensures) c.self.invariant.counted;
      reserved = c.self.invariant.reserved;
    }
