use Rattle.std.proofs.Common.{true, sym, subst}
use Rattle.fat_monitor.specs.Fats.{fat_state_in}
use Rattle.fat_monitor.proofs.SoundSteps.{IsSound-flags}
use Rattle.fat_monitor.proofs.Steps.{flagged_as, replies_at, interrupt_outcome_outside}
use Rattle.fat_monitor.specs.Slots.{Posted}
use Rattle.fat_monitor.specs.Fats.{AreNodesKept, AreCounted}
use Rattle.fat_monitor.proofs.monitors.Fats.interrupt.Goals as goal

pub returns-in_default : goal.returns-in_default
returns-in_default c t = rw (← c.self.view_is, ← c.in_default.ensures) (c.reply_with.ensures _)

pub invariant_of-self : goal.invariant_of-self
invariant_of-self c =
    record {
      sound =
          let f = fat_state_in c.self.inside in
          rw (flagged_as f c.args.target true c.set_flag.new.self c.set_flag.ensures) (IsSound-flags f _ c.self.invariant.sound);
      nodes_kept = subst (λ (p : Posted). AreNodesKept p.posts p.nodes c.self.inside.lines.nodes) (sym c.set_flag.ensures) c.self.invariant.nodes_kept;
      counted = subst (λ (p : Posted). AreCounted c.self.inside.monitors.items p.owned) (sym c.set_flag.ensures) c.self.invariant.counted;
      reserved = c.self.invariant.reserved;
    }

pub invariant_of-self-2 : goal.invariant_of-self-2
invariant_of-self-2 c =
    record {
      sound =
          let f = fat_state_in c.self.inside in
          rw (flagged_as f c.args.target true c.set_flag.new.self c.set_flag.ensures) (IsSound-flags f _ c.self.invariant.sound);
      nodes_kept = subst (λ (p : Posted). AreNodesKept p.posts p.nodes c.self.inside.lines.nodes) (sym c.set_flag.ensures) c.self.invariant.nodes_kept;
      counted = subst (λ (p : Posted). AreCounted c.self.inside.monitors.items p.owned) (sym c.set_flag.ensures) c.self.invariant.counted;
      reserved = c.self.invariant.reserved;
    }

pub returns-in_default-post : goal.returns-in_default-post
returns-in_default-post c t =
    let f = fat_state_in c.self.inside in
    let after = flagged_as f c.args.target true c.set_flag.new.self c.set_flag.ensures in
    rw (← c.self.view_is, ← c.in-Some.ensures, interrupt_outcome_outside f c.args.target c.in-Some.post c.in_default-post.not-Waiting)
    (replies_at c.reply_with-in_default-post.result _ _ _ c.reply_with-in_default-post.ensures after)
