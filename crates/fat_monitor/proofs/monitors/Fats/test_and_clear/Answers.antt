use Rattle.std.proofs.Common.{false, sym, subst}
use Rattle.fat_monitor.specs.Fats.{fat_state_in}
use Rattle.fat_monitor.proofs.SoundSteps.{IsSound-flags}
use Rattle.fat_monitor.proofs.Steps.{flagged_as, replies_at}
use Rattle.fat_monitor.specs.Slots.{Posted}
use Rattle.fat_monitor.specs.Fats.{AreNodesKept, AreCounted}
use Rattle.fat_monitor.proofs.monitors.Fats.test_and_clear.Goals as goal

pub invariant_of-self : goal.invariant_of-self
invariant_of-self c =
    record {
      sound =
          let f = fat_state_in c.self.inside in
          rw (flagged_as f c.args.thread false c.set_flag.new.self c.set_flag.ensures) (IsSound-flags f _ c.self.invariant.sound);
      nodes_kept = subst (λ (p : Posted). AreNodesKept p.posts p.nodes c.self.inside.lines.nodes) (sym c.set_flag.ensures) c.self.invariant.nodes_kept;
      counted = subst (λ (p : Posted). AreCounted c.self.inside.monitors.items p.owned) (sym c.set_flag.ensures) c.self.invariant.counted;
      reserved = c.self.invariant.reserved;
    }

pub returns : goal.returns
returns c =
    let after = flagged_as (fat_state_in c.self.inside) c.args.thread false c.set_flag.new.self c.set_flag.ensures in
    rw (← c.self.view_is, ← c.flag-flag.ensures, ← c.yes_or_no.ensures) (replies_at c.reply_with.result _ _ _ c.reply_with.ensures after)
