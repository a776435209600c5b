use Rattle.std.proofs.Common.{sym, subst}
use Rattle.fat_monitor.specs.Fats.{fat_state_in}
use Rattle.fat_monitor.proofs.Soundness.{IsSound-without_thread}
use Rattle.fat_monitor.specs.Slots.{Posted}
use Rattle.fat_monitor.specs.Fats.{AreNodesKept, AreCounted}
use Rattle.fat_monitor.proofs.NodesKept.{AreNodesKept-removed}
use Rattle.fat_monitor.proofs.OwnedCounts.{AreCounted-removed}
use Rattle.fat_monitor.proofs.monitors.Fats.remove.Goals as goal

pub invariant_of-self : goal.invariant_of-self
invariant_of-self c =
    record {
      sound =
          rw (c.remove.ensures) (IsSound-without_thread (fat_state_in c.self.inside) c.args.thread c.self.invariant.sound (rw (← c.self.view_is) at c.requires.out));
      nodes_kept = subst (λ (p : Posted). AreNodesKept p.posts p.nodes c.self.inside.lines.nodes) (sym c.remove.ensures) (AreNodesKept-removed _ _ _ c.self.invariant.nodes_kept c.args.thread);
      counted = subst (λ (p : Posted). AreCounted c.self.inside.monitors.items p.owned) (sym c.remove.ensures)
          (AreCounted-removed c.self.inside.monitors.items c.self.inside.posts.owned c.args.thread c.self.invariant.counted (rw (← c.self.view_is) at c.requires.owns_none));
      reserved = c.self.invariant.reserved;
    }

pub returns-clause-sound : goal.returns-clause-sound
returns-clause-sound c = (invariant_of-self c).sound
