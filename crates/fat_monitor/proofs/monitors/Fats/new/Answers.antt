use Rattle.std.proofs.Common.{arith, sym, subst}
use Rattle.std.specs.Ordering.{nat_cmp}
use Rattle.std.specs.FinMap.{get-empty}
use Rattle.fat_monitor.specs.declared.actions.Post.{Post}
use Rattle.fat_monitor.specs.Slots.{Posted}
use Rattle.fat_monitor.specs.Fats.{AreNodesKept, AreCounted}
use Rattle.fat_monitor.proofs.Soundness.{IsSound-opened}
use Rattle.fat_monitor.proofs.OwnedCounts.{AreCounted-nobody}
use Rattle.fat_monitor.proofs.monitors.Fats.new.Goals as goal

pub invariant_of-result : goal.invariant_of-result
invariant_of-result c =
    record {
      sound =
          rw (c.new.ensures.items, c.new-2.ensures, c.new-3.ensures.empty) (IsSound-opened c.args.limit c.requires);
      nodes_kept = subst (λ (p : Posted). AreNodesKept p.posts p.nodes c.new-3.result.nodes) (sym c.new-2.ensures) (λ t p e h. absurd (let none = get-empty {X = Post} nat_cmp t.0 in cc));
      counted = subst (λ (p : Posted). AreCounted c.new.result.items p.owned) (sym c.new-2.ensures) (rw (c.new.ensures.items) AreCounted-nobody);
      reserved = let holds = c.new.result.ok in omega arith;
    }

pub returns-clause-sound : goal.returns-clause-sound
returns-clause-sound c = (invariant_of-result c).sound
