use Rattle.std.proofs.lemmas.Grind.{common_steps}
use Rattle.std.proofs.Common.{arith, subst, sym, Some, IsSome}
use Rattle.std.proofs.lemmas.Option.{same_Some}
use Rattle.lock_word.specs.declared.ThreadId.{ThreadId}
use Rattle.fat_monitor.specs.FatState.{post_of}
use Rattle.fat_monitor.specs.Fats.{fat_state_in, AreNodesKept}
use Rattle.fat_monitor.specs.Slots.{Posted}
use Rattle.fat_monitor.proofs.Soundness.{IsSound-bound_with}
use Rattle.fat_monitor.proofs.OwnedCounts.{AreCounted-bound, few_owned}
use Rattle.fat_monitor.proofs.monitors.Fats.bind.Goals as goal

pub hand_over-requires-clause-attached : goal.hand_over-requires-clause-attached
hand_over-requires-clause-attached c t e =
    subst (λ (u : ThreadId). IsSome (post_of (fat_state_in c.self.inside) u)) (same_Some c.args.owner t e) (rw (← c.self.view_is) at c.requires.attached)

pub hand_over-requires-clause-few : goal.hand_over-requires-clause-few
hand_over-requires-clause-few c t e = few_owned (fat_state_in c.self.inside) c.self.inside.posts.owned t c.self.invariant.sound c.self.invariant.counted

pub invariant_of-self : goal.invariant_of-self
invariant_of-self c =
    record {
      sound = rw (c.in_default.ensures.items) c.self.invariant.sound;
      nodes_kept = c.self.invariant.nodes_kept;
      counted = rw (c.in_default.ensures.items) c.self.invariant.counted;
      reserved = let was = c.self.invariant.reserved in let len = c.in_default.ensures.len in let room = c.in_default.ensures.capacity in omega arith;
    }

pub returns-in_default-clause-sound : goal.returns-in_default-clause-sound
returns-in_default-clause-sound c = (invariant_of-self c).sound

pub invariant_of-self-2 : goal.invariant_of-self-2
invariant_of-self-2 c =
    record {
      sound =
          rw (c.in-Ok.ensures.items, c.hand_over.ensures, c.saturating_sub-self-inside.ensures)
          (IsSound-bound_with (fat_state_in c.self.inside) c.args.object c.args.owner c.args.holds c.self.invariant.sound (omega arith) c.requires.low (omega arith));
      nodes_kept = subst (λ (p : Posted). AreNodesKept p.posts p.nodes c.self.inside.lines.nodes) (sym c.hand_over.ensures) c.self.invariant.nodes_kept;
      counted =
          rw (c.in-Ok.ensures.items, c.hand_over.ensures)
          (AreCounted-bound c.self.inside.monitors.items c.self.inside.posts.owned (record { object = c.args.object; owner = Some c.args.owner; holds = c.args.holds }) c.self.invariant.counted);
      reserved =
          let was = c.self.invariant.reserved in let len = c.in-Ok.ensures.len in let room = c.in-Ok.ensures.capacity in let holds = c.push.new.self.ok.1 in let less = c.saturating_sub-self-inside.ensures in omega arith;
    }

pub returns-clause-sound : goal.returns-clause-sound
returns-clause-sound c = (invariant_of-self-2 c).sound

pub returns-clause-objects : goal.returns-clause-objects
returns-clause-objects c = grind (arith, common_steps)
