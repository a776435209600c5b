use Rattle.std.proofs.Common.{◌-◌, ◌∙◌, Some, Ok, subst, sym, ap, rules}
use Rattle.std.proofs.lemmas.Bool.{lt-ltb}
use Rattle.fat_monitor.specs.declared.actions.Action.TheVariants.{Exit}
use Rattle.fat_monitor.specs.FatState.{FatState, IsSound}
use Rattle.fat_monitor.specs.Fats.{fat_state_in}
use Rattle.fat_monitor.proofs.Steps.{written, replies_at, sound_after}
use Rattle.fat_monitor.specs.declared.monitors.Monitor.{Monitor}
use Rattle.fat_monitor.proofs.OwnedCounts.{AreCounted-kept, owner_is}
use Rattle.fat_monitor.proofs.monitors.Fats.exit.Goals as goal

pub returns-then-not-is_owner : goal.returns-then-not-is_owner
returns-then-not-is_owner c = rw (← c.if-not-is_owner.ensures) (c.reply_with.ensures _)

pub returns-then-holds-gt1 : goal.returns-then-holds-gt1
returns-then-holds-gt1 c =
    let bound = rw (← c.self.view_is) at c.requires.bound in
    let after = written (fat_state_in c.self.inside) c.args.monitor c.index_mut.result.now c.give.new.self (Some c.args.thread) (c.holds-holds.result - 1) bound c.index_mut.ensures.value c.give.ensures in
    rw (← c.if-not-is_owner.ensures, ← c.holds-holds.ensures, lt-ltb 1 c.holds-holds.result c.if-holds-gt1.true, ← c.self.view_is)
    (replies_at c.reply_with-then-holds-gt1.result _ _ _ c.reply_with-then-holds-gt1.ensures after)

pub invariant_of-self : goal.invariant_of-self
invariant_of-self c =
    record {
      sound =
          sound_after c.args.self.now _ c.args.thread (Exit c.args.monitor) (Ok c.reply_with-then-holds-gt1.result)
          (subst (λ (f : FatState). IsSound f) c.self.view_is c.self.invariant.sound) c.requires.out c.requires.bound (returns-then-holds-gt1 c);
      nodes_kept = c.self.invariant.nodes_kept;
      counted =
          AreCounted-kept c.self.inside.monitors.items c.self.inside.posts.owned c.args.monitor c.give.new.self c.self.invariant.counted (rw (← c.self.view_is) at c.requires.bound)
          (ap (λ (b : Monitor). b.owner) c.give.ensures ∙ sym (owner_is _ c.args.thread (rw (← c.self.view_is) at (sym c.if-not-is_owner.ensures))));
      reserved = c.self.invariant.reserved;
    }

pub returns : goal.returns
returns c = search rules
