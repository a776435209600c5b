use Rattle.std.proofs.Common.{◌≡◌, ◌∙◌, sym, ap, refl, Some, None, subst}
use Rattle.wait_lines.specs.declared.Role.TheVariants.{Entry}
use Rattle.wait_lines.proofs.LineLemmas.{StandsIn-first}
use Rattle.fat_monitor.specs.declared.actions.Post.{Post}
use Rattle.fat_monitor.specs.FatState.{FatState, IsSound, first_of, post_at, line_key_of}
use Rattle.fat_monitor.specs.Acting.{after_grant}
use Rattle.fat_monitor.specs.Fats.{fat_state_in}
use Rattle.fat_monitor.proofs.Soundness.{IsSound-after_hand_on, post_at-is, comes_back}
use Rattle.fat_monitor.proofs.Steps.{written}
use Rattle.fat_monitor.specs.declared.monitors.Monitor.{Monitor}
use Rattle.fat_monitor.specs.Slots.{Posted}
use Rattle.fat_monitor.specs.Fats.{AreNodesKept}
use Rattle.fat_monitor.proofs.OwnedCounts.{counted_as, one_owned}
use Rattle.fat_monitor.proofs.monitors.Fats.hand_on.Goals as goal

pub invariant_of-self : goal.invariant_of-self
invariant_of-self c =
    record {
      sound =
          let bound = rw (← c.self.view_is) at c.requires in
          let after = written (fat_state_in c.self.inside) c.args.monitor c.index_mut.result.now c.give.new.self None 0 bound c.index_mut.ensures.value c.give.ensures in
          let kept = rw (← c.in_default.ensures.first) at (IsSound-after_hand_on (fat_state_in c.self.inside) c.args.monitor c.self.invariant.sound bound) in
          rw (c.hand_over.ensures, after) kept;
      nodes_kept = subst (λ (p : Posted). AreNodesKept p.posts p.nodes c.self.inside.lines.nodes) (sym c.hand_over.ensures) c.self.invariant.nodes_kept;
      counted =
          counted_as c.self.inside.monitors.items c.self.inside.posts.owned c.hand_over.new.self.owned c.args.monitor c.give.new.self c.owner-owner.result None c.self.invariant.counted
          (rw (← c.self.view_is) at c.requires) (sym (rw (← c.self.view_is) at c.owner-owner.ensures)) (ap (λ (b : Monitor). b.owner) c.give.ensures) (ap (λ (p : Posted). p.owned) c.hand_over.ensures);
      reserved = c.self.invariant.reserved;
    }

pub hand_over-requires-clause-owned : goal.hand_over-requires-clause-owned
hand_over-requires-clause-owned c t e =
    one_owned c.self.inside.monitors.items c.self.inside.posts.owned c.args.monitor t c.self.invariant.counted (rw (← c.self.view_is) at c.requires) (sym (rw (← c.self.view_is) at c.owner-owner.ensures) ∙ e)

pub grant-requires-clause-stands : goal.grant-requires-clause-stands
grant-requires-clause-stands c =
    let f = fat_state_in c.self.inside in
    let stood = c.self.invariant.sound.standing c.in-Some.next c.args.monitor Entry (StandsIn-first f.standing.lines c.in-Some.next c.args.monitor Entry (sym c.in-Some.ensures.first)) in
    rw (← c.self.view_is) (Entry, ap line_key_of (post_at-is f c.in-Some.next stood.0 stood.1) ∙ stood.2)

pub grant-requires-clause-comes : goal.grant-requires-clause-comes
grant-requires-clause-comes c =
    let f = fat_state_in c.self.inside in
    let stood = c.self.invariant.sound.standing c.in-Some.next c.args.monitor Entry (StandsIn-first f.standing.lines c.in-Some.next c.args.monitor Entry (sym c.in-Some.ensures.first)) in
    rw (c.unwrap_or-post.ensures, c.get.ensures, stood.1) (comes_back f stood.0 (c.self.invariant.sound.proper c.in-Some.next stood.0 stood.1))

pub returns-clause-after : goal.returns-clause-after
returns-clause-after c =
    let f = c.args.self.now in
    let first : first_of f c.args.monitor Entry ≡ Some c.in-Some.next = rw (← c.self.view_is) (sym c.in-Some.ensures.first) in
    let sound = subst (λ (f : FatState). IsSound f) c.self.view_is c.self.invariant.sound in
    let stood = sound.standing c.in-Some.next c.args.monitor Entry (StandsIn-first f.standing.lines c.in-Some.next c.args.monitor Entry first) in
    let post : c.unwrap_or-post.result ≡ post_at f c.in-Some.next = rw (c.unwrap_or-post.ensures, c.get.ensures, ← c.self.view_is) refl in
    rw (first) (
    c.grant.ensures Entry (ap line_key_of (post_at-is f c.in-Some.next stood.0 stood.1) ∙ stood.2)
    ∙ ap (λ (p : Post). after_grant f c.args.monitor c.in-Some.next p Entry) post)
