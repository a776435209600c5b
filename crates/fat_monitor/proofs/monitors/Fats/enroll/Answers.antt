use Rattle.std.proofs.Common.{◌≡◌, ◌∙◌, sym, ap, arith, refl, subst, false}
use Rattle.std.specs.FinMap as map
use Rattle.std.proofs.lemmas.Bool.{eq-eqb}
use Rattle.fat_monitor.specs.declared.actions.Post.TheVariants.{Out}
use Rattle.fat_monitor.specs.FatState.{FatState, thread_count, IsAttached}
use Rattle.fat_monitor.specs.Fats.{fat_state_in}
use Rattle.fat_monitor.specs.Slots.{Posted}
use Rattle.fat_monitor.proofs.PostMaps.{get-insert_by, remove_insert}
use Rattle.fat_monitor.proofs.Soundness.{IsSound-with_thread}
use Rattle.fat_monitor.proofs.Steps.{attached_as, of_ok, of_err, room_crowded, room_left, attached_itself, attached_still}
use Rattle.fat_monitor.specs.Fats.{AreNodesKept, AreCounted}
use Rattle.wait_lines.specs.Lines.{NodeMap}
use Rattle.fat_monitor.proofs.NodesKept.{AreNodesKept-added}
use Rattle.fat_monitor.proofs.OwnedCounts.{AreCounted-added}
use Rattle.fat_monitor.proofs.monitors.Fats.enroll.Goals.{else-crowded-via-then-crowded+else-is_err, else-crowded-via-else-crowded}
use Rattle.fat_monitor.proofs.monitors.Fats.enroll.Goals as goal

pub remove-requires : goal.remove-requires
remove-requires c = rw (c.in_ok-add.ensures.ok, get-insert_by c.self.inside.posts.posts c.args.thread.0 Out c.args.thread.0, eq-eqb c.args.thread.0 c.args.thread.0 refl) refl

-- a refused attach leaves all as it was
posts_back : (c : goal.After-remove) → c.remove.new.self ≡ c.self.inside.posts
posts_back c =
    c.remove.ensures
    ∙ rw (c.in_ok-add.ensures.ok, remove_insert c.self.inside.posts.posts c.args.thread.0 Out c.in_ok-add.ensures.fresh, remove_insert c.self.inside.posts.nodes c.args.thread.0 0 c.in_ok-add.ensures.nodeless, remove_insert c.self.inside.posts.flags c.args.thread.0 false c.in_ok-add.ensures.flagless, remove_insert c.self.inside.posts.owned c.args.thread.0 0 c.in_ok-add.ensures.uncounted) refl

lines_back : (c : goal.After-remove) → c.reserve_one.new.self ≡ c.self.inside.lines
lines_back c = of_err c.reserve_one.result _ c.if-is_err.ensures.value c.reserve_one.ensures.err

pub invariant_of-self-then-is_err : goal.invariant_of-self-then-is_err
invariant_of-self-then-is_err c =
    record {
      sound =
          rw (posts_back c, lines_back c) c.self.invariant.sound;
      nodes_kept = rw (posts_back c, lines_back c) c.self.invariant.nodes_kept;
      counted = rw (posts_back c) c.self.invariant.counted;
      reserved = c.self.invariant.reserved;
    }

pub returns-then-is_err-clause-err : goal.returns-then-is_err-clause-err
returns-then-is_err-clause-err c = rw (← c.self.view_is, posts_back c, lines_back c) refl

pub returns-then-is_err-clause-others : goal.returns-then-is_err-clause-others
returns-then-is_err-clause-others c u here = subst (λ (f : FatState). IsAttached f u) (sym (returns-then-is_err-clause-err c)) here

pub invariant_of-self-else-is_err : goal.invariant_of-self-else-is_err
invariant_of-self-else-is_err c =
    record {
      sound =
          let f = fat_state_in c.self.inside in
          let full : thread_count f ≡ f.standing.reservations = let n = c.len.ensures in let r = c.reservations.ensures.reservations in let e = c.from.ensures in let t = c.if-crowded.true in omega arith in
          let more = of_ok c.reserve_one.result _ c.if-is_err.ensures.value c.reserve_one.ensures.ok in
          let after = attached_as f c.args.thread c.add.new.self c.reserve_one.new.self c.in_ok-add.ensures.ok c.reserve_one.ensures.lines (more ∙ sym (room_crowded (thread_count f) f.standing.reservations full)) in
          rw (after) (IsSound-with_thread f c.args.thread c.self.invariant.sound c.in_ok-add.ensures.fresh (rw (← c.self.view_is) at c.requires));
      nodes_kept = subst (λ (m : NodeMap). AreNodesKept c.add.new.self.posts c.add.new.self.nodes m) (sym c.reserve_one.ensures.nodes)
          (subst (λ (p : Posted). AreNodesKept p.posts p.nodes c.self.inside.lines.nodes) (sym c.in_ok-add.ensures.ok) (AreNodesKept-added _ _ _ c.self.invariant.nodes_kept c.args.thread 0));
      counted = subst (λ (p : Posted). AreCounted c.self.inside.monitors.items p.owned) (sym c.in_ok-add.ensures.ok)
          (AreCounted-added c.self.inside.monitors.items c.self.inside.posts.owned c.args.thread c.self.invariant.counted c.in_ok-add.ensures.uncounted);
      reserved = c.self.invariant.reserved;
    }

pub invariant_of-self-else-crowded : goal.invariant_of-self-else-crowded
invariant_of-self-else-crowded c =
    record {
      sound =
          let f = fat_state_in c.self.inside in
          let left : thread_count f ≡ f.standing.reservations → ⊥ = λ e. c.if-crowded.false (let n = c.len.ensures in let r = c.reservations.ensures.reservations in let k = c.from.ensures in omega arith) in
          let after = attached_as f c.args.thread c.add.new.self c.self.inside.lines c.in_ok-add.ensures.ok refl (sym (room_left (thread_count f) f.standing.reservations left)) in
          rw (after) (IsSound-with_thread f c.args.thread c.self.invariant.sound c.in_ok-add.ensures.fresh (rw (← c.self.view_is) at c.requires));
      nodes_kept = subst (λ (p : Posted). AreNodesKept p.posts p.nodes c.self.inside.lines.nodes) (sym c.in_ok-add.ensures.ok) (AreNodesKept-added _ _ _ c.self.invariant.nodes_kept c.args.thread 0);
      counted = subst (λ (p : Posted). AreCounted c.self.inside.monitors.items p.owned) (sym c.in_ok-add.ensures.ok)
          (AreCounted-added c.self.inside.monitors.items c.self.inside.posts.owned c.args.thread c.self.invariant.counted c.in_ok-add.ensures.uncounted);
      reserved = c.self.invariant.reserved;
    }

-- the thread has its post
threads_after : (c : goal.Joined-else-crowded) → c.else-crowded.self.threads ≡ map.insert c.args.self.now.threads c.args.thread.0 Out
threads_after c =
    rw (← c.self.view_is) (elim c.else-crowded.branch [
      | else-crowded-via-then-crowded+else-is_err w ↦ ap (λ (f : FatState). f.threads) w.self-is ∙ ap (λ (p : Posted). p.posts) c.in_ok-add.ensures.ok
      | else-crowded-via-else-crowded w ↦ ap (λ (f : FatState). f.threads) w.self-is ∙ ap (λ (p : Posted). p.posts) c.in_ok-add.ensures.ok
    ])

pub returns-clause-here : goal.returns-clause-here
returns-clause-here c = rw (threads_after c) (attached_itself c.args.self.now c.args.thread)

pub returns-clause-others : goal.returns-clause-others
returns-clause-others c u here = rw (threads_after c) (attached_still c.args.self.now c.args.thread u here)
