use Rattle.std.proofs.Common.{◌≡◌, ◌++◌, List, Bool, length, take, drop, arith, subst}
use Rattle.owner_cycles.specs.Rows.{AreCleared, IsWalk, leads_to}
use Rattle.owner_cycles.proofs.Parts.{whole_again}
use Rattle.owner_cycles.proofs.RowWalks.{judged_more, ring_within}
use Rattle.owner_cycles.proofs.rows.off_cycles.Goals as goal

pub clear-requires : goal.clear-requires
clear-requires c =
    let row = c.args.row.now in
    let walk = c.in_ok-walk.ensures.walk in
    rw (c.deref_mut-in-starts.ensures.value, c.starts.invariant.marks_long)
    (ring_within row c.requires c.deref_mut.result.now c.walk_from.new.seen c.starts.start c.in_ok-walk.walk.path.items c.ring_of.result.now c.in_ok-walk.walk.end c.starts-test.true walk c.ring_of.ensures)

pub starts-preserved : goal.starts-preserved
starts-preserved c =
    let row = c.args.row.now in
    let walk : IsWalk (leads_to row) c.starts.seen.items c.walk_from.new.seen c.starts.start c.in_ok-walk.walk.path.items c.in_ok-walk.walk.end =
    subst (λ (l : List Bool). IsWalk (leads_to row) l c.walk_from.new.seen c.starts.start c.in_ok-walk.walk.path.items c.in_ok-walk.walk.end) c.deref_mut.ensures.value c.in_ok-walk.ensures.walk in
    let cleared : AreCleared c.starts.off.items c.clear.new.seen c.ring_of.result.now =
    subst (λ (l : List Bool). AreCleared l c.clear.new.seen c.ring_of.result.now) c.deref_mut-in-starts.ensures.value c.clear.ensures in
    let seen : take c.starts.seen.len (c.walk_from.new.seen ++ drop (length c.walk_from.new.seen) c.starts.seen.items) ≡ c.walk_from.new.seen =
    whole_again c.walk_from.new.seen c.starts.seen.items c.starts.seen.len walk.0.long (omega (arith, c.starts.seen.ok.0)) in
    let off : take c.starts.off.len (c.clear.new.seen ++ drop (length c.clear.new.seen) c.starts.off.items) ≡ c.clear.new.seen =
    whole_again c.clear.new.seen c.starts.off.items c.starts.off.len cleared.long (omega (arith, c.starts.off.ok.0)) in
    rw (seen, off)
    (judged_more row c.starts.seen.items c.walk_from.new.seen c.starts.off.items c.clear.new.seen c.starts.start c.in_ok-walk.walk.path.items c.ring_of.result.now c.in_ok-walk.walk.end
    c.starts.invariant walk c.ring_of.ensures cleared)
