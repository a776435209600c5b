use Rattle.std.proofs.Common.{◌≡◌, ◌++◌, ◌≤◌, List, Bool, length, take, drop, map, vec_items, arith, subst}
use Rattle.owner_cycles.specs.Rows.{IsWalk, leads_to}
use Rattle.owner_cycles.proofs.Parts.{whole_again}
use Rattle.owner_cycles.proofs.RowWalks.{listed_none, listed_next, listed_all}
use Rattle.owner_cycles.proofs.rows.cycles_of_row.Goals as goal

pub starts-init : goal.starts-init
starts-init c = rw c.new-cycles.ensures.items (listed_none c.args.row.now c.in_ok-seen.seen.items c.in_ok-seen.ensures)

pub starts-preserved : goal.starts-preserved
starts-preserved c =
    let row = c.args.row.now in
    let walk : IsWalk (leads_to row) c.starts.seen.items c.walk_from.new.seen c.starts.start c.in_ok-walk.walk.path.items c.in_ok-walk.walk.end =
    subst (λ (l : List Bool). IsWalk (leads_to row) l c.walk_from.new.seen c.starts.start c.in_ok-walk.walk.path.items c.in_ok-walk.walk.end) c.deref_mut.ensures.value c.in_ok-walk.ensures.walk in
    let seen : take c.starts.seen.len (c.walk_from.new.seen ++ drop (length c.walk_from.new.seen) c.starts.seen.items) ≡ c.walk_from.new.seen =
    whole_again c.walk_from.new.seen c.starts.seen.items c.starts.seen.len walk.0.long (omega (arith, c.starts.seen.ok.0)) in
    rw (seen, c.in_ok-add_path.ensures)
    (listed_next row c.requires c.starts.seen.items c.walk_from.new.seen (map vec_items c.starts.cycles.items) c.starts.start c.in_ok-walk.walk.path.items c.in_ok-walk.walk.end
    c.starts.invariant walk c.starts-test.true)

pub returns : goal.returns
returns c =
    let all : length c.args.row.now ≤ c.starts.start = omega (arith, c.starts-test.false) in
    listed_all c.args.row.now c.starts.seen.items (map vec_items c.starts.cycles.items) c.starts.start all c.starts.invariant
