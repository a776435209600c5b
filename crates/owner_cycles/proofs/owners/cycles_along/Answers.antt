use Rattle.std.proofs.Common.{List, Option, ℕ, map, vec_items, subst}
use Rattle.owner_cycles.specs.Rows.{AreCyclesOfRow}
use Rattle.owner_cycles.proofs.Positions.{positions_within, cycles_of_owners, row_of_nexts}
use Rattle.owner_cycles.proofs.owners.cycles_along.Goals as goal

pub positions_of-requires : goal.positions_of-requires
positions_of-requires c = c.requires.1.rising

pub threads_of_all-requires : goal.threads_of_all-requires
threads_of_all-requires c =
    let exact : AreCyclesOfRow c.in_ok-row.row.items (map vec_items c.in_ok-positions.positions.items) =
    subst (λ (r : List (Option ℕ)). AreCyclesOfRow r (map vec_items c.in_ok-positions.positions.items)) c.deref.ensures.value c.in_ok-positions.ensures in
    rw c.deref-2.ensures.value
    (positions_within c.requires.0 c.args.threads.now c.in_ok-row.row.items (map vec_items c.in_ok-positions.positions.items) c.requires.1.rising
    (row_of_nexts c.requires.0 c.args.threads.now c.args.nexts.now c.in_ok-row.row.items c.requires.1 c.in_ok-row.ensures) exact)

pub returns : goal.returns
returns c =
    let exact : AreCyclesOfRow c.in_ok-row.row.items (map vec_items c.in_ok-positions.positions.items) =
    subst (λ (r : List (Option ℕ)). AreCyclesOfRow r (map vec_items c.in_ok-positions.positions.items)) c.deref.ensures.value c.in_ok-positions.ensures in
    λ s are. rw (c.in_ok-cycles.ensures, c.deref-2.ensures.value)
    (cycles_of_owners s c.args.threads.now c.in_ok-row.row.items (map vec_items c.in_ok-positions.positions.items) are.rising are.all
    (row_of_nexts s c.args.threads.now c.args.nexts.now c.in_ok-row.row.items are c.in_ok-row.ensures) exact)
