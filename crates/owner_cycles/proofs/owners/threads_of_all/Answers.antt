use Rattle.std.proofs.lemmas.Grind.{common_steps}
use Rattle.std.proofs.Common.{List, ℕ, vec_items, sym, subst, arith}
use Rattle.owner_cycles.specs.Rows.{IsIn}
use Rattle.owner_cycles.proofs.Positions.{in_map, in_by_position}
use Rattle.owner_cycles.proofs.owners.threads_of_all.Goals as goal

pub threads_of-requires : goal.threads_of-requires
threads_of-requires c =
    let there : IsIn c.positions-item.result c.args.lists.now =
    subst (λ v. IsIn v c.args.lists.now) (sym c.positions-item.is) (in_by_position c.args.lists.now c.lists.positions-index c.positions-item.result c.lists-test.true) in
    λ position i. c.requires (vec_items c.positions-item.result) position (in_map vec_items c.positions-item.result c.args.lists.now there) (subst (λ (l : List ℕ). IsIn position l) c.deref.ensures.value i)

pub lists-preserved : goal.lists-preserved
lists-preserved c = grind (arith, common_steps)
