use Rattle.std.proofs.Common.{◌≡◌, ◌∙◌, slice_set, ℕ, ◌<◌, List, Option, Some, true, false, length, arith, sym, subst}
use Rattle.owner_cycles.specs.Rows.{IsWay, leads_to, is_seen}
use Rattle.owner_cycles.proofs.Marks.{way_more}
use Rattle.owner_cycles.proofs.rows.walk_from.Goals as goal

pub walk-preserved : goal.walk-preserved
walk-preserved c =
    let f = leads_to c.args.row.now in
    let way : IsWay f c.args.seen.now c.walk.seen (Some c.args.start) c.walk.path.items (Some c.in-Some.number) =
    subst (λ (o : Option ℕ). IsWay f c.args.seen.now c.walk.seen (Some c.args.start) c.walk.path.items o) c.in-Some.is c.walk.invariant.way in
    let inside : c.in-Some.number < length c.args.row.now = c.walk.invariant.within c.in-Some.number c.in-Some.is in
    let long : length c.walk.seen ≡ length c.args.seen.now = way.long in
    let same : length c.args.seen.now ≡ length c.args.row.now = c.requires.seen in
    let within : c.in-Some.number < length c.walk.seen = omega (arith, inside, long, same) in
    let fresh : is_seen c.walk.seen c.in-Some.number ≡ false = c.if-seen-number.false in
    let new : is_seen c.walk.seen c.in-Some.number ≡ true → ⊥ = λ h. let never : true ≡ false = sym h ∙ fresh in absurd (cc) in
    record {
      way = subst (λ (l : List ℕ). IsWay f c.args.seen.now (slice_set c.walk.seen c.in-Some.number true) (Some c.args.start) l (f c.in-Some.number)) (sym c.in_ok-push.ensures.items)
          (way_more f c.args.seen.now c.walk.seen (Some c.args.start) c.walk.path.items c.in-Some.number way within new);
      within = λ v e. c.requires.row c.in-Some.number v e;
    }
