-- How many of the attached threads stand in a line, after one more post, another post, or one less.
use Rattle.std.specs.Prelude.{◌≡◌, ℕ, ◌+◌, ◌-◌, ◌<◌, ◌≤◌, Bool, true, false, cond, Option, Some, None, is_some}
use Rattle.std.specs.Ordering.{nat_cmp, eq_by_cmp}
use Rattle.std.specs.Cmp.{nat_cmp_total}
use Rattle.std.specs.FinMap as map
use Rattle.std.specs.FinMap.{get-insert, same_map, len-insert, len-remove, nat_cmp-IsAntisymmetric}
use Rattle.std.proofs.Common.{refl, sym, ap, ◌∙◌, arith}
use Rattle.fat_monitor.specs.declared.actions.Post.{Post}
use Rattle.fat_monitor.specs.declared.actions.Post.TheVariants.{Entering}
use Rattle.fat_monitor.specs.FatState.{stands, stand_count}
use Rattle.fat_monitor.proofs.Counts.{count-insert, count-le}

-- of two tests that ask the same the first decides
written_twice : (b : Bool) (x y z : Option Post) → cond b x (cond b y z) ≡ cond b x z
written_twice true x y z = refl
written_twice false x y z = refl

-- of two posts that are written for a thread the later stays
pub insert_twice : (threads : map.FinMap nat_cmp Post) (t : ℕ) (p q : Post) → map.insert (map.insert threads t p) t q ≡ map.insert threads t q
insert_twice threads t p q =
    same_map nat_cmp_total nat_cmp-IsAntisymmetric _ _ (λ k.
    get-insert nat_cmp_total (map.insert threads t p) t q k
    ∙ ap (λ x. cond (eq_by_cmp nat_cmp k t) (Some q) x) (get-insert nat_cmp_total threads t p k)
    ∙ written_twice (eq_by_cmp nat_cmp k t) (Some q) (Some p) (map.get threads k)
    ∙ sym (get-insert nat_cmp_total threads t q k))

-- a post for a thread that has one attaches nobody
pub len-insert_same : (threads : map.FinMap nat_cmp Post) (t : ℕ) (p q : Post) → map.get threads t ≡ Some p → map.len (map.insert threads t q) ≡ map.len threads
len-insert_same threads t p q here = len-insert nat_cmp_total threads t q ∙ ap (λ (o : Option Post). cond (is_some o) (map.len threads) (map.len threads + 1)) here

-- and one for another thread attaches it
pub len-insert_new : (threads : map.FinMap nat_cmp Post) (t : ℕ) (q : Post) → map.get threads t ≡ None → map.len (map.insert threads t q) ≡ map.len threads + 1
len-insert_new threads t q none = len-insert nat_cmp_total threads t q ∙ ap (λ (o : Option Post). cond (is_some o) (map.len threads) (map.len threads + 1)) none

-- to take a thread away attaches nobody
pub len-remove_le : (threads : map.FinMap nat_cmp Post) (t : ℕ) → map.len (map.remove threads t) ≤ map.len threads
len-remove_le threads t = at (is_some (map.get threads t)) (len-remove nat_cmp_total threads t)
  where
    at : (b : Bool) → map.len (map.remove threads t) ≡ cond b (map.len threads - 1) (map.len threads) → map.len (map.remove threads t) ≤ map.len threads
    at true e = omega arith
    at false e = omega arith

-- while one thread stands in no line, fewer do than are attached: as many do and one where it stands in one too
pub stand_count-less : (threads : map.FinMap nat_cmp Post) (t : ℕ) (p : Post) → map.get threads t ≡ Some p → stands p ≡ false → stand_count threads < map.len threads
stand_count-less threads t p here idle =
    let more : stand_count (map.insert threads t (Entering 0)) + 0 ≡ stand_count threads + 1 = rw (here, idle) at (count-insert stands threads t (Entering 0)) in
    let most = count-le stands (map.insert threads t (Entering 0)) in
    let same = len-insert_same threads t p (Entering 0) here in
    omega arith
