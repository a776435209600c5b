-- Positions of lanes.
use Rattle.std.proofs.Common.{◌≡◌, sym, ℕ, zero, suc, ◌+◌, ◌<◌, Bool, true, false, List, Option, Some, None, add-one, arith}
use Rattle.std.specs.Prelude.{slice_get, cond, nat_eq, IfSome}
use Rattle.pictures.specs.declared.picture.Lane.{Lane}
use Rattle.picture_text.specs.Positions.{is_lane_of, position_in}

small_by : (b : Bool) (n k : ℕ) (o : Option ℕ) → cond b (Some n) o ≡ Some k → (o ≡ Some k → k < n) → k < suc n
small_by true n k o q below = let same : n ≡ k = cc in omega arith
small_by false n k o q below = let less : k < n = below q in omega arith

position_small : (lanes : List Lane) (n t k : ℕ) → position_in lanes n t ≡ Some k → k < n
position_small lanes zero t k e = cc
position_small lanes (suc n) t k e =
    small_by (is_lane_of t (slice_get lanes n)) n k (position_in lanes n t) e (position_small lanes n t k)

pub positions_small : (lanes : List Lane) (n t : ℕ) (o : Option ℕ) → o ≡ position_in lanes n t → IfSome o (λ k. k < n)
positions_small lanes n t None e = tt
positions_small lanes n t (Some k) e = position_small lanes n t k (sym e)

pub position_more : (lanes : List Lane) (n q : ℕ) (lane : Lane) (got : Option ℕ) → slice_get lanes n ≡ Some lane
    → got ≡ cond (nat_eq lane.thread.0 q) (Some n) (position_in lanes n q) → got ≡ position_in lanes (n + 1) q
position_more lanes n q lane got e g = rw (add-one, e) g
