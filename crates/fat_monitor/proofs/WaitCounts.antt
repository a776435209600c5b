-- How many of the attached threads stand in wait sets, after another post.
use Rattle.std.specs.Prelude.{◌≡◌, ℕ, ◌+◌, ◌-◌, ◌≤◌, List, length, Some, None, nat_eq, Bool, true, false, cond}
use Rattle.std.specs.Map.{lookup, keys_of}
use Rattle.std.specs.List.{IsDistinct}
use Rattle.std.specs.Ordering.{nat_cmp}
use Rattle.std.specs.FinMap as map
use Rattle.std.proofs.Common.{ap, arith}
use Rattle.fat_monitor.specs.declared.actions.Post.{Post}
use Rattle.slab.specs.Slab.{Slab, get}
use Rattle.fat_monitor.specs.declared.actions.Post.TheVariants.{Out}
use Rattle.fat_monitor.specs.declared.posts.Record.{Record}
use Rattle.fat_monitor.specs.Slots.{posts_in}
use Rattle.fat_monitor.specs.FatState.{FatState, IsSound, waits, wait_count}
use Rattle.fat_monitor.proofs.Counts.{one, count-insert, count-le, count-remove, weight_in}
use Rattle.fat_monitor.proofs.PostMaps.{value-values_of, len-posts}

pub wait_count-insert : (posts : map.FinMap nat_cmp Post) (t : ℕ) (p q : Post) → map.get posts t ≡ Some p → wait_count (map.insert posts t q) + one waits p ≡ wait_count posts + one waits q
wait_count-insert posts t p q here =
    let inserted = count-insert waits posts t q in
    let found = ap (weight_in (one waits)) here in
    omega arith

-- one thread more, which waits for nothing, changes no count
pub wait_count-new : (posts : map.FinMap nat_cmp Post) (t : ℕ) → map.get posts t ≡ None → wait_count (map.insert posts t Out) ≡ wait_count posts
wait_count-new posts t fresh =
    let inserted = count-insert waits posts t Out in
    let none = ap (weight_in (one waits)) fresh in
    omega arith

-- a thread that waits is counted
pub one-le : (posts : map.FinMap nat_cmp Post) (t : ℕ) (p : Post) → map.get posts t ≡ Some p → one waits p ≤ wait_count posts
one-le posts t p here = let removed = count-remove waits posts t p here in omega arith

pub one_at_most : (p : Post) (n : ℕ) → n ≡ one waits p → n ≤ 1
one_at_most p n is = at (waits p) is
  where
    at : (b : Bool) → n ≡ cond b 1 0 → n ≤ 1
    at true e = omega arith
    at false e = omega arith

pub wait_count-few : (f : FatState) → IsSound f → wait_count f.threads ≤ 32767
wait_count-few f sound =
    let most = count-le waits f.threads in
    let room = sound.room in
    let few = sound.orderly.few in
    omega arith

-- ---- the count that is kept of the threads with these keys

module _ (s : Slab Record) (ks : List (ℕ × ℕ)) (t key : ℕ) (old : Record) (n a : ℕ)
    (counted : n ≡ wait_count (posts_in s ks))
    (found : lookup (nat_eq t) ks ≡ Some key)
    (there : get s key ≡ Some old)
    (was : a ≡ one waits old.post) where
  here : map.get (posts_in s ks) t ≡ Some old.post
  here = value-values_of (λ r. r.post) Out s ks t key old found there

  -- a thread that waits is counted
  pub counts : a ≤ n
  counts = let some = one-le (posts_in s ks) t old.post here in omega arith

  -- the count after another post, and after the thread is gone
  pub recounted : (after : map.FinMap nat_cmp Post) (q : Post) (b : ℕ) → after ≡ map.insert (posts_in s ks) t q → b ≡ one waits q → n - a + b ≡ wait_count after
  recounted after q b is now =
      let inserted = wait_count-insert (posts_in s ks) t old.post q here in
      let some = counts in
      let same : wait_count after ≡ wait_count (map.insert (posts_in s ks) t q) = ap wait_count is in
      omega arith

  pub recounted-remove : (after : map.FinMap nat_cmp Post) → after ≡ map.remove (posts_in s ks) t → n - a ≡ wait_count after
  recounted-remove after is =
      let removed = count-remove waits (posts_in s ks) t old.post here in
      let same : wait_count after ≡ wait_count (map.remove (posts_in s ks) t) = ap wait_count is in
      omega arith

-- no more threads wait than there are keys
pub counts-le : (s : Slab Record) (ks : List (ℕ × ℕ)) (n : ℕ) → n ≡ wait_count (posts_in s ks) → IsDistinct nat_eq (keys_of ks) → n ≤ length ks
counts-le s ks n counted distinct =
    let most = count-le waits (posts_in s ks) in
    let len = len-posts s ks distinct in
    omega arith
