-- The numbers of a machine tell it apart.
use Rattle.std.proofs.Common.{◌≡◌, ◌≤◌, ◌<◌, ℕ, zero, suc, Bool, false, List, [], ◌∷◌, ◌++◌, length, ℤ, pos, negsuc, ◌⊎◌}
use Rattle.std.proofs.Common.{get_or, Some, None, refl, sym, ◌∙◌, ap, arith, inl, inr}
use Rattle.std.proofs.lemmas.Bool.{cases_lt}
use Rattle.std.specs.Cmp.{nat_cmp_total}
use Rattle.std.specs.FinMap as map
use Rattle.std.specs.FinMap.{same_map, nat_cmp-IsAntisymmetric}
use Rattle.fat_monitor.specs.declared.actions.Post.{Post}
use Rattle.fat_monitor.specs.declared.actions.Post.TheVariants as post
use Rattle.fat_monitor.specs.Numbers.{truth_number, post_numbers}
use Rattle.fat_monitor.proofs.Fronts.{first, behind}
use Rattle.fat_monitor.proofs.Apart.{IsApart, IsReadBack, read_apart, record_apart, truth_of, truth_back, owner_of, owner_back, regrouped}
use Rattle.fast_path.specs.declared.calls.Call.{Call}
use Rattle.fast_path.specs.declared.calls.Call.TheVariants as call
use Rattle.step_core.specs.declared.machine.Doing.{Doing}
use Rattle.step_core.specs.declared.machine.Doing.TheVariants.{Idle, Wants, Waits, Back, Has}
use Rattle.jls_check.specs.declared.monitors.ObjectRecord.{ObjectRecord}
use Rattle.jls_check.specs.LiveThreads.{LiveThreads}
use Rattle.jls_check.specs.MachineState.{MachineState}
use Rattle.jls_check.specs.Numbers.{call_numbers, doing_numbers, record_numbers, threads_numbers, object_numbers, objects_numbers, numbers_of, AreBelow}

-- ---- a call

abbrev signed_of : ℕ → ℕ → ℤ
signed_of zero n = pos n
signed_of (suc k) n = negsuc n

abbrev wait_from : ℕ → List ℕ → Call × List ℕ
wait_from o ns =
    let more = behind (behind ns) in
    (call.Wait (record { 0 = o }) (signed_of (first ns) (first (behind ns))) (signed_of (first more) (first (behind more))), behind (behind more))

-- what is read behind the number of a call and that of what it names
abbrev call_readers : ℕ → List (List ℕ → Call × List ℕ)
call_readers n =
    (λ ns. (call.Enter (record { 0 = n }), ns))
    ∷ (λ ns. (call.Exit (record { 0 = n }), ns))
    ∷ wait_from n
    ∷ (λ ns. (call.Notify (record { 0 = n }), ns))
    ∷ (λ ns. (call.NotifyAll (record { 0 = n }), ns))
    ∷ (λ ns. (call.Holds (record { 0 = n }), ns))
    ∷ (λ ns. (call.Interrupt (record { 0 = n }), ns))
    ∷ (λ ns. (call.Interrupted, ns))
    ∷ (λ ns. (call.IsInterrupted (record { 0 = n }), ns))
    ∷ (λ ns. (call.End, ns))
    ∷ []

abbrev read_call : List ℕ → Call × List ℕ
read_call ns = (get_or (call_readers (first (behind ns))) (first ns) (wait_from 0)) (behind (behind ns))

call_back : IsReadBack call_numbers read_call
call_back (call.Enter o) rest = refl
call_back (call.Exit o) rest = refl
call_back (call.Wait o (pos m) (pos n)) rest = refl
call_back (call.Wait o (pos m) (negsuc n)) rest = refl
call_back (call.Wait o (negsuc m) (pos n)) rest = refl
call_back (call.Wait o (negsuc m) (negsuc n)) rest = refl
call_back (call.Notify o) rest = refl
call_back (call.NotifyAll o) rest = refl
call_back (call.Holds o) rest = refl
call_back (call.Interrupt t) rest = refl
call_back call.Interrupted rest = refl
call_back (call.IsInterrupted t) rest = refl
call_back call.End rest = refl

pub call_apart : IsApart call_numbers
call_apart = read_apart call_numbers read_call call_back

-- ---- what a thread is doing

-- the post with the numbers of a doing, where that is no wish
abbrev post_for : Doing → Post
post_for Idle = post.Out
post_for (Wants c) = post.Out
post_for (Waits o n d) = post.Waiting o.0 n d
post_for (Back o n w) = post.Back o.0 n w
post_for (Has r) = post.Granted r

abbrev doing_for : Post → Doing
doing_for post.Out = Idle
doing_for (post.Entering m) = Idle
doing_for (post.Waiting m n d) = Waits (record { 0 = m }) n d
doing_for (post.Back m n w) = Back (record { 0 = m }) n w
doing_for (post.Granted r) = Has r

-- it has those numbers, and is told by them
record IsPosted (x : Doing) : Type 0 where
  numbers : doing_numbers x ≡ post_numbers (post_for x)
  told : doing_for (post_for x) ≡ x

posts_apart : (x y : Doing) (a b : List ℕ) → IsPosted x → IsPosted y
    → doing_numbers x ++ a ≡ doing_numbers y ++ b → (x ≡ y) × (a ≡ b)
posts_apart x y a b p q e =
    let moved : post_numbers (post_for x) ++ a ≡ post_numbers (post_for y) ++ b
    = sym (ap (λ (l : List ℕ). l ++ a) p.numbers) ∙ e ∙ ap (λ (l : List ℕ). l ++ b) q.numbers in
    let both = record_apart (false, post_for x) (false, post_for y) a b (ap (λ (l : List ℕ). 0 ∷ l) moved) in
    (sym p.told ∙ ap (λ (r : Bool × Post). doing_for r.1) both.0 ∙ q.told, both.1)

-- a wish begins with another number than anything else
wish_apart : (c : Call) (y : Doing) (a b : List ℕ) → doing_numbers (Wants c) ++ a ≡ doing_numbers y ++ b → (Wants c ≡ y) × (a ≡ b)
wish_apart c Idle a b e = absurd (let h = ap first e in omega arith)
wish_apart c (Wants d) a b e = let both = call_apart c d a b (ap behind e) in (ap Wants both.0, both.1)
wish_apart c (Waits o n d) a b e = absurd (let h = ap first e in omega arith)
wish_apart c (Back o n w) a b e = absurd (let h = ap first e in omega arith)
wish_apart c (Has r) a b e = absurd (let h = ap first e in omega arith)

posted_apart : (x y : Doing) (a b : List ℕ) → IsPosted x → doing_numbers x ++ a ≡ doing_numbers y ++ b → (x ≡ y) × (a ≡ b)
posted_apart x Idle a b p e = posts_apart x Idle a b p (record { numbers = refl; told = refl }) e
posted_apart x (Wants d) a b p e = let both = wish_apart d x b a (sym e) in (sym both.0, sym both.1)
posted_apart x (Waits o n None) a b p e = posts_apart x (Waits o n None) a b p (record { numbers = refl; told = refl }) e
posted_apart x (Waits o n (Some d)) a b p e = posts_apart x (Waits o n (Some d)) a b p (record { numbers = refl; told = refl }) e
posted_apart x (Back o n w) a b p e = posts_apart x (Back o n w) a b p (record { numbers = refl; told = refl }) e
posted_apart x (Has r) a b p e = posts_apart x (Has r) a b p (record { numbers = refl; told = refl }) e

doing_apart : IsApart doing_numbers
doing_apart Idle y a b e = posted_apart Idle y a b (record { numbers = refl; told = refl }) e
doing_apart (Wants c) y a b e = wish_apart c y a b e
doing_apart (Waits o n None) y a b e = posted_apart (Waits o n None) y a b (record { numbers = refl; told = refl }) e
doing_apart (Waits o n (Some d)) y a b e = posted_apart (Waits o n (Some d)) y a b (record { numbers = refl; told = refl }) e
doing_apart (Back o n w) y a b e = posted_apart (Back o n w) y a b (record { numbers = refl; told = refl }) e
doing_apart (Has r) y a b e = posted_apart (Has r) y a b (record { numbers = refl; told = refl }) e

-- ---- the threads

same_flag : (f g : Bool) → truth_number f ≡ truth_number g → f ≡ g
same_flag f g e = sym (truth_back f) ∙ ap truth_of e ∙ truth_back g

record_apart_from : IsApart record_numbers
record_apart_from None None a b e = (refl, ap behind e)
record_apart_from None (Some r) a b e = absurd (let h = ap first e in omega arith)
record_apart_from (Some r) None a b e = absurd (let h = ap first e in omega arith)
record_apart_from (Some r) (Some q) a b e =
    let flag : r.live.flag ≡ q.live.flag = same_flag _ _ (let h = ap first e in omega arith) in
    let owned : r.owned ≡ q.owned = ap first (ap behind e) in
    let act = doing_apart r.live.act q.live.act a b (ap behind (ap behind e)) in
    (λ i. Some (record { live = record { flag = flag i; act = act.0 i }; owned = owned i }), act.1)

-- the threads below a number are the same in both
abbrev AreSameBelow : LiveThreads → LiveThreads → ℕ → Type 0
AreSameBelow l m n = (k : ℕ) → k < n → map.get l k ≡ map.get m k

threads_apart : (l m : LiveThreads) (n : ℕ) (a b : List ℕ) → threads_numbers l n ++ a ≡ threads_numbers m n ++ b → AreSameBelow l m n × (a ≡ b)
threads_apart l m zero a b e = ((λ k h. absurd (omega arith)), e)
threads_apart l m (suc n) a b e =
    let split = regrouped (threads_numbers l n) (record_numbers (map.get l n)) (threads_numbers m n) (record_numbers (map.get m n)) a b e in
    let front = threads_apart l m n _ _ split in
    let last = record_apart_from (map.get l n) (map.get m n) a b front.1 in
    (at front.0 last.0, last.1)
  where
    at : AreSameBelow l m n → map.get l n ≡ map.get m n → AreSameBelow l m (suc n)
    at front last k h = by_case (cases_lt k n)
      where
        by_case : (k < n) ⊎ (n ≤ k) → map.get l k ≡ map.get m k
        by_case (inl lt) = front k lt
        by_case (inr le) = let here : k ≡ n = omega arith in rw here last

-- ---- the objects

object_apart : IsApart object_numbers
object_apart r q a b e =
    let owner : r.held.owner ≡ q.held.owner = sym (owner_back r.held.owner) ∙ ap owner_of (ap first e) ∙ owner_back q.held.owner in
    let count : r.held.count ≡ q.held.count = ap first (ap behind e) in
    let waiting : r.waiting ≡ q.waiting = ap first (ap behind (ap behind e)) in
    (λ i. record { held = record { owner = owner i; count = count i }; waiting = waiting i }, ap behind (ap behind (ap behind e)))

objects_apart : (rs qs : List ObjectRecord) (a b : List ℕ) → length rs ≡ length qs → objects_numbers rs ++ a ≡ objects_numbers qs ++ b → (rs ≡ qs) × (a ≡ b)
objects_apart [] [] a b many e = (refl, e)
objects_apart [] (q ∷ qs) a b many e = absurd (omega arith)
objects_apart (r ∷ rs) [] a b many e = absurd (omega arith)
objects_apart (r ∷ rs) (q ∷ qs) a b many e =
    let split = regrouped (object_numbers r) (objects_numbers rs) (object_numbers q) (objects_numbers qs) a b e in
    let one = object_apart r q _ _ split in
    let more = objects_apart rs qs a b (omega arith) one.1 in
    (λ i. one.0 i ∷ more.0 i, more.1)

-- ---- the machine

pub machines_apart : (n : ℕ) (v w : MachineState) (a b : List ℕ) → AreBelow n v → AreBelow n w
    → numbers_of n v ++ a ≡ numbers_of n w ++ b → (v ≡ w) × (a ≡ b)
machines_apart n v w a b below under e =
    let moment : v.moment ≡ w.moment = ap first e in
    let many : length v.objects ≡ length w.objects = ap first (ap behind e) in
    let split = regrouped (objects_numbers v.objects) (threads_numbers v.threads n) (objects_numbers w.objects) (threads_numbers w.threads n) a b (ap behind (ap behind e)) in
    let objects = objects_apart v.objects w.objects _ _ many split in
    let threads = threads_apart v.threads w.threads n a b objects.1 in
    let same : v.threads ≡ w.threads = same_map nat_cmp_total nat_cmp-IsAntisymmetric _ _ (at threads.0) in
    (λ i. record { threads = same i; objects = objects.0 i; moment = moment i }, threads.1)
  where
    at : AreSameBelow v.threads w.threads n → (k : ℕ) → map.get v.threads k ≡ map.get w.threads k
    at same k = by_case (cases_lt k n)
      where
        by_case : (k < n) ⊎ (n ≤ k) → map.get v.threads k ≡ map.get w.threads k
        by_case (inl lt) = same k lt
        by_case (inr le) = below k le ∙ sym (under k le)
