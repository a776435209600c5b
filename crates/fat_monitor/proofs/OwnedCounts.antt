-- How many monitors a thread owns, and the count that is kept of it.
use Rattle.std.specs.Prelude.{◌≡◌, ◌⊎◌, ℕ, ◌+◌, ◌-◌, ◌<◌, ◌≤◌, ◌==◌, Bool, true, false, not, cond, List, [], ◌∷◌, ◌++◌, length, slice_index_or, slice_set, Option, Some, None, nat_eq, IsSome, is_some}
use Rattle.std.specs.Option.{unwrap_or}
use Rattle.std.specs.Ordering.{nat_cmp}
use Rattle.std.specs.FinMap as map
use Rattle.std.specs.FinMap.{get-empty}
use Rattle.std.proofs.Common.{refl, sym, ap, ◌∙◌, inl, inr, arith}
use Rattle.std.proofs.lemmas.Bool.{cases_eq, eq-eqb, ne_eqb, eqb-true}
use Rattle.std.proofs.lemmas.List.Sums.{sum_by-set, sum_by_push, count_by-le-length}
use Rattle.lock_word.specs.declared.ThreadId.{ThreadId}
use Rattle.wait_lines.proofs.ThreadLemmas.{same_thread}
use Rattle.fat_monitor.specs.declared.monitors.Monitor.{Monitor}
use Rattle.fat_monitor.specs.FatState.{FatState, IsSound, unbound, is_owned_by, owns_one}
use Rattle.slab.specs.Slab.{Slab, get}
use Rattle.std.specs.Map.{lookup}
use Rattle.fat_monitor.specs.declared.posts.Record.{Record}
use Rattle.fat_monitor.specs.Slots.{count_of, one_less, one_more, handed_over, posted_in}
use Rattle.fat_monitor.specs.Fats.{owned_count, AreCounted}
use Rattle.fat_monitor.proofs.Counts.{count-set, count-has, count-none}
use Rattle.fat_monitor.proofs.PostMaps.{get-insert_by, get-remove_by, keyless, value-values_of, no_value-values_of}

abbrev Counts : Type 0
Counts = map.FinMap nat_cmp ℕ

-- one for the owner, nothing for another
abbrev pub share : Option ThreadId → ThreadId → ℕ
share o t = cond (is_owned_by o t) 1 0

-- ---- the count of a thread is that of its record, and none where it has no record

pub count-recorded : (records : Slab Record) (keys : List (ℕ × ℕ)) (t : ThreadId) (key : ℕ) (r : Record) → lookup (nat_eq t.0) keys ≡ Some key → get records key ≡ Some r → count_of (posted_in records keys).owned t ≡ r.owned
count-recorded records keys t key r found there = ap (λ (o : Option ℕ). unwrap_or o 0) (value-values_of (λ r. r.owned) 0 records keys t.0 key r found there)

pub count-unrecorded : (records : Slab Record) (keys : List (ℕ × ℕ)) (t : ThreadId) → lookup (nat_eq t.0) keys ≡ None → count_of (posted_in records keys).owned t ≡ 0
count-unrecorded records keys t absent = ap (λ (o : Option ℕ). unwrap_or o 0) (no_value-values_of (λ r. r.owned) 0 records keys t.0 absent)

-- a thread that owns a monitor has a key
pub counted_key : (records : Slab Record) (keys : List (ℕ × ℕ)) (t : ThreadId) → 0 < count_of (posted_in records keys).owned t → IsSome (lookup (nat_eq t.0) keys)
counted_key records keys t some = at (is_some (lookup (nat_eq t.0) keys)) refl
  where
    at : (b : Bool) → is_some (lookup (nat_eq t.0) keys) ≡ b → IsSome (lookup (nat_eq t.0) keys)
    at true h = h
    at false h = absurd (let none = count-unrecorded records keys t (keyless (lookup (nat_eq t.0) keys) h) in omega (arith, none, some))

-- the count of a thread after a count was written
count-written : (counts : Counts) (u t : ThreadId) (n : ℕ) → count_of (map.insert counts u.0 n) t ≡ cond (u.0 == t.0) n (count_of counts t)
count-written counts u t n = at (cases_eq u.0 t.0)
  where
    at : (u.0 ≡ t.0) ⊎ (u.0 ≡ t.0 → ⊥) → count_of (map.insert counts u.0 n) t ≡ cond (u.0 == t.0) n (count_of counts t)
    at (inl same) = rw (get-insert_by counts u.0 n t.0, eq-eqb t.0 u.0 (sym same), eq-eqb u.0 t.0 same) refl
    at (inr other) = rw (get-insert_by counts u.0 n t.0, ne_eqb t.0 u.0 (λ e. other (sym e)), ne_eqb u.0 t.0 other) refl

count-one_less : (counts : Counts) (o : Option ThreadId) (t : ThreadId) → count_of (one_less counts o) t ≡ count_of counts t - share o t
count-one_less counts None t = omega arith
count-one_less counts (Some u) t = count-written counts u t (count_of counts u - 1) ∙ at (u.0 == t.0) refl
  where
    at : (b : Bool) → (u.0 == t.0) ≡ b → cond b (count_of counts u - 1) (count_of counts t) ≡ count_of counts t - cond b 1 0
    at true e = ap (λ k. unwrap_or (map.get counts k) 0 - 1) (eqb-true u.0 t.0 e)
    at false e = omega arith

count-one_more : (counts : Counts) (o : Option ThreadId) (t : ThreadId) → count_of (one_more counts o) t ≡ count_of counts t + share o t
count-one_more counts None t = omega arith
count-one_more counts (Some u) t = count-written counts u t (count_of counts u + 1) ∙ at (u.0 == t.0) refl
  where
    at : (b : Bool) → (u.0 == t.0) ≡ b → cond b (count_of counts u + 1) (count_of counts t) ≡ count_of counts t + cond b 1 0
    at true e = ap (λ k. unwrap_or (map.get counts k) 0 + 1) (eqb-true u.0 t.0 e)
    at false e = omega arith

-- a count that is not raised past the one that was is no higher
pub count-one_less-le : (counts : Counts) (o : Option ThreadId) (t : ThreadId) → count_of (one_less counts o) t ≤ count_of counts t
count-one_less-le counts o t = let e = count-one_less counts o t in omega arith

-- ---- the monitors that a thread owns

-- after a write of a monitor a thread owns one less where it owned it, and one more where it owns it now
owned_count-set : (ms : List Monitor) (m : ℕ) (b : Monitor) (t : ThreadId) → m < length ms
    → owned_count (slice_set ms m b) t + share (slice_index_or ms m unbound).owner t ≡ owned_count ms t + share b.owner t
owned_count-set ms m b t low = sum_by-set (λ (x : Monitor). share x.owner t) ms m b unbound low

-- a thread that owns a monitor owns at least one
pub owned_count-owner : (ms : List Monitor) (m : ℕ) (t : ThreadId) → m < length ms → share (slice_index_or ms m unbound).owner t ≤ owned_count ms t
owned_count-owner ms m t low = let without : owned_count (slice_set ms m unbound) t + share (slice_index_or ms m unbound).owner t ≡ owned_count ms t + 0 = owned_count-set ms m unbound t low in omega arith

-- a thread owns no more monitors than are bound
pub owned_count-few : (ms : List Monitor) (t : ThreadId) → owned_count ms t ≤ length ms
owned_count-few ms t = count_by-le-length (λ (b : Monitor). is_owned_by b.owner t) ms

-- a thread owns one exactly where it does not own none
pub owns_one-count : (ms : List Monitor) (t : ThreadId) → (owned_count ms t == 0) ≡ not (owns_one ms t)
owns_one-count ms t = count-none (λ (b : Monitor). is_owned_by b.owner t) ms

-- ---- the counts stay right

-- where no thread is attached, none owns a monitor
pub AreCounted-nobody : AreCounted [] map.empty
AreCounted-nobody t = ap (λ o. unwrap_or o 0) (get-empty {X = ℕ} nat_cmp t.0)

-- a monitor went from one owner to another
pub AreCounted-handed_over : (ms : List Monitor) (counts : Counts) (m : ℕ) (b : Monitor) → AreCounted ms counts → m < length ms
    → AreCounted (slice_set ms m b) (handed_over counts (slice_index_or ms m unbound).owner b.owner)
AreCounted-handed_over ms counts m b counted low t =
    let was = counted t in
    let owner = (slice_index_or ms m unbound).owner in
    let less = count-one_less counts owner t in
    let more = count-one_more (one_less counts owner) b.owner t in
    let written = owned_count-set ms m b t low in
    let owned = owned_count-owner ms m t low in
    omega arith

-- a monitor kept its owner
pub AreCounted-kept : (ms : List Monitor) (counts : Counts) (m : ℕ) (b : Monitor) → AreCounted ms counts → m < length ms → b.owner ≡ (slice_index_or ms m unbound).owner
    → AreCounted (slice_set ms m b) counts
AreCounted-kept ms counts m b counted low same t =
    counted t ∙ sym (count-set (λ (x : Monitor). is_owned_by x.owner t) ms m b unbound (ap (λ (o : Option ThreadId). is_owned_by o t) same) low)

-- one monitor more is bound
pub AreCounted-bound : (ms : List Monitor) (counts : Counts) (b : Monitor) → AreCounted ms counts → AreCounted (ms ++ b ∷ []) (handed_over counts None b.owner)
AreCounted-bound ms counts b counted t =
    let was = counted t in
    let more = count-one_more counts b.owner t in
    let pushed : owned_count (ms ++ b ∷ []) t ≡ owned_count ms t + share b.owner t = sum_by_push (λ (x : Monitor). share x.owner t) ms b in
    omega arith

-- one thread more is attached
pub AreCounted-added : (ms : List Monitor) (counts : Counts) (u : ThreadId) → AreCounted ms counts → map.get counts u.0 ≡ None → AreCounted ms (map.insert counts u.0 0)
AreCounted-added ms counts u counted fresh t = count-written counts u t 0 ∙ at (u.0 == t.0) refl ∙ counted t
  where
    at : (b : Bool) → (u.0 == t.0) ≡ b → cond b 0 (count_of counts t) ≡ count_of counts t
    at true e = ap (λ o. unwrap_or o 0) (sym fresh ∙ ap (λ k. map.get counts k) (eqb-true u.0 t.0 e))
    at false e = refl

-- a thread that owns no monitor goes
pub AreCounted-removed : (ms : List Monitor) (counts : Counts) (u : ThreadId) → AreCounted ms counts → owns_one ms u ≡ false → AreCounted ms (map.remove counts u.0)
AreCounted-removed ms counts u counted none t = at (cases_eq u.0 t.0)
  where
    at : (u.0 ≡ t.0) ⊎ (u.0 ≡ t.0 → ⊥) → count_of (map.remove counts u.0) t ≡ owned_count ms t
    at (inl same) =
        let zero : owned_count ms u ≡ 0 = eqb-true (owned_count ms u) 0 (owns_one-count ms u ∙ ap not none) in
        rw (get-remove_by counts u.0 t.0, eq-eqb t.0 u.0 (sym same)) (sym zero ∙ ap (λ x. owned_count ms x) (same_thread t u same))
    at (inr other) = rw (get-remove_by counts u.0 t.0, ne_eqb t.0 u.0 (λ e. other (sym e))) (counted t)

-- ---- what a call that counts asks, and what it leaves

-- the owner of a monitor owns one at least
pub one_owned : (ms : List Monitor) (counts : Counts) (m : ℕ) (t : ThreadId) → AreCounted ms counts → m < length ms → (slice_index_or ms m unbound).owner ≡ Some t → 0 < count_of counts t
one_owned ms counts m t counted low owned =
    let was = counted t in
    let own : is_owned_by (slice_index_or ms m unbound).owner t ≡ true = rw (owned) (eq-eqb t.0 t.0 refl) in
    let least = count-has (λ (b : Monitor). is_owned_by b.owner t) ms m unbound low refl own in
    omega arith

-- no count comes near its end
pub few_owned : (f : FatState) (counts : Counts) (t : ThreadId) → IsSound f → AreCounted f.monitors counts → count_of counts t < 4294967295
few_owned f counts t sound counted =
    let was = counted t in
    let few = owned_count-few f.monitors t in
    let bound = sound.few in
    let limit = sound.limit in
    omega arith

-- a monitor that is written has another owner
pub counted_as : (ms : List Monitor) (counts new_counts : Counts) (m : ℕ) (b : Monitor) (from to : Option ThreadId) → AreCounted ms counts → m < length ms
    → (slice_index_or ms m unbound).owner ≡ from → b.owner ≡ to → new_counts ≡ handed_over counts from to → AreCounted (slice_set ms m b) new_counts
counted_as ms counts new_counts m b from to counted low was is e = rw (e, ← was, ← is) (AreCounted-handed_over ms counts m b counted low)

-- who is taken for the owner is the owner
pub owner_is : (o : Option ThreadId) (t : ThreadId) → is_owned_by o t ≡ true → o ≡ Some t
owner_is None t e = absurd (cc)
owner_is (Some u) t e = ap (λ (x : ThreadId). Some x) (same_thread t u (eqb-true u.0 t.0 e))
