-- The threads of a world's berths.
use Rattle.std.specs.Prelude.{◌≡◌, ◌⊎◌, ℕ, ◌<◌, ◌≤◌, Bool, true, false, List, [], ◌∷◌, ◌++◌, Option, Some, None, length, slice_index_or, Err}
use Rattle.std.specs.List.{Contains, position_from}
use Rattle.std.specs.List.Sorted.{IsStrictlyIncreasing, IsStrictlySortedBy, IsBinarySearchResult, IsSortedBy}
use Rattle.std.specs.Ordering.{nat_cmp, is_lt, MatchOrdering}
use Rattle.std.specs.declared.cmp.Ordering.{Ordering}
use Rattle.std.specs.declared.cmp.Ordering.TheVariants.{Less, Equal, Greater}
use Rattle.std.proofs.Common.{refl, inl, inr, sym, ap, subst, ◌∙◌, arith, zero, suc, ◌+◌, cond, add-one}
use Rattle.std.proofs.lemmas.Bool.{cases_eq, eq-eqb, ne_eqb}
use Rattle.std.proofs.lemmas.Cmp.{ranked, nat_cmp_total}
use Rattle.std.proofs.lemmas.Option.{same_Some}
use Rattle.std.proofs.lemmas.List.{get_or_default}
use Rattle.std.proofs.lemmas.List.Sorted.{searchable_from_sorted}
use Rattle.std.proofs.lemmas.Map.Keys.{sorted_from_strictly_increasing, sorted_head, sorted_tail}
use Rattle.lock_word.specs.declared.ThreadId.{ThreadId}
use Rattle.thread_index.specs.Indices.{berth_of, holder_at, holder_of, is_held_by}
use Rattle.step_core.specs.Machine.{Thread}
use Rattle.step_core.specs.World.{WorldState}
use Rattle.step_core.specs.Shown.{shown, thread_of}
use Rattle.owner_cycles.specs.Rows.{IsIn}
use Rattle.owner_cycles.specs.Threads.{IsLive, Ascend, AreLiveThreads, HaveBerths, threads_numbered, with_holder, thread_at_position}
use Rattle.owner_cycles.proofs.Walks.{all_in, all_from, contains_in, in_push, in_end, in_front}
use Rattle.owner_cycles.proofs.Positions.{in_contains, in_map, from_map, position_in, rises, three_ways}

-- ---- the berths, one after the other

pub berths_more : (berths : List (Option ThreadId)) (k : ℕ) (numbers : List ℕ) (holder : Option ThreadId) → HaveBerths berths k numbers → holder ≡ holder_of berths (k + 1)
    → HaveBerths berths (k + 1) (with_holder numbers holder)
berths_more berths k numbers holder h e = by_holder holder (e ∙ ap (holder_of berths) (add-one k))
  where
    earlier : (j : ℕ) → j < k + 1 → (j ≡ k → ⊥) → j < k
    earlier j below other = omega (arith, below, other)

    by_holder : (o : Option ThreadId) → o ≡ holder_at berths k → HaveBerths berths (k + 1) (with_holder numbers o)
    by_holder None none = record { berthed = h.berthed; all = λ j n below there. by_berth j n below there (cases_eq j k) }
      where
        by_berth : (j n : ℕ) → j < k + 1 → holder_at berths j ≡ Some (record { 0 = n }) → (j ≡ k) ⊎ (j ≡ k → ⊥) → IsIn n numbers
        by_berth j n below there (inl same) =
            let never : ◌≡◌ {A = Option ThreadId} None (Some (record { 0 = n })) = none ∙ ap (holder_at berths) (sym same) ∙ there in absurd (cc)
        by_berth j n below there (inr other) = h.all j n (earlier j below other) there
    by_holder (Some t) one = record { berthed = λ n i. by_number n (in_push n t.0 numbers i); all = λ j n below there. by_berth j n below there (cases_eq j k) }
      where
        by_number : (n : ℕ) → IsIn n numbers ⊎ (n ≡ t.0) → (j : ℕ) × (holder_at berths j ≡ Some (record { 0 = n }))
        by_number n (inl i) = h.berthed n i
        by_number n (inr same) = (k, sym one ∙ ap (λ (m : ℕ). Some (record { 0 = m })) (sym same))

        by_berth : (j n : ℕ) → j < k + 1 → holder_at berths j ≡ Some (record { 0 = n }) → (j ≡ k) ⊎ (j ≡ k → ⊥) → IsIn n (numbers ++ t.0 ∷ [])
        by_berth j n below there (inl same) =
            let thread : ◌≡◌ {A = Option ThreadId} (Some (record { 0 = n })) (Some t) = sym there ∙ ap (holder_at berths) same ∙ sym one in
            let number : n ≡ t.0 = ap (λ (u : ThreadId). u.0) (same_Some (record { 0 = n }) t thread) in
            subst (λ (m : ℕ). IsIn m (numbers ++ t.0 ∷ [])) (sym number) (in_end t.0 numbers)
        by_berth j n below there (inr other) = in_front n t.0 numbers (h.all j n (earlier j below other) there)

-- ---- who has a berth is live

held : (berths : List (Option ThreadId)) (k from : ℕ) (t : ThreadId) → slice_index_or berths k None ≡ Some t → (j : ℕ) × (position_from (λ u. is_held_by u t) from berths ≡ Some j)
held [] k from t e = absurd (cc)
held (x ∷ xs) zero from t e =
    let here : is_held_by x t ≡ true = ap (λ (o : Option ThreadId). is_held_by o t) e ∙ eq-eqb t.0 t.0 refl in
    (from, ap (λ (b : Bool). cond b (Some from) (position_from (λ u. is_held_by u t) (from + 1) xs)) here)
held (x ∷ xs) (suc k) from t e = by_test (is_held_by x t) refl (held xs k (from + 1) t e)
  where
    by_test : (b : Bool) → is_held_by x t ≡ b → (j : ℕ) × (position_from (λ u. is_held_by u t) (from + 1) xs ≡ Some j)
        → (j : ℕ) × (cond (is_held_by x t) (Some from) (position_from (λ u. is_held_by u t) (from + 1) xs) ≡ Some j)
    by_test true h more = (from, ap (λ (b : Bool). cond b (Some from) (position_from (λ u. is_held_by u t) (from + 1) xs)) h)
    by_test false h more = (more.0, ap (λ (b : Bool). cond b (Some from) (position_from (λ u. is_held_by u t) (from + 1) xs)) h ∙ more.1)

holds_it : (x : Option ThreadId) (t : ThreadId) → is_held_by x t ≡ true → x ≡ Some t
holds_it None t h = absurd (cc)
holds_it (Some u) t h = by_number (cases_eq u.0 t.0)
  where
    by_number : (u.0 ≡ t.0) ⊎ (u.0 ≡ t.0 → ⊥) → ◌≡◌ {A = Option ThreadId} (Some u) (Some t)
    by_number (inl same) = ap (λ (n : ℕ). Some (record { 0 = n })) same
    by_number (inr other) = let never : false ≡ true = sym (ne_eqb u.0 t.0 other) ∙ h in absurd (cc)

berthed : (berths : List (Option ThreadId)) (from j : ℕ) (t : ThreadId) → position_from (λ u. is_held_by u t) from berths ≡ Some j
    → (k : ℕ) × (k < length berths) × (slice_index_or berths k None ≡ Some t)
berthed [] from j t e = absurd (cc)
berthed (x ∷ xs) from j t e = by_test (is_held_by x t) refl (λ rest. berthed xs (from + 1) j t rest)
  where
    by_test : (b : Bool) → is_held_by x t ≡ b
        → (position_from (λ u. is_held_by u t) (from + 1) xs ≡ Some j → (k : ℕ) × (k < length xs) × (slice_index_or xs k None ≡ Some t))
        → (k : ℕ) × (k < length (x ∷ xs)) × (slice_index_or (x ∷ xs) k None ≡ Some t)
    by_test true h later = (0, omega arith, holds_it x t h)
    by_test false h later =
        let rest : position_from (λ u. is_held_by u t) (from + 1) xs ≡ Some j = sym (ap (λ (b : Bool). cond b (Some from) (position_from (λ u. is_held_by u t) (from + 1) xs)) h) ∙ e in
        let more = later rest in (suc more.0, omega (arith, more.1), more.2)

live_berth : (w : WorldState) (k : ℕ) (t : ThreadId) → holder_at w.berths k ≡ Some t → IsLive (shown w) t
live_berth w k t e = let h = held w.berths k 0 t e in by_berth (berth_of w.berths t) h.0 h.1
  where
    by_berth : (o : Option ℕ) (j : ℕ) → o ≡ Some j → (x : Thread) × (thread_of w t o ≡ Some x)
    by_berth None j h = absurd (cc)
    by_berth (Some i) j h = (_, refl)

berth_live : (w : WorldState) (t : ThreadId) → IsLive (shown w) t → (k : ℕ) × (k < length w.berths) × (holder_at w.berths k ≡ Some t)
berth_live w t live = by_berth (berth_of w.berths t) refl live
  where
    by_berth : (o : Option ℕ) → berth_of w.berths t ≡ o → (x : Thread) × (thread_of w t o ≡ Some x) → (k : ℕ) × (k < length w.berths) × (holder_at w.berths k ≡ Some t)
    by_berth None there (x, h) = absurd (cc)
    by_berth (Some j) there h = berthed w.berths 0 j t there

-- ---- in order

less : (a b : ℕ) → nat_cmp a b ≡ Less → a < b
less a b e = by_order (nat_cmp a b) e (ranked a b (nat_cmp a b) refl)
  where
    by_order : (o : Ordering) → o ≡ Less → MatchOrdering o (a < b) (a ≡ b) (b < a) → a < b
    by_order Less h r = r
    by_order Equal h r = absurd (cc)
    by_order Greater h r = absurd (cc)

ascend : (numbers : List ℕ) → IsStrictlySortedBy nat_cmp numbers → Ascend (threads_numbered numbers)
ascend [] s = tt
ascend (n ∷ ns) s = (all_from (threads_numbered ns) (λ t i. above t (from_map (λ m. record { 0 = m }) t ns i)), ascend ns (sorted_tail nat_cmp n ns s))
  where
    above : (t : ThreadId) → (m : ℕ) × IsIn m ns × (t ≡ record { 0 = m }) → n < t.0
    above t (m, i, e) = subst (λ (u : ThreadId). n < u.0) (sym e) (less n m (all_in _ m ns (sorted_head nat_cmp n ns s) i))

pub ascend_increasing : (numbers : List ℕ) → IsStrictlyIncreasing numbers → Ascend (threads_numbered numbers)
ascend_increasing numbers rising = ascend numbers (sorted_from_strictly_increasing numbers rising)

pub live_all : (w : WorldState) (before after : List ℕ) (threads : List ThreadId) → HaveBerths w.berths (length w.berths) before → IsStrictlyIncreasing after
    → ((n : ℕ) → Contains before n → Contains after n) → ((n : ℕ) → Contains after n → Contains before n) → threads ≡ threads_numbered after → AreLiveThreads (shown w) threads
live_all w before after threads h rising keeps adds_none e = subst (AreLiveThreads (shown w)) (sym e) (record {
  rising = ascend_increasing after rising;
  live = λ t i. is_live t (from_map (λ m. record { 0 = m }) t after i);
  all = λ t live. is_there t (berth_live w t live);
})
  where
    is_live : (t : ThreadId) → (m : ℕ) × IsIn m after × (t ≡ record { 0 = m }) → IsLive (shown w) t
    is_live t (m, i, same) =
        let there = h.berthed m (in_contains before m (adds_none m (contains_in m after i))) in
        subst (IsLive (shown w)) (sym same) (live_berth w there.0 (record { 0 = m }) there.1)

    is_there : (t : ThreadId) → (k : ℕ) × (k < length w.berths) × (holder_at w.berths k ≡ Some t) → IsIn t (threads_numbered after)
    is_there t (k, below, there) =
        in_map (λ (m : ℕ). record { 0 = m }) t.0 after (in_contains after t.0 (keeps t.0 (contains_in t.0 before (h.all k t.0 below there))))

-- ---- where a thread stands among them

not_less : (a b : ℕ) → b < a → is_lt (nat_cmp a b) ≡ false
not_less a b h = by_order (nat_cmp a b) (ranked a b (nat_cmp a b) refl)
  where
    by_order : (o : Ordering) → MatchOrdering o (a < b) (a ≡ b) (b < a) → is_lt o ≡ false
    by_order Less r = absurd (omega (arith, h, r))
    by_order Equal r = refl
    by_order Greater r = refl

same_not_less : (n : ℕ) → nat_cmp n n ≡ Less → ⊥
same_not_less n e = let below : n < n = less n n e in omega (arith, below)

same_not_greater : (n : ℕ) → nat_cmp n n ≡ Greater → ⊥
same_not_greater n e = by_order (nat_cmp n n) e (ranked n n (nat_cmp n n) refl)
  where
    by_order : (o : Ordering) → o ≡ Greater → MatchOrdering o (n < n) (n ≡ n) (n < n) → ⊥
    by_order Less h r = omega (arith, r)
    by_order Equal h r = absurd (cc)
    by_order Greater h r = omega (arith, r)

pub nowhere : (ts : List ThreadId) (t : ThreadId) (i : ℕ) → Ascend ts → IsBinarySearchResult (λ u. nat_cmp u.0 t.0) ts (Err i) → IsIn t ts → ⊥
nowhere ts t i up found there =
    let position = position_in ts t there in
    let sorted : IsSortedBy (λ (a b : ThreadId). is_lt (nat_cmp a.0 b.0)) ts = λ k d low high. at_position k d high in
    let parts = found (searchable_from_sorted nat_cmp_total (λ (u : ThreadId). u.0) ts t.0 sorted) in
    by_order position.0 position.1 position.2 parts.0 parts.1 (three_ways position.0 i)
  where
    at_position : (k : ℕ) (d : ThreadId) → k + 1 < length ts → is_lt (nat_cmp (slice_index_or ts (k + 1) d).0 (slice_index_or ts k d).0) ≡ false
    at_position k d high =
        let below : (thread_at_position ts k).0 < (thread_at_position ts (k + 1)).0 = rises ts up k (k + 1) (omega arith) high in
        let one : slice_index_or ts (k + 1) d ≡ thread_at_position ts (k + 1) = get_or_default ts (k + 1) d (record { 0 = 0 }) high in
        let other : slice_index_or ts k d ≡ thread_at_position ts k = get_or_default ts k d (record { 0 = 0 }) (omega (arith, high)) in
        rw (one, other) (not_less (thread_at_position ts (k + 1)).0 (thread_at_position ts k).0 below)

    by_order : (k : ℕ) → k < length ts → thread_at_position ts k ≡ t → ((j : ℕ) (d : ThreadId) → 0 ≤ j → j < i → nat_cmp (slice_index_or ts j d).0 t.0 ≡ Less)
        → ((j : ℕ) (d : ThreadId) → i ≤ j → j < length ts → nat_cmp (slice_index_or ts j d).0 t.0 ≡ Greater) → (k < i) ⊎ ((k ≡ i) ⊎ (i < k)) → ⊥
    by_order k within is low high (inl h) = same_not_less t.0 (subst (λ (u : ThreadId). nat_cmp u.0 t.0 ≡ Less) is (low k (record { 0 = 0 }) (omega arith) h))
    by_order k within is low high (inr (inl h)) = same_not_greater t.0 (subst (λ (u : ThreadId). nat_cmp u.0 t.0 ≡ Greater) is (high k (record { 0 = 0 }) (omega (arith, h)) within))
    by_order k within is low high (inr (inr h)) = same_not_greater t.0 (subst (λ (u : ThreadId). nat_cmp u.0 t.0 ≡ Greater) is (high k (record { 0 = 0 }) (omega (arith, h)) within))
