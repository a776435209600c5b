-- What walks leave of the numbers that were seen.
use Rattle.std.specs.Prelude.{◌≡◌, ◌⊎◌, ℕ, ◌<◌, Bool, true, false, not, List, [], ◌∷◌, ◌++◌, Option, Some, length, slice_set, count_by}
use Rattle.std.proofs.Common.{inl, inr, sym, subst, ◌∙◌, ◌+◌}
use Rattle.std.proofs.lemmas.Bool.{cases_eq}
use Rattle.std.proofs.lemmas.List.{get_or-set_same, get_or-set_other, length-set}
use Rattle.owner_cycles.specs.Rows.{IsIn, is_seen, IsWay}
use Rattle.owner_cycles.proofs.Walks.{goes_push, distinct_push, in_push, in_end, in_front}

-- ---- one number more

seen_at : (seen : List Bool) (v : ℕ) → v < length seen → is_seen (slice_set seen v true) v ≡ true
seen_at seen v within = get_or-set_same seen v true false within

seen_more : (seen : List Bool) (v u : ℕ) → v < length seen → is_seen seen u ≡ true → is_seen (slice_set seen v true) u ≡ true
seen_more seen v u within h = by_number (cases_eq u v)
  where
    by_number : (u ≡ v) ⊎ (u ≡ v → ⊥) → is_seen (slice_set seen v true) u ≡ true
    by_number (inl same) = subst (λ (n : ℕ). is_seen (slice_set seen v true) n ≡ true) (sym same) (seen_at seen v within)
    by_number (inr other) = get_or-set_other seen v u true false other ∙ h

seen_only : (seen : List Bool) (v u : ℕ) → is_seen (slice_set seen v true) u ≡ true → (is_seen seen u ≡ true) ⊎ (u ≡ v)
seen_only seen v u h = by_number (cases_eq u v)
  where
    by_number : (u ≡ v) ⊎ (u ≡ v → ⊥) → (is_seen seen u ≡ true) ⊎ (u ≡ v)
    by_number (inl same) = inr same
    by_number (inr other) = inl (sym (get_or-set_other seen v u true false other) ∙ h)

pub way_more : (f : ℕ → Option ℕ) (before seen : List Bool) (from : Option ℕ) (path : List ℕ) (v : ℕ) → IsWay f before seen from path (Some v) → v < length seen
    → (is_seen seen v ≡ true → ⊥) → IsWay f before (slice_set seen v true) from (path ++ v ∷ []) (f v)
way_more f before seen from path v w within new = record {
  goes = goes_push f from v path w.goes;
  distinct = distinct_push v path w.distinct (λ i. new (w.marked v i));
  fresh = λ u i h. by_fresh u h (in_push u v path i);
  marked = λ u i. by_marked u (in_push u v path i);
  grown = λ u h. seen_more seen v u within (w.grown u h);
  only = λ u h. by_only u (seen_only seen v u h);
  long = length-set seen v true ∙ w.long;
}
  where
    by_fresh : (u : ℕ) → is_seen before u ≡ true → IsIn u path ⊎ (u ≡ v) → ⊥
    by_fresh u h (inl i) = w.fresh u i h
    by_fresh u h (inr e) = new (subst (λ (n : ℕ). is_seen seen n ≡ true) e (w.grown u h))

    by_marked : (u : ℕ) → IsIn u path ⊎ (u ≡ v) → is_seen (slice_set seen v true) u ≡ true
    by_marked u (inl i) = seen_more seen v u within (w.marked u i)
    by_marked u (inr e) = subst (λ (n : ℕ). is_seen (slice_set seen v true) n ≡ true) (sym e) (seen_at seen v within)

    by_only : (u : ℕ) → (is_seen seen u ≡ true) ⊎ (u ≡ v) → (is_seen before u ≡ true) ⊎ IsIn u (path ++ v ∷ [])
    by_only u (inr e) = inr (subst (λ (n : ℕ). IsIn n (path ++ v ∷ [])) (sym e) (in_end v path))
    by_only u (inl h) = by_old (w.only u h)
      where
        by_old : (is_seen before u ≡ true) ⊎ IsIn u path → (is_seen before u ≡ true) ⊎ IsIn u (path ++ v ∷ [])
        by_old (inl b) = inl b
        by_old (inr i) = inr (in_front u v path i)

-- how many are not seen
abbrev pub unseen : List Bool → ℕ
unseen seen = count_by not seen
