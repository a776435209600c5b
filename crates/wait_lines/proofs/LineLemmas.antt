-- What a write to one line leaves, and what joining and leaving keep.
use Rattle.std.specs.Prelude.{◌≡◌, ◌≢◌, ◌⊎◌, ℕ, ◌+◌, ◌<◌, ◌≤◌, Bool, true, false, cond, ◌&&◌, T, List, [], ◌∷◌, ◌++◌, map as list_map, length, sum_by, slice_get, Contains, Option, Some, None}
use Rattle.std.specs.Option.{unwrap_or}
use Rattle.std.specs.Ordering.{nat_cmp, ordering_then, eq_by_cmp, is_eq, is_lt}
use Rattle.std.specs.declared.cmp.Ordering.{Ordering}
use Rattle.std.specs.declared.cmp.Ordering.TheVariants.{Less, Equal, Greater}
use Rattle.std.specs.Cmp.{IsTotalOrder, nat_cmp_total, on_total, then_total, tied_itself, Equal-is}
use Rattle.std.specs.FinMap as map
use Rattle.std.specs.FinMap.{get-entries, get-empty, get-insert, get-remove, entries-insert, entries_sorted, same_map, len-empty, len-entries, nat_cmp-IsAntisymmetric, IsAntisymmetric}
use Rattle.std.specs.FinMap.Entries.{find, put, is_sorted, below_all, by_order}
use Rattle.std.proofs.Common.{refl, sym, ap, ◌∙◌, subst, inl, inr, arith, length-append}
use Rattle.std.proofs.lemmas.Bool.{eqb-true}
use Rattle.std.proofs.lemmas.Option.{same_Some}
use Rattle.std.proofs.lemmas.List.Sums.{sum_by-cons, sum_by-append}
use Rattle.std.proofs.lemmas.List.Elements.{Contains-push_cases, Contains-append_left, Contains-push}
use Rattle.lock_word.specs.declared.ThreadId.{ThreadId}
use Rattle.wait_lines.specs.declared.Role.{Role}
use Rattle.wait_lines.specs.declared.Role.TheVariants.{Entry, Waiting}
use Rattle.wait_lines.specs.Lines.{Key, key, role_number, key_cmp, LineMap, line, with_line, StandsIn, StandsNowhere, is_thread, without, times_in, after_join, after_leave, total_count, IsFilled, Standing, nobody, IsOrderly}
use Rattle.wait_lines.proofs.ThreadLemmas.{same_thread, Contains-cons_first, contains_none, times_in-one, times_in-absent, times_in-present, Contains-without, Contains-without_itself, Contains-without_other, times_in-without, length-without}

-- ---- keys

pub key_cmp_total : IsTotalOrder key_cmp
key_cmp_total = then_total (on_total (λ (k : Key). k.0) nat_cmp_total) (on_total (λ (k : Key). role_number k.1) nat_cmp_total)

pub same_role : (r q : Role) → role_number r ≡ role_number q → r ≡ q
same_role Entry Entry e = refl
same_role Entry Waiting e = absurd (omega arith)
same_role Waiting Entry e = absurd (omega arith)
same_role Waiting Waiting e = refl

both_tie : (a b : Ordering) → ordering_then a b ≡ Equal → (a ≡ Equal) × (b ≡ Equal)
both_tie Less b e = absurd (cc)
both_tie Equal b e = (refl, e)
both_tie Greater b e = absurd (cc)

pub key-same : (m n : ℕ) (r q : Role) → m ≡ n → r ≡ q → key m r ≡ key n q
key-same m n r q same_m same_r = λ i. (same_m i, same_r i)

-- only equal keys tie
pub key_cmp-IsAntisymmetric : IsAntisymmetric key_cmp
key_cmp-IsAntisymmetric x y e =
    let both = both_tie (nat_cmp x.0 y.0) (nat_cmp (role_number x.1) (role_number y.1)) e in
    key-same x.0 y.0 x.1 y.1 (nat_cmp-IsAntisymmetric x.0 y.0 both.0) (same_role x.1 y.1 (nat_cmp-IsAntisymmetric (role_number x.1) (role_number y.1) both.1))

pub key-other_role : (m n : ℕ) (r q : Role) → q ≢ r → key n q ≢ key m r
key-other_role m n r q other e = other (ap (λ (k : Key). k.1) e)

ties_itself : (k : Key) → eq_by_cmp key_cmp k k ≡ true
ties_itself k = ap is_eq (tied_itself key_cmp_total k)

same_if_tied : (k j : Key) → eq_by_cmp key_cmp k j ≡ true → k ≡ j
same_if_tied k j e = key_cmp-IsAntisymmetric k j ((Equal-is (key_cmp k j)).0 e)

other_not_tied : (k j : Key) (b : Bool) → eq_by_cmp key_cmp k j ≡ b → k ≢ j → b ≡ false
other_not_tied k j true e other = absurd (other (same_if_tied k j e))
other_not_tied k j false e other = refl

-- a key is another's or not
pub cases_key : (m n : ℕ) (r q : Role) → (key n q ≡ key m r) ⊎ (key n q ≢ key m r)
cases_key m n r q = by_test (eq_by_cmp key_cmp (key n q) (key m r)) refl
  where
    by_test : (b : Bool) → eq_by_cmp key_cmp (key n q) (key m r) ≡ b → (key n q ≡ key m r) ⊎ (key n q ≢ key m r)
    by_test true e = inl (same_if_tied (key n q) (key m r) e)
    by_test false e = inr (λ same. let yes : eq_by_cmp key_cmp (key n q) (key m r) ≡ true = ap (λ (k : Key). eq_by_cmp key_cmp k (key m r)) same ∙ ties_itself (key m r) in absurd (let no : false ≡ true = sym e ∙ yes in cc))

-- ---- writes

-- what stands in the map for a list
abbrev listed : List ThreadId → Option (List ThreadId)
listed [] = None
listed (t ∷ ts) = Some (t ∷ ts)

unwrap_or-listed : (ts : List ThreadId) → unwrap_or (listed ts) [] ≡ ts
unwrap_or-listed [] = refl
unwrap_or-listed (t ∷ ts) = refl

listed-unwrap_or : (o : Option (List ThreadId)) → o ≢ Some [] → listed (unwrap_or o []) ≡ o
listed-unwrap_or None full = refl
listed-unwrap_or (Some []) full = absurd (full refl)
listed-unwrap_or (Some (t ∷ ts)) full = refl

listed-full : (ts : List ThreadId) → listed ts ≢ Some []
listed-full [] e = absurd (cc)
listed-full (t ∷ ts) e = let h : t ∷ ts ≡ [] = same_Some (t ∷ ts) [] e in absurd (cc)

pub get-with_line : (lines : LineMap) (m : ℕ) (r : Role) (ts : List ThreadId) (k : Key) → map.get (with_line lines m r ts) k ≡ cond (eq_by_cmp key_cmp k (key m r)) (listed ts) (map.get lines k)
get-with_line lines m r [] k = get-remove key_cmp_total lines (key m r) k
get-with_line lines m r (t ∷ ts) k = get-insert key_cmp_total lines (key m r) (t ∷ ts) k

get-with_line_same : (lines : LineMap) (m : ℕ) (r : Role) (ts : List ThreadId) → map.get (with_line lines m r ts) (key m r) ≡ listed ts
get-with_line_same lines m r ts = get-with_line lines m r ts (key m r) ∙ ap (λ b. cond b (listed ts) (map.get lines (key m r))) (ties_itself (key m r))

get-with_line_other : (lines : LineMap) (m : ℕ) (r : Role) (ts : List ThreadId) (k : Key) → k ≢ key m r → map.get (with_line lines m r ts) k ≡ map.get lines k
get-with_line_other lines m r ts k other =
    get-with_line lines m r ts k ∙ ap (λ b. cond b (listed ts) (map.get lines k)) (other_not_tied k (key m r) (eq_by_cmp key_cmp k (key m r)) refl other)

-- the line that was written
pub line-with_line_same : (lines : LineMap) (m : ℕ) (r : Role) (ts : List ThreadId) → line (with_line lines m r ts) m r ≡ ts
line-with_line_same lines m r ts = ap (λ (o : Option (List ThreadId)). unwrap_or o []) (get-with_line_same lines m r ts) ∙ unwrap_or-listed ts

-- another line
pub line-with_line_other : (lines : LineMap) (m n : ℕ) (r q : Role) (ts : List ThreadId) → key n q ≢ key m r → line (with_line lines m r ts) n q ≡ line lines n q
line-with_line_other lines m n r q ts other = ap (λ (o : Option (List ThreadId)). unwrap_or o []) (get-with_line_other lines m r ts (key n q) other)

pub line-empty : (m : ℕ) (r : Role) → line map.empty m r ≡ []
line-empty m r = ap (λ (o : Option (List ThreadId)). unwrap_or o []) (get-empty key_cmp (key m r))

not_listed : (ts : List ThreadId) → None ≡ Some ts → ⊥
not_listed ts e = cc

pub IsFilled-empty : IsFilled map.empty
IsFilled-empty m r e = not_listed [] (sym (get-empty key_cmp (key m r)) ∙ e)

pub IsFilled-with_line : (lines : LineMap) (m : ℕ) (r : Role) (ts : List ThreadId) → IsFilled lines → IsFilled (with_line lines m r ts)
IsFilled-with_line lines m r ts full n q e = at (cases_key m n r q)
  where
    at : (key n q ≡ key m r) ⊎ (key n q ≢ key m r) → ⊥
    at (inl same) = listed-full ts (sym (get-with_line_same lines m r ts) ∙ ap (λ k. map.get (with_line lines m r ts) k) (sym same) ∙ e)
    at (inr other) = full n q (sym (get-with_line_other lines m r ts (key n q) other) ∙ e)

same_options : (o p : Option (List ThreadId)) → o ≢ Some [] → p ≢ Some [] → unwrap_or o [] ≡ unwrap_or p [] → o ≡ p
same_options o p o_full p_full e = sym (listed-unwrap_or o o_full) ∙ ap listed e ∙ listed-unwrap_or p p_full

-- maps with the same lines are equal
pub same_lines : (a b : LineMap) → IsFilled a → IsFilled b → ((m : ℕ) (r : Role) → line a m r ≡ line b m r) → a ≡ b
same_lines a b a_full b_full same =
    same_map key_cmp_total key_cmp-IsAntisymmetric a b (λ k. same_options (map.get a k) (map.get b k) (a_full k.0 k.1) (b_full k.0 k.1) (same k.0 k.1))

written_twice : (b : Bool) (x y z : Option (List ThreadId)) → cond b x (cond b y z) ≡ cond b x z
written_twice true x y z = refl
written_twice false x y z = refl

-- of two writes to a line the later stays
pub with_line-with_line : (lines : LineMap) (m : ℕ) (r : Role) (ts us : List ThreadId) → with_line (with_line lines m r ts) m r us ≡ with_line lines m r us
with_line-with_line lines m r ts us =
    same_map key_cmp_total key_cmp-IsAntisymmetric _ _ (λ k.
    get-with_line (with_line lines m r ts) m r us k
    ∙ ap (λ o. cond (eq_by_cmp key_cmp k (key m r)) (listed us) o) (get-with_line lines m r ts k)
    ∙ written_twice (eq_by_cmp key_cmp k (key m r)) (listed us) (listed ts) (map.get lines k)
    ∙ sym (get-with_line lines m r us k))

-- to write the list that is there changes nothing
pub with_line-line : (lines : LineMap) (m : ℕ) (r : Role) → IsFilled lines → with_line lines m r (line lines m r) ≡ lines
with_line-line lines m r full =
    same_lines _ lines (IsFilled-with_line lines m r (line lines m r) full) full (λ n q. at n q (cases_key m n r q))
  where
    at : (n : ℕ) (q : Role) → (key n q ≡ key m r) ⊎ (key n q ≢ key m r) → line (with_line lines m r (line lines m r)) n q ≡ line lines n q
    at n q (inl same) =
        ap (λ (k : Key). line (with_line lines m r (line lines m r)) k.0 k.1) same
        ∙ line-with_line_same lines m r (line lines m r) ∙ ap (λ (k : Key). line lines k.0 k.1) (sym same)
    at n q (inr other) = line-with_line_other lines m n r q (line lines m r) other

-- ---- how many threads stand in lines

module _ {K : Type 0} (R : K → K → Ordering) (o : IsTotalOrder R) where
  abbrev weight : List (K × List ThreadId) → ℕ
  weight [] = 0
  weight (e ∷ es) = length e.1 + weight es

  sum_by-values : (es : List (K × List ThreadId)) → sum_by length (list_map (λ e. e.1) es) ≡ weight es
  sum_by-values [] = refl
  sum_by-values (e ∷ es) = sum_by-cons length e.1 (list_map (λ x. x.1) es) ∙ ap (λ n. length e.1 + n) (sum_by-values es)

  head_below : (x : K) (e : K × List ThreadId) (es : List (K × List ThreadId)) → T (below_all R x (e ∷ es)) → (R x e.0 ≡ Less) × T (below_all R x es)
  head_below x e es h = at (R x e.0) h
    where
      at : (r : Ordering) → T (is_lt r && below_all R x es) → (r ≡ Less) × T (below_all R x es)
      at Less h = (refl, h)
      at Equal h = absurd h
      at Greater h = absurd h

  head_sorted : (e : K × List ThreadId) (es : List (K × List ThreadId)) → T (is_sorted R (e ∷ es)) → T (below_all R e.0 es) × T (is_sorted R es)
  head_sorted e es h = at (below_all R e.0 es) h
    where
      at : (b : Bool) → T (b && is_sorted R es) → T b × T (is_sorted R es)
      at true h = (tt, h)
      at false h = absurd h

  -- a key below each key of a list is not found in it
  unmet : (q x : K) (es : List (K × List ThreadId)) → ((y : K) → R x y ≡ Less → R q y ≡ Less) → T (below_all R x es) → find R q es ≡ None
  unmet q x [] below h = refl
  unmet q x (e ∷ es) below h =
      let parts = head_below x e es h in
      ap (λ r. cond (is_eq r) (Some e.1) (find R q es)) (below e.0 parts.0) ∙ unmet q x es below parts.1

  weight-put : (k : K) (v : List ThreadId) (es : List (K × List ThreadId)) → T (is_sorted R es) → weight (put R k v es) + length (unwrap_or (find R k es) []) ≡ weight es + length v
  weight-put k v [] h = omega arith
  weight-put k v (e ∷ es) h = at (R k e.0) refl (weight-put k v es (head_sorted e es h).1)
    where
      at : (r : Ordering) → R k e.0 ≡ r → weight (put R k v es) + length (unwrap_or (find R k es) []) ≡ weight es + length v
          → weight (by_order r ((k, v) ∷ e ∷ es) ((e.0, v) ∷ es) (e ∷ put R k v es)) + length (unwrap_or (cond (is_eq r) (Some e.1) (find R k es)) []) ≡ weight (e ∷ es) + length v
      at Less p again =
          let none : find R k es ≡ None = unmet k e.0 es (λ y q. o.trans k e.0 y p q) (head_sorted e es h).0 in rw none (omega arith)
      at Equal p again = omega arith
      at Greater p again = omega arith

total_count-insert : (lines : LineMap) (k : Key) (ts : List ThreadId) → total_count (map.insert lines k ts) + length (unwrap_or (map.get lines k) []) ≡ total_count lines + length ts
total_count-insert lines k ts =
    let before = sum_by-values key_cmp key_cmp_total (map.entries lines) in
    let after = sum_by-values key_cmp key_cmp_total (map.entries (map.insert lines k ts)) ∙ ap (weight key_cmp key_cmp_total) (entries-insert key_cmp_total lines k ts) in
    let found = ap (λ (o : Option (List ThreadId)). length (unwrap_or o [])) (get-entries lines k) in
    let put_in = weight-put key_cmp key_cmp_total k ts (map.entries lines) (entries_sorted lines) in
    omega arith

total_count-remove : (lines : LineMap) (k : Key) → total_count (map.remove lines k) + length (unwrap_or (map.get lines k) []) ≡ total_count lines
total_count-remove lines k =
    let again : map.insert (map.remove lines k) k [] ≡ map.insert lines k [] = same_map key_cmp_total key_cmp-IsAntisymmetric _ _ (λ q.
    get-insert key_cmp_total (map.remove lines k) k [] q
    ∙ ap (λ x. cond (eq_by_cmp key_cmp q k) (Some []) x) (get-remove key_cmp_total lines k q)
    ∙ written_twice (eq_by_cmp key_cmp q k) (Some []) None (map.get lines q)
    ∙ sym (get-insert key_cmp_total lines k [] q)) in
    let gone : map.get (map.remove lines k) k ≡ None = get-remove key_cmp_total lines k k ∙ ap (λ b. cond b None (map.get lines k)) (ties_itself k) in
    let removed : total_count (map.insert lines k []) + 0 ≡ total_count (map.remove lines k) + 0 = rw (again, gone) at (total_count-insert (map.remove lines k) k []) in
    let inserted = total_count-insert lines k [] in
    omega arith

no_entries : (es : List (Key × List ThreadId)) → length es ≡ 0 → sum_by length (list_map (λ e. e.1) es) ≡ 0
no_entries [] e = refl
no_entries (x ∷ es) e = absurd (omega arith)

pub total_count-empty : total_count map.empty ≡ 0
total_count-empty = no_entries (map.entries map.empty) (sym (len-entries map.empty) ∙ len-empty key_cmp (List ThreadId))

-- a write adds the threads that it writes, and takes away those that stood there
pub total_count-with_line : (lines : LineMap) (m : ℕ) (r : Role) (ts : List ThreadId) → total_count (with_line lines m r ts) + length (line lines m r) ≡ total_count lines + length ts
total_count-with_line lines m r [] = let e = total_count-remove lines (key m r) in omega arith
total_count-with_line lines m r (t ∷ ts) = total_count-insert lines (key m r) (t ∷ ts)

-- ---- joining and leaving

-- a line goes by its key
pub line-key : (lines : LineMap) (m n : ℕ) (r q : Role) → key n q ≡ key m r → line lines n q ≡ line lines m r
line-key lines m n r q same = ap (λ (k : Key). line lines k.0 k.1) same

-- who stands in a line after a write stood there before, or was written
line_after : (lines : LineMap) (m n : ℕ) (r q : Role) (ts : List ThreadId) → line (with_line lines m r ts) n q ≡ line lines n q ⊎ ((key n q ≡ key m r) × (line (with_line lines m r ts) n q ≡ ts))
line_after lines m n r q ts = at (cases_key m n r q)
  where
    at : (key n q ≡ key m r) ⊎ (key n q ≢ key m r) → line (with_line lines m r ts) n q ≡ line lines n q ⊎ ((key n q ≡ key m r) × (line (with_line lines m r ts) n q ≡ ts))
    at (inl same) = inr (same, line-key (with_line lines m r ts) m n r q same ∙ line-with_line_same lines m r ts)
    at (inr other) = inl (line-with_line_other lines m n r q ts other)

pub StandsIn-after_join : (lines : LineMap) (t : ThreadId) (m : ℕ) (r : Role) → StandsIn (after_join lines t m r) t m r
StandsIn-after_join lines t m r = subst (λ l. Contains l t) (sym (line-with_line_same lines m r (line lines m r ++ t ∷ []))) (Contains-push (line lines m r) t)

-- who stands in a line after a join stood there before, or is who joined
pub StandsIn-after_join_cases : (lines : LineMap) (t u : ThreadId) (m n : ℕ) (r q : Role) → StandsIn (after_join lines t m r) u n q → StandsIn lines u n q ⊎ ((t ≡ u) × (key n q ≡ key m r))
StandsIn-after_join_cases lines t u m n r q h = at (line_after lines m n r q (line lines m r ++ t ∷ []))
  where
    pushed : key n q ≡ key m r → Contains (line lines m r) u ⊎ (t ≡ u) → StandsIn lines u n q ⊎ ((t ≡ u) × (key n q ≡ key m r))
    pushed same (inl before) = inl (subst (λ l. Contains l u) (sym (line-key lines m n r q same)) before)
    pushed same (inr itself) = inr (itself, same)

    at : line (after_join lines t m r) n q ≡ line lines n q ⊎ ((key n q ≡ key m r) × (line (after_join lines t m r) n q ≡ line lines m r ++ t ∷ [])) → StandsIn lines u n q ⊎ ((t ≡ u) × (key n q ≡ key m r))
    at (inl kept) = inl (subst (λ l. Contains l u) kept h)
    at (inr here) = pushed here.0 (Contains-push_cases (line lines m r) t u (subst (λ l. Contains l u) here.1 h))

-- who stood in a line before a join stands there after it
pub StandsIn-after_join_before : (lines : LineMap) (t u : ThreadId) (m n : ℕ) (r q : Role) → StandsIn lines u n q → StandsIn (after_join lines t m r) u n q
StandsIn-after_join_before lines t u m n r q h = at (line_after lines m n r q (line lines m r ++ t ∷ []))
  where
    at : line (after_join lines t m r) n q ≡ line lines n q ⊎ ((key n q ≡ key m r) × (line (after_join lines t m r) n q ≡ line lines m r ++ t ∷ [])) → StandsIn (after_join lines t m r) u n q
    at (inl kept) = subst (λ l. Contains l u) (sym kept) h
    at (inr here) = subst (λ l. Contains l u) (sym here.1) (Contains-append_left (line lines m r) (t ∷ []) u (subst (λ l. Contains l u) (line-key lines m n r q here.0) h))

-- who stands in a line after a thread left one stood there before
pub StandsIn-after_leave_before : (lines : LineMap) (t u : ThreadId) (m n : ℕ) (r q : Role) → StandsIn (after_leave lines t m r) u n q → StandsIn lines u n q
StandsIn-after_leave_before lines t u m n r q h = at (line_after lines m n r q (without t (line lines m r)))
  where
    at : line (after_leave lines t m r) n q ≡ line lines n q ⊎ ((key n q ≡ key m r) × (line (after_leave lines t m r) n q ≡ without t (line lines m r))) → StandsIn lines u n q
    at (inl kept) = subst (λ l. Contains l u) kept h
    at (inr here) = subst (λ l. Contains l u) (sym (line-key lines m n r q here.0)) (Contains-without t u (line lines m r) (subst (λ l. Contains l u) here.1 h))

-- the others stay where they stood when a thread leaves
pub StandsIn-after_leave : (lines : LineMap) (t u : ThreadId) (m n : ℕ) (r q : Role) → u ≢ t → StandsIn lines u n q → StandsIn (after_leave lines t m r) u n q
StandsIn-after_leave lines t u m n r q other h = at (line_after lines m n r q (without t (line lines m r)))
  where
    at : line (after_leave lines t m r) n q ≡ line lines n q ⊎ ((key n q ≡ key m r) × (line (after_leave lines t m r) n q ≡ without t (line lines m r))) → StandsIn (after_leave lines t m r) u n q
    at (inl kept) = subst (λ l. Contains l u) (sym kept) h
    at (inr here) = subst (λ l. Contains l u) (sym here.1) (Contains-without_other t u (line lines m r) other (subst (λ l. Contains l u) (line-key lines m n r q here.0) h))

-- a thread that left stands nowhere
pub StandsNowhere-after_leave : (s : Standing) (t : ThreadId) (m : ℕ) (r : Role) → IsOrderly s → StandsIn s.lines t m r → StandsNowhere (after_leave s.lines t m r) t
StandsNowhere-after_leave s t m r orderly stands n q h = at (line_after s.lines m n r q (without t (line s.lines m r)))
  where
    gone : (key n q ≡ key m r) → line (after_leave s.lines t m r) n q ≡ without t (line s.lines m r) → ⊥
    gone same e = Contains-without_itself t (line s.lines m r) (subst (λ l. Contains l t) e h)

    at : line (after_leave s.lines t m r) n q ≡ line s.lines n q ⊎ ((key n q ≡ key m r) × (line (after_leave s.lines t m r) n q ≡ without t (line s.lines m r))) → ⊥
    at (inl kept) =
        let there = orderly.one_line t n m q r (subst (λ l. Contains l t) kept h) stands in
        let same = key-same n m q r there.0 there.1 in
        gone same (line-key (after_leave s.lines t m r) m n r q same ∙ line-with_line_same s.lines m r (without t (line s.lines m r)))
    at (inr here) = gone here.0 here.1

-- the first thread of a line stands in it
pub StandsIn-first : (lines : LineMap) (t : ThreadId) (m : ℕ) (r : Role) → slice_get (line lines m r) 0 ≡ Some t → StandsIn lines t m r
StandsIn-first lines t m r e = at (line lines m r) e
  where
    at : (ts : List ThreadId) → slice_get ts 0 ≡ Some t → Contains ts t
    at [] e = absurd (cc)
    at (u ∷ us) e = Contains-cons_first u us t (same_Some u t e)

-- no line is longer than all lines together
pub length-line-le : (lines : LineMap) (m : ℕ) (r : Role) → length (line lines m r) ≤ total_count lines
length-line-le lines m r = let e = total_count-with_line lines m r [] in omega arith

-- one thread more stands in lines
pub total_count-after_join : (lines : LineMap) (t : ThreadId) (m : ℕ) (r : Role) → total_count (after_join lines t m r) ≡ total_count lines + 1
total_count-after_join lines t m r =
    let e = total_count-with_line lines m r (line lines m r ++ t ∷ []) in let l = length-append (line lines m r) (t ∷ []) in omega arith

-- one thread less
pub total_count-after_leave : (s : Standing) (t : ThreadId) (m : ℕ) (r : Role) → IsOrderly s → StandsIn s.lines t m r → total_count (after_leave s.lines t m r) + 1 ≡ total_count s.lines
total_count-after_leave s t m r orderly stands =
    let e = total_count-with_line s.lines m r (without t (line s.lines m r)) in
    let l = length-without t (line s.lines m r) in
    let low = times_in-present t (line s.lines m r) stands in
    let high = orderly.once t m r in
    omega arith

pub IsOrderly-nobody : IsOrderly nobody
IsOrderly-nobody = record {
  one_line = λ t m n r q h k. absurd (contains_none t (subst (λ l. Contains l t) (line-empty m r) h));
  once = λ t m r. rw line-empty (omega arith);
  filled = IsFilled-empty;
  within = let none = total_count-empty in omega arith;
  few = omega arith;
}

pub IsOrderly-reserved : (s : Standing) → IsOrderly s → s.reservations < 32767 → IsOrderly (record s { reservations = s.reservations + 1 })
IsOrderly-reserved s orderly few = record {
  one_line = orderly.one_line;
  once = orderly.once;
  filled = orderly.filled;
  within = let h = orderly.within in omega arith;
  few = omega arith;
}

pub IsOrderly-after_join : (s : Standing) (t : ThreadId) (m : ℕ) (r : Role) → IsOrderly s → StandsNowhere s.lines t → total_count s.lines < s.reservations → IsOrderly (record s { lines = after_join s.lines t m r })
IsOrderly-after_join s t m r orderly nowhere room = record {
  one_line = λ u n p q x h k. one u n p q x (StandsIn-after_join_cases s.lines t u m n r q h) (StandsIn-after_join_cases s.lines t u m p r x k);
  once = λ u n q. at u n q (line_after s.lines m n r q (line s.lines m r ++ t ∷ []));
  filled = IsFilled-with_line s.lines m r (line s.lines m r ++ t ∷ []) orderly.filled;
  within = let e = total_count-after_join s.lines t m r in omega arith;
  few = orderly.few;
}
  where
    one : (u : ThreadId) (n p : ℕ) (q x : Role) → StandsIn s.lines u n q ⊎ ((t ≡ u) × (key n q ≡ key m r)) → StandsIn s.lines u p x ⊎ ((t ≡ u) × (key p x ≡ key m r)) → (n ≡ p) × (q ≡ x)
    one u n p q x (inl h) (inl k) = orderly.one_line u n p q x h k
    one u n p q x (inl h) (inr k) = absurd (nowhere n q (subst (λ v. StandsIn s.lines v n q) (sym k.0) h))
    one u n p q x (inr h) (inl k) = absurd (nowhere p x (subst (λ v. StandsIn s.lines v p x) (sym h.0) k))
    one u n p q x (inr h) (inr k) = (ap (λ (j : Key). j.0) (h.1 ∙ sym k.1), ap (λ (j : Key). j.1) (h.1 ∙ sym k.1))

    pushed : (u : ThreadId) (b : Bool) → is_thread u t ≡ b → times_in u (line s.lines m r ++ t ∷ []) ≤ 1
    pushed u true e =
        let none : times_in u (line s.lines m r) ≡ 0 = times_in-absent u (line s.lines m r) (λ h. nowhere m r (subst (λ v. StandsIn s.lines v m r) (sym (same_thread u t (eqb-true t.0 u.0 e))) h)) in
        let sum = sum_by-append (λ (x : ThreadId). cond (is_thread u x) 1 0) (line s.lines m r) (t ∷ []) in
        let one : times_in u (t ∷ []) ≡ 1 = times_in-one u t ∙ ap (λ c. cond c 1 0) e in
        omega arith
    pushed u false e =
        let before = orderly.once u m r in
        let sum = sum_by-append (λ (x : ThreadId). cond (is_thread u x) 1 0) (line s.lines m r) (t ∷ []) in
        let none : times_in u (t ∷ []) ≡ 0 = times_in-one u t ∙ ap (λ c. cond c 1 0) e in
        omega arith

    at : (u : ThreadId) (n : ℕ) (q : Role) → line (after_join s.lines t m r) n q ≡ line s.lines n q ⊎ ((key n q ≡ key m r) × (line (after_join s.lines t m r) n q ≡ line s.lines m r ++ t ∷ [])) → times_in u (line (after_join s.lines t m r) n q) ≤ 1
    at u n q (inl kept) = subst (λ l. times_in u l ≤ 1) (sym kept) (orderly.once u n q)
    at u n q (inr here) = subst (λ l. times_in u l ≤ 1) (sym here.1) (pushed u (is_thread u t) refl)

pub IsOrderly-after_leave : (s : Standing) (t : ThreadId) (m : ℕ) (r : Role) → IsOrderly s → IsOrderly (record s { lines = after_leave s.lines t m r })
IsOrderly-after_leave s t m r orderly = record {
  one_line = λ u n p q x h k. orderly.one_line u n p q x (StandsIn-after_leave_before s.lines t u m n r q h) (StandsIn-after_leave_before s.lines t u m p r x k);
  once = λ u n q. at u n q (line_after s.lines m n r q (without t (line s.lines m r)));
  filled = IsFilled-with_line s.lines m r (without t (line s.lines m r)) orderly.filled;
  within =
      let e = total_count-with_line s.lines m r (without t (line s.lines m r)) in
      let l = length-without t (line s.lines m r) in
      let h = orderly.within in
      omega arith;
  few = orderly.few;
}
  where
    at : (u : ThreadId) (n : ℕ) (q : Role) → line (after_leave s.lines t m r) n q ≡ line s.lines n q ⊎ ((key n q ≡ key m r) × (line (after_leave s.lines t m r) n q ≡ without t (line s.lines m r))) → times_in u (line (after_leave s.lines t m r) n q) ≤ 1
    at u n q (inl kept) = subst (λ l. times_in u l ≤ 1) (sym kept) (orderly.once u n q)
    at u n q (inr here) =
        let less = times_in-without t u (line s.lines m r) in let before = orderly.once u m r in
        subst (λ l. times_in u l ≤ 1) (sym here.1) (omega arith)
