-- The parts of the list of replies that are the threads', and a reply more in one of them.
use native.Mathlib.Omega.{arith}
use Rattle.std.proofs.Common.{◌≡◌, ◌∙◌, ◌⊎◌, inl, inr, sym, ap, refl, subst, ℕ, zero, suc, ◌+◌, ◌-◌, ◌<◌, ◌≤◌, Bool, true, false, nat_le, ◌&&◌, List, [], ◌∷◌, ◌++◌, length, Option, Some, None, take, drop, length-drop}
use Rattle.std.specs.Prelude.{slice_index_or, slice_set}
use Rattle.std.specs.List.{filter_map}
use Rattle.std.proofs.lemmas.Bool.{cases_lt, leb-true}
use Rattle.std.proofs.lemmas.List.{drop-set-add, drop-set-lt, get_or-drop, get_or-take, get_or_default, length-take, take-set-le}
use Rattle.std.proofs.Math.Seq.{take-set-lt}
use Rattle.fat_monitor.specs.declared.actions.Reply.{Reply}
use Rattle.explore.specs.declared.programs.Program.{Program}
use Rattle.explore.specs.Starts.{rise_to}
use Rattle.explore.specs.States.{end_of, start_of}

-- ---- where the parts begin and end

both : (a b : Bool) → (a && b) ≡ true → (a ≡ true) × (b ≡ true)
both true b h = (refl, h)
both false b h = absurd (cc)

-- positions that rise are not below the last one before them, nor past the end
bounded : (last : ℕ) (ss : List ℕ) (end i : ℕ) → rise_to last ss end ≡ true
    → (last ≤ slice_index_or ss i end) × (slice_index_or ss i end ≤ end)
bounded last [] end i h = (leb-true last end h, omega arith)
bounded last (s ∷ ss) end zero h =
    let b = both (nat_le last s) (rise_to s ss end) h in
    let first = leb-true last s b.0 in
    let rest = bounded s ss end 0 b.1 in
    (first, (let x = rest.0 in let y = rest.1 in omega (arith, x, y)))
bounded last (s ∷ ss) end (suc i) h =
    let b = both (nat_le last s) (rise_to s ss end) h in
    let first = leb-true last s b.0 in
    let rest = bounded s ss end i b.1 in
    ((let x = rest.0 in omega (arith, first, x)), rest.1)

rising : (last : ℕ) (ss : List ℕ) (end i j : ℕ) → rise_to last ss end ≡ true → i ≤ j → slice_index_or ss i end ≤ slice_index_or ss j end
rising last [] end i j h le = omega arith
rising last (s ∷ ss) end zero zero h le = omega arith
rising last (s ∷ ss) end zero (suc j) h le = (bounded s ss end j (both (nat_le last s) (rise_to s ss end) h).1).0
rising last (s ∷ ss) end (suc i) zero h le = absurd (omega (arith, le))
rising last (s ∷ ss) end (suc i) (suc j) h le = rising s ss end i j (both (nat_le last s) (rise_to s ss end) h).1 (omega (arith, le))

starts_rise : (p : Program) → rise_to 0 p.starts.items (length p.calls.items) ≡ true
starts_rise p = subst (λ (n : ℕ). rise_to 0 p.starts.items n ≡ true) p.calls.ok.0 p.starts_rise

-- no part is past the list of all calls
pub ends_within : (p : Program) (k : ℕ) → end_of p k ≤ length p.calls.items
ends_within p k = (bounded 0 p.starts.items (length p.calls.items) (k + 1) (starts_rise p)).1

-- the part of a thread ends before that of a later one begins
pub ends_before : (p : Program) (j k : ℕ) → j < k → k < length p.starts.items → end_of p j ≤ start_of p k
ends_before p j k lt within =
    let rises = rising 0 p.starts.items (length p.calls.items) (j + 1) k (starts_rise p) (omega (arith, lt)) in
    let same = get_or_default p.starts.items k (length p.calls.items) 0 within in
    omega (arith, rises, same)

-- ---- a part of a list

abbrev Replies : Type 0
Replies = List (Option Reply)

abbrev pub part : Replies → ℕ → ℕ → Replies
part xs start end = take (end - start) (drop start xs)

-- the replies that are there
abbrev pub there : Replies → List Reply
there xs = filter_map (λ (r : Option Reply). r) xs

-- what is written outside of a part leaves it
pub part_other : (xs : Replies) (start end n : ℕ) (x : Option Reply) → (n < start) ⊎ (end ≤ n)
    → part (slice_set xs n x) start end ≡ part xs start end
part_other xs start end n x (inl lt) = ap (take (end - start)) (drop-set-lt start xs n x lt)
part_other xs start end n x (inr le) = by (cases_lt n start)
  where
    by : (n < start) ⊎ (start ≤ n) → part (slice_set xs n x) start end ≡ part xs start end
    by (inl lt) = ap (take (end - start)) (drop-set-lt start xs n x lt)
    by (inr from) =
        let at : n ≡ start + (n - start) = omega (arith, from) in
        ap (λ (m : ℕ). part (slice_set xs m x) start end) at
        ∙ ap (take (end - start)) (drop-set-add start xs (n - start) x)
        ∙ take-set-le (end - start) (drop start xs) (n - start) x (omega (arith, le, from))

none_there : (xs : Replies) → ((i : ℕ) → i < length xs → slice_index_or xs i None ≡ None) → there xs ≡ []
none_there [] none = refl
none_there (None ∷ xs) none = none_there xs (λ i lt. none (suc i) (omega (arith, lt)))
none_there (Some r ∷ xs) none = absurd (let h = none 0 (omega arith) in cc)

-- a reply more behind all that are there
set_there : (xs : Replies) (n : ℕ) (r : Reply) → n < length xs → ((i : ℕ) → n ≤ i → i < length xs → slice_index_or xs i None ≡ None)
    → there (slice_set xs n (Some r)) ≡ there xs ++ r ∷ []
set_there [] n r lt none = absurd (omega (arith, lt))
set_there (None ∷ xs) zero r lt none =
    let rest = none_there xs (λ i less. none (suc i) (omega arith) (omega (arith, less))) in
    ap (λ (rs : List Reply). r ∷ rs) rest ∙ ap (λ (rs : List Reply). rs ++ r ∷ []) (sym rest)
set_there (Some s ∷ xs) zero r lt none = absurd (let h = none 0 (omega arith) (omega arith) in cc)
set_there (x ∷ xs) (suc n) r lt none = behind x (set_there xs n r (omega (arith, lt)) (λ i le less. none (suc i) (omega (arith, le)) (omega (arith, less))))
  where
    behind : (x : Option Reply) → there (slice_set xs n (Some r)) ≡ there xs ++ r ∷ []
        → there (x ∷ slice_set xs n (Some r)) ≡ there (x ∷ xs) ++ r ∷ []
    behind None h = h
    behind (Some s) h = ap (λ (rs : List Reply). s ∷ rs) h

-- a reply more in a part, behind all that are there
pub part_own : (xs : Replies) (start end n : ℕ) (r : Reply) → start ≤ n → n < end → end ≤ length xs
    → ((i : ℕ) → n ≤ i → i < end → slice_index_or xs i None ≡ None)
    → there (part (slice_set xs n (Some r)) start end) ≡ there (part xs start end) ++ r ∷ []
part_own xs start end n r from lt within none =
    let at : n ≡ start + (n - start) = omega (arith, from) in
    let less : n - start < end - start = omega (arith, from, lt) in
    let dropped = length-drop start xs in
    let taken = length-take (end - start) (drop start xs) in
    let long : length (part xs start end) ≡ end - start = omega (arith, dropped, taken, within) in
    let set : part (slice_set xs n (Some r)) start end ≡ slice_set (part xs start end) (n - start) (Some r) =
    ap (λ (m : ℕ). part (slice_set xs m (Some r)) start end) at
    ∙ ap (take (end - start)) (drop-set-add start xs (n - start) (Some r))
    ∙ take-set-lt (end - start) (drop start xs) (n - start) (Some r) less in
    ap there set ∙ set_there (part xs start end) (n - start) r (omega (arith, less, long)) (λ i le under. later i le (omega (arith, under, long)))
  where
    later : (i : ℕ) → n - start ≤ i → i < end - start → slice_index_or (part xs start end) i None ≡ None
    later i le under =
        get_or-take (end - start) (drop start xs) i None under
        ∙ get_or-drop start xs i None
        ∙ none (start + i) (omega (arith, le, from)) (omega (arith, under))

-- a part in which there is no reply
pub part_none : (xs : Replies) (start end : ℕ) → ((i : ℕ) → slice_index_or xs i None ≡ None) → there (part xs start end) ≡ []
part_none xs start end none =
    let taken = length-take (end - start) (drop start xs) in
    none_there (part xs start end) (λ i lt. nothing i (omega (arith, lt, taken)))
  where
    nothing : (i : ℕ) → i < end - start → slice_index_or (part xs start end) i None ≡ None
    nothing i lt = get_or-take (end - start) (drop start xs) i None lt ∙ get_or-drop start xs i None ∙ none (start + i)
