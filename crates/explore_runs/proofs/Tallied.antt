-- The tallies of the ends, by the ends that come first with their texts.
use Rattle.std.proofs.Common.{◌≡◌, ◌∙◌, refl, sym, ap, subst, ℕ, zero, suc, ◌+◌, ◌<◌, ◌≤◌, Bool, true, false, not, ◌||◌, if◌then◌else◌, List, [], ◌∷◌, ◌++◌, length, map, All, arith, length-append, append_assoc, add-one}
use Rattle.std.proofs.Math.Nat.{add-zero}
use Rattle.std.proofs.lemmas.List.{append-nil, get_or_append_left, length-map, map-append}
use Rattle.std.proofs.Math.Seq.{get_or-append_seam}
use Rattle.std.proofs.lemmas.List.Elements.{All-map}
use Rattle.std.proofs.lemmas.Slice.Eq.{bytes_eq-Decides}
use Rattle.std.specs.Str.{bytes_eq}
use Rattle.history.specs.NameLists.{NameLists}
use Rattle.explore.specs.declared.programs.Program.{Program}
use Rattle.explore.specs.Found.{FoundStates}
use Rattle.explore_runs.specs.declared.reports.WitnessForm.{WitnessForm}
use Rattle.explore_runs.specs.Reports.{is_among, is_first, outcome_parts, outcomes_among, part_at, text_at, times_among}
use Rattle.explore_runs.specs.Tallies.{OutcomeTally, tallied, tally_at, tally_part, tally_parts, with_end}
use Rattle.explore_runs.proofs.Firsts.{AreApart, both_false, firsts, firsts_apart, firsts_below, firsts_have, has_text, length_firsts, none_times, one_where, times_few}

-- the tally of an end that comes first with its text, among the first ends
abbrev pub tally_of : List (List ℕ) → ℕ → ℕ → OutcomeTally
tally_of texts n i = record { text = text_at texts i; first = i; ends = times_among texts (text_at texts i) n }

-- an end with another text
tally_stays : (texts : List (List ℕ)) (n i : ℕ) → bytes_eq (text_at texts n) (text_at texts i) ≡ false
    → tally_of texts n i ≡ tally_of texts (suc n) i
tally_stays texts n i other =
    let none = ap one_where other in
    let same : times_among texts (text_at texts i) n ≡ times_among texts (text_at texts i) (suc n) = omega (arith, none) in
    ap (λ (k : ℕ). let t : OutcomeTally = record { text = text_at texts i; first = i; ends = k } in t) same

tallies_stay : (texts : List (List ℕ)) (n : ℕ) (is : List ℕ) → has_text texts (text_at texts n) is ≡ false
    → map (tally_of texts n) is ≡ map (tally_of texts (suc n)) is
tallies_stay texts n [] none = refl
tallies_stay texts n (i ∷ is) none =
    let split = both_false (bytes_eq (text_at texts n) (text_at texts i)) (has_text texts (text_at texts n) is) none in
    ap (λ (t : OutcomeTally). t ∷ map (tally_of texts n) is) (tally_stays texts n i split.0)
    ∙ ap (λ (ts : List OutcomeTally). tally_of texts (suc n) i ∷ ts) (tallies_stay texts n is split.1)

-- the tally of an end that is the first with its text
abbrev new_tally : List (List ℕ) → ℕ → OutcomeTally
new_tally texts n = record { text = text_at texts n; first = n; ends = 1 }

with_end_among : (texts : List (List ℕ)) (n : ℕ) (is : List ℕ) → AreApart texts is
    → with_end (map (tally_of texts n) is) (text_at texts n) n
    ≡ map (tally_of texts (suc n)) is ++ (if has_text texts (text_at texts n) is then [] else new_tally texts n ∷ [])
with_end_among texts n [] apart = refl
with_end_among texts n (i ∷ is) apart =
    by (with_end_among texts n is apart.1) (bytes_eq (text_at texts n) (text_at texts i)) refl
  where
    by : with_end (map (tally_of texts n) is) (text_at texts n) n
        ≡ map (tally_of texts (suc n)) is ++ (if has_text texts (text_at texts n) is then [] else new_tally texts n ∷ [])
        → (b : Bool) → bytes_eq (text_at texts n) (text_at texts i) ≡ b
        → (if b then record (tally_of texts n i) { ends = times_among texts (text_at texts i) n + 1 } ∷ map (tally_of texts n) is
        else tally_of texts n i ∷ with_end (map (tally_of texts n) is) (text_at texts n) n)
        ≡ record (tally_of texts n i) { ends = times_among texts (text_at texts i) n + (if b then 1 else 0) }
        ∷ map (tally_of texts (suc n)) is ++ (if b || has_text texts (text_at texts n) is then [] else new_tally texts n ∷ [])
    by rest true e =
        let same : text_at texts n ≡ text_at texts i = (bytes_eq-Decides (text_at texts n) (text_at texts i)).0 e in
        let none : has_text texts (text_at texts n) is ≡ false =
        subst (λ (t : List ℕ). has_text texts t is ≡ false) (sym same) apart.0 in
        ap (λ (ts : List OutcomeTally). record (tally_of texts n i) { ends = times_among texts (text_at texts i) n + 1 } ∷ ts)
        (tallies_stay texts n is none ∙ sym (append-nil (map (tally_of texts (suc n)) is)))
    by rest false e =
        ap (λ (k : ℕ). record (tally_of texts n i) { ends = k } ∷ with_end (map (tally_of texts n) is) (text_at texts n) n)
        (sym (add-zero (times_among texts (text_at texts i) n)))
        ∙ ap (λ (ts : List OutcomeTally). record (tally_of texts n i) { ends = times_among texts (text_at texts i) n + 0 } ∷ ts)
        rest

new_first : (texts : List (List ℕ)) (n : ℕ) → is_among texts (text_at texts n) n ≡ false
    → new_tally texts n ≡ tally_of texts (suc n) n
new_first texts n none =
    let before = none_times texts (text_at texts n) n none in
    let here = ap one_where ((bytes_eq-Decides (text_at texts n) (text_at texts n)).1 refl) in
    let one : 1 ≡ times_among texts (text_at texts n) (suc n) = omega (arith, before, here) in
    ap (λ (k : ℕ). let t : OutcomeTally = record { text = text_at texts n; first = n; ends = k } in t) one

-- the tallies are those of the ends that come first
pub tallied_firsts : (texts : List (List ℕ)) (n : ℕ) → tallied texts n ≡ map (tally_of texts n) (firsts texts n)
tallied_firsts texts zero = refl
tallied_firsts texts (suc n) =
    ap (λ (ts : List OutcomeTally). with_end ts (text_at texts n) n) (tallied_firsts texts n)
    ∙ with_end_among texts n (firsts texts n) (firsts_apart texts n)
    ∙ ap (λ (b : Bool). map (tally_of texts (suc n)) (firsts texts n) ++ (if b then [] else new_tally texts n ∷ []))
    (firsts_have texts (text_at texts n) n)
    ∙ ap (λ (ts : List OutcomeTally). map (tally_of texts (suc n)) (firsts texts n) ++ ts) (by (is_among texts (text_at texts n) n) refl)
    ∙ sym (map-append (tally_of texts (suc n)) (firsts texts n) (if is_first texts n then n ∷ [] else []))
  where
    by : (b : Bool) → is_among texts (text_at texts n) n ≡ b
        → (if b then [] else new_tally texts n ∷ []) ≡ map (tally_of texts (suc n)) (if not b then n ∷ [] else [])
    by true e = refl
    by false e = ap (λ (t : OutcomeTally). t ∷ []) (new_first texts n e)

-- no tally counts more ends than there are
pub tallied_few : (texts : List (List ℕ)) (n : ℕ) → All (λ t. t.ends ≤ n) (tallied texts n)
tallied_few texts n =
    subst (All (λ t. t.ends ≤ n)) (sym (tallied_firsts texts n))
    (All-map (λ t. t.ends ≤ n) (tally_of texts n) (firsts texts n)
    (λ k d lt. times_few texts _ n))

-- and each has the number of one of them
pub tallied_below : (texts : List (List ℕ)) (n : ℕ) → All (λ t. t.first < n) (tallied texts n)
tallied_below texts n =
    subst (All (λ t. t.first < n)) (sym (tallied_firsts texts n))
    (All-map (λ t. t.first < n) (tally_of texts n) (firsts texts n) (firsts_below texts n))

-- the parts of the first tallies are not changed by those that come behind them
parts_before : (form : WitnessForm) (names : NameLists) (p : Program) (f : FoundStates) (ts us : List OutcomeTally) (n : ℕ) → n ≤ length ts
    → tally_parts form names p f (ts ++ us) n ≡ tally_parts form names p f ts n
parts_before form names p f ts us zero le = refl
parts_before form names p f ts us (suc n) le =
    ap (λ (l : List ℕ). l ++ tally_part form names p f (n + 1) (tally_at (ts ++ us) n)) (parts_before form names p f ts us n (omega (arith, le)))
    ∙ ap (λ (t : OutcomeTally). tally_parts form names p f ts n ++ tally_part form names p f (n + 1) t)
    (get_or_append_left ts us (record { text = []; first = 0; ends = 0 }) n (omega (arith, le)))

parts_more : (form : WitnessForm) (names : NameLists) (p : Program) (f : FoundStates) (ts : List OutcomeTally) (t : OutcomeTally)
    → tally_parts form names p f (ts ++ t ∷ []) (suc (length ts)) ≡ tally_parts form names p f ts (length ts) ++ tally_part form names p f (length ts + 1) t
parts_more form names p f ts t =
    ap (λ (l : List ℕ). l ++ tally_part form names p f (length ts + 1) (tally_at (ts ++ t ∷ []) (length ts)))
    (parts_before form names p f ts (t ∷ []) (length ts) (omega arith))
    ∙ ap (λ (u : OutcomeTally). tally_parts form names p f ts (length ts) ++ tally_part form names p f (length ts + 1) u)
    (get_or-append_seam ts t [] (record { text = []; first = 0; ends = 0 }))

-- the parts of a report, by the ends that come first
parts_firsts : (form : WitnessForm) (names : NameLists) (p : Program) (f : FoundStates) (texts : List (List ℕ)) (n : ℕ)
    → outcome_parts form names p f texts n
    ≡ tally_parts form names p f (map (tally_of texts (length texts)) (firsts texts n)) (length (map (tally_of texts (length texts)) (firsts texts n)))
parts_firsts form names p f texts zero = refl
parts_firsts form names p f texts (suc n) = ap (λ (l : List ℕ). l ++ part_at form names p f texts n) (parts_firsts form names p f texts n) ∙ by (is_first texts n)
  where
    by : (b : Bool)
        → tally_parts form names p f (map (tally_of texts (length texts)) (firsts texts n)) (length (map (tally_of texts (length texts)) (firsts texts n)))
        ++ (if b then tally_part form names p f (outcomes_among texts n + 1) (tally_of texts (length texts) n) else [])
        ≡ tally_parts form names p f (map (tally_of texts (length texts)) (firsts texts n ++ (if b then n ∷ [] else [])))
        (length (map (tally_of texts (length texts)) (firsts texts n ++ (if b then n ∷ [] else []))))
    by true =
        let t : OutcomeTally = tally_of texts (length texts) n in
        let ts : List OutcomeTally = map (tally_of texts (length texts)) (firsts texts n) in
        let l = length-append ts (t ∷ []) in
        let long : suc (length ts) ≡ length (ts ++ t ∷ []) = omega (arith, l) in
        ap (λ (k : ℕ). tally_parts form names p f ts (length ts) ++ tally_part form names p f (k + 1) t)
        (sym (length-map (firsts texts n) (tally_of texts (length texts)) ∙ length_firsts texts n))
        ∙ sym (parts_more form names p f ts t)
        ∙ ap (λ (k : ℕ). tally_parts form names p f (ts ++ t ∷ []) k) long
        ∙ ap (λ (us : List OutcomeTally). tally_parts form names p f us (length us))
        (sym (map-append (tally_of texts (length texts)) (firsts texts n) (n ∷ [])))
    by false =
        append-nil (tally_parts form names p f (map (tally_of texts (length texts)) (firsts texts n)) (length (map (tally_of texts (length texts)) (firsts texts n))))
        ∙ ap (λ (is : List ℕ). tally_parts form names p f (map (tally_of texts (length texts)) is) (length (map (tally_of texts (length texts)) is)))
        (sym (append-nil (firsts texts n)))

-- the parts of a report, by the tallies of all ends
pub parts_tallied : (form : WitnessForm) (names : NameLists) (p : Program) (f : FoundStates) (texts : List (List ℕ))
    → outcome_parts form names p f texts (length texts) ≡ tally_parts form names p f (tallied texts (length texts)) (length (tallied texts (length texts)))
parts_tallied form names p f texts =
    parts_firsts form names p f texts (length texts)
    ∙ ap (λ (ts : List OutcomeTally). tally_parts form names p f ts (length ts)) (sym (tallied_firsts texts (length texts)))

-- one part more
pub next_part : (form : WitnessForm) (names : NameLists) (p : Program) (f : FoundStates) (ts : List OutcomeTally) (k : ℕ) (t : OutcomeTally) (first now next : List ℕ)
    → tally_at ts k ≡ t → now ≡ first ++ tally_parts form names p f ts k → next ≡ now ++ tally_part form names p f (k + 1) t
    → next ≡ first ++ tally_parts form names p f ts (k + 1)
next_part form names p f ts k t first now next there said more =
    more
    ∙ ap (λ (l : List ℕ). l ++ tally_part form names p f (k + 1) t) said
    ∙ append_assoc first (tally_parts form names p f ts k) (tally_part form names p f (k + 1) t)
    ∙ ap (λ (u : OutcomeTally). first ++ (tally_parts form names p f ts k ++ tally_part form names p f (k + 1) u)) (sym there)
    ∙ ap (λ (n : ℕ). first ++ tally_parts form names p f ts n) (sym (add-one k))
