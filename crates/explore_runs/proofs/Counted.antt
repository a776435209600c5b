-- An end more in a map.
use Rattle.std.proofs.Common.{◌≡◌, ◌∙◌, refl, sym, ap, subst, ℕ, suc, ◌+◌, ◌<◌, ◌≤◌, Bool, true, false, cond, if◌then◌else◌, List, [], ◌∷◌, All, slice_get, Option, Some, None, string_bytes, arith}
use Rattle.std.proofs.lemmas.List.{get_or-map, length-map}
use Rattle.std.proofs.lemmas.Option.{slice_get_within, get_or_from_slice_get}
use Rattle.std.specs.Prelude.{String}
use Rattle.std.specs.Map.{lookup}
use Rattle.std.specs.String.{string_eq}
use Rattle.std.specs.declared.alloc.Global.{Global}
use Rattle.indexmap.specs.IndexMap.{insert_entry}
use Rattle.explore_runs.specs.declared.tallies.Tally.{Tally}
use Rattle.explore_runs.specs.Tallies.{OutcomeTally, outcome_tallies, outcome_tally, tally_at, with_end}

-- what is noted for a text, by what was found for it
abbrev pub tally_after : Option Tally → ℕ → Tally
tally_after (Some t) at = record { first = t.first; ends = t.ends + 1 }
tally_after None at = record { first = at; ends = 1 }

pub end_counted : (es : List (String Global × Tally)) (text : String Global) (at : ℕ)
    → outcome_tallies (insert_entry string_eq es text (tally_after (lookup (string_eq text) es) at))
    ≡ with_end (outcome_tallies es) (string_bytes text) at
end_counted [] text at = refl
end_counted (e ∷ es) text at = by (end_counted es text at) (string_eq text e.0)
  where
    by : outcome_tallies (insert_entry string_eq es text (tally_after (lookup (string_eq text) es) at))
        ≡ with_end (outcome_tallies es) (string_bytes text) at
        → (b : Bool)
        → outcome_tallies
        (if b then (e.0, tally_after (cond b (Some e.1) (lookup (string_eq text) es)) at) ∷ es
        else e ∷ insert_entry string_eq es text (tally_after (cond b (Some e.1) (lookup (string_eq text) es)) at))
        ≡ (if b then record (outcome_tally e) { ends = e.1.ends + 1 } ∷ outcome_tallies es
        else outcome_tally e ∷ with_end (outcome_tallies es) (string_bytes text) at)
    by rest true = refl
    by rest false = ap (λ (ts : List OutcomeTally). outcome_tally e ∷ ts) rest

-- what is found for a text counts no more ends than all
pub found_few : (es : List (String Global × Tally)) (test : String Global → Bool) (t : Tally) (n : ℕ)
    → All (λ u. u.ends ≤ n) (outcome_tallies es) → Some t ≡ lookup test es → t.ends ≤ n
found_few [] test t n few h = absurd (cc)
found_few (e ∷ es) test t n few h =
    by (found_few es test t n (λ k d lt. few (suc k) d (omega (arith, lt)))) (test e.0) h
  where
    by : (Some t ≡ lookup test es → t.ends ≤ n) → (b : Bool) → Some t ≡ cond b (Some e.1) (lookup test es) → t.ends ≤ n
    by rest true g =
        let same : t ≡ e.1 = cc in
        rw same (few 0 (outcome_tally e) (omega arith))
    by rest false g = rest g

-- what stands at a position
pub tally_there : (es : List (String Global × Tally)) (k : ℕ) (e : String Global × Tally)
    → Some e ≡ slice_get es k → tally_at (outcome_tallies es) k ≡ outcome_tally e
tally_there es k e h =
    get_or-map outcome_tally es k e (record { text = []; first = 0; ends = 0 }) (slice_get_within es k e (sym h))
    ∙ ap outcome_tally (get_or_from_slice_get es k e e (sym h))

pub first_there : (es : List (String Global × Tally)) (k n : ℕ) (e : String Global × Tally)
    → All (λ t. t.first < n) (outcome_tallies es) → Some e ≡ slice_get es k → e.1.first < n
first_there es k n e below h =
    let within = slice_get_within es k e (sym h) in
    let l = length-map es outcome_tally in
    subst (λ (t : OutcomeTally). t.first < n) (tally_there es k e h)
    (below k (record { text = []; first = 0; ends = 0 }) (omega (arith, within, l)))
