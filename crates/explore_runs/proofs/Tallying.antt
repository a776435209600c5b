-- The ends of a program, tallied one after the other.
use Rattle.std.proofs.Common.{◌≡◌, ◌⊎◌, inl, inr, ◌∙◌, refl, sym, ap, subst, ℕ, zero, suc, ◌+◌, ◌<◌, ◌≤◌, List, [], ◌∷◌, ◌++◌, length, All, arith, length-append, add-one}
use Rattle.std.proofs.lemmas.Bool.{cases_lt}
use Rattle.std.proofs.lemmas.List.{get_or_append_left}
use Rattle.std.proofs.Math.Seq.{get_or-append_seam}
use Rattle.history.specs.NameLists.{NameLists}
use Rattle.explore.specs.declared.programs.Program.{Program}
use Rattle.explore.specs.Found.{FoundStates}
use Rattle.explore_runs.specs.declared.reports.WitnessForm.{WitnessForm}
use Rattle.explore_runs.specs.Reports.{EndsAs, outcome_parts, text_at}
use Rattle.explore_runs.specs.Tallies.{AreTallied, OutcomeTally, tallied, tally_parts, with_end}
use Rattle.explore_runs.proofs.Tallied.{parts_tallied, tallied_below, tallied_few}

-- These are the outcomes of the first ends, each of which has a text.
pub record AreTalliedTo (Ends : ℕ → List ℕ → Type 0) (n : ℕ) (ts : List OutcomeTally) : Type 0 where
  pub texts : List (List ℕ)
  pub long : length texts ≡ n
  pub each : (i : ℕ) → i < n → Ends i (text_at texts i)
  pub counted : ts ≡ tallied texts n

-- a text more changes none before it
tallied_before : (texts us : List (List ℕ)) (n : ℕ) → n ≤ length texts → tallied (texts ++ us) n ≡ tallied texts n
tallied_before texts us zero le = refl
tallied_before texts us (suc n) le =
    ap (λ (ts : List OutcomeTally). with_end ts (text_at (texts ++ us) n) n) (tallied_before texts us n (omega (arith, le)))
    ∙ ap (λ (t : List ℕ). with_end (tallied texts n) t n) (get_or_append_left texts us [] n (omega (arith, le)))

pub none_tallied : (Ends : ℕ → List ℕ → Type 0) → AreTalliedTo Ends 0 []
none_tallied Ends = record { texts = []; long = refl; each = λ i lt. absurd (omega (arith, lt)); counted = refl }

text_last : (texts : List (List ℕ)) (text : List ℕ) (n : ℕ) → length texts ≡ n → text_at (texts ++ text ∷ []) n ≡ text
text_last texts text n long =
    ap (λ (k : ℕ). text_at (texts ++ text ∷ []) k) (sym long) ∙ get_or-append_seam texts text [] []

each_more : (Ends : ℕ → List ℕ → Type 0) (texts : List (List ℕ)) (text : List ℕ) (n : ℕ) → length texts ≡ n
    → ((i : ℕ) → i < n → Ends i (text_at texts i)) → Ends n text
    → (i : ℕ) → i < n + 1 → Ends i (text_at (texts ++ text ∷ []) i)
each_more Ends texts text n long each new i lt = by (cases_lt i n)
  where
    by : (i < n) ⊎ (n ≤ i) → Ends i (text_at (texts ++ text ∷ []) i)
    by (inl below) =
        subst (Ends i) (sym (get_or_append_left texts (text ∷ []) [] i (omega (arith, below, long)))) (each i below)
    by (inr past) =
        let at : n ≡ i = omega (arith, lt, past) in
        subst (λ (k : ℕ). Ends k (text_at (texts ++ text ∷ []) k)) at
        (subst (Ends n) (sym (text_last texts text n long)) new)

pub one_tallied : (Ends : ℕ → List ℕ → Type 0) (n : ℕ) (ts : List OutcomeTally) (text : List ℕ)
    → AreTalliedTo Ends n ts → Ends n text → AreTalliedTo Ends (n + 1) (with_end ts text n)
one_tallied Ends n ts text h new = record {
  texts = h.texts ++ text ∷ [];
  long = let l = length-append h.texts (text ∷ []) in let long = h.long in omega (arith, l, long);
  each = each_more Ends h.texts text n h.long h.each new;
  counted =
      let long = h.long in
      let le : n ≤ length h.texts = omega (arith, long) in
      ap (λ (us : List OutcomeTally). with_end us text n) (h.counted ∙ sym (tallied_before h.texts (text ∷ []) n le))
      ∙ ap (λ (t : List ℕ). with_end (tallied (h.texts ++ text ∷ []) n) t n) (sym (text_last h.texts text n h.long))
      ∙ ap (λ (k : ℕ). tallied (h.texts ++ text ∷ []) k) (sym (add-one n));
}

pub all_tallied : (names : NameLists) (p : Program) (f : FoundStates) (n : ℕ) (ts : List OutcomeTally) → n ≡ length f.ends → AreTalliedTo (EndsAs names p f) n ts → AreTallied names p f ts
all_tallied names p f n ts all h = record {
  texts = h.texts;
  outcomes = record {
    long = h.long ∙ all;
    each = λ i lt. h.each i (omega (arith, lt, all));
  };
  counted = h.counted ∙ ap (λ (k : ℕ). tallied h.texts k) (sym h.long);
}

pub few_tallied : (Ends : ℕ → List ℕ → Type 0) (n : ℕ) (ts : List OutcomeTally) → AreTalliedTo Ends n ts → All (λ t. t.ends ≤ n) ts
few_tallied Ends n ts h = subst (All (λ t. t.ends ≤ n)) (sym h.counted) (tallied_few h.texts n)

pub below_tallied : (names : NameLists) (p : Program) (f : FoundStates) (ts : List OutcomeTally) → AreTallied names p f ts → All (λ t. t.first < length f.ends) ts
below_tallied names p f ts h =
    subst (λ (n : ℕ). All (λ t. t.first < n) ts) h.outcomes.long
    (subst (All (λ t. t.first < length h.texts)) (sym h.counted) (tallied_below h.texts (length h.texts)))

-- what is written of the outcomes of all ends is what a report says of them
pub tallied_says : (form : WitnessForm) (names : NameLists) (p : Program) (f : FoundStates) (ts : List OutcomeTally) (n : ℕ) (h : AreTallied names p f ts) → n ≡ length ts
    → tally_parts form names p f ts n ≡ outcome_parts form names p f h.texts (length f.ends)
tallied_says form names p f ts n h all =
    ap (λ (k : ℕ). tally_parts form names p f ts k) all
    ∙ ap (λ (us : List OutcomeTally). tally_parts form names p f us (length us)) h.counted
    ∙ sym (parts_tallied form names p f h.texts)
    ∙ ap (λ (k : ℕ). outcome_parts form names p f h.texts k) h.outcomes.long
