-- The ends of a program on the Java machine, tallied.
use Rattle.std.proofs.Common.{◌≡◌, ◌∙◌, ap, sym, subst, ℕ, ◌+◌, ◌<◌, List, ◌++◌, length, All, add-one, append_assoc, arith}
use Rattle.history.specs.NameLists.{NameLists}
use Rattle.explore.specs.declared.programs.Program.{Program}
use Rattle.explore_java.specs.JavaFound.{FoundJavaStates}
use Rattle.explore_runs.specs.JavaReports.{AreJavaTallied, JavaEndsAs, java_part, java_parts}
use Rattle.explore_runs.specs.Tallies.{OutcomeTally, tallied, tally_at}
use Rattle.explore_runs.proofs.Tallied.{tallied_below}
use Rattle.explore_runs.proofs.Tallying.{AreTalliedTo}

pub all_java_tallied : (names : NameLists) (p : Program) (f : FoundJavaStates) (n : ℕ) (ts : List OutcomeTally) → n ≡ length f.ends
    → AreTalliedTo (JavaEndsAs names p f) n ts → AreJavaTallied names p f ts
all_java_tallied names p f n ts all h = record {
  texts = h.texts;
  outcomes = record {
    long = h.long ∙ all;
    each = λ i lt. h.each i (omega (arith, lt, all));
  };
  counted = h.counted ∙ ap (λ (k : ℕ). tallied h.texts k) (sym h.long);
}

pub below_java_tallied : (names : NameLists) (p : Program) (f : FoundJavaStates) (ts : List OutcomeTally) → AreJavaTallied names p f ts
    → All (λ t. t.first < length f.ends) ts
below_java_tallied names p f ts h =
    subst (λ (n : ℕ). All (λ t. t.first < n) ts) h.outcomes.long
    (subst (All (λ t. t.first < length h.texts)) (sym h.counted) (tallied_below h.texts (length h.texts)))

-- one part more
pub next_java_part : (p : Program) (f : FoundJavaStates) (ts : List OutcomeTally) (k : ℕ) (t : OutcomeTally) (first now next : List ℕ)
    → tally_at ts k ≡ t → now ≡ first ++ java_parts p f ts k → next ≡ now ++ java_part p f (k + 1) t → next ≡ first ++ java_parts p f ts (k + 1)
next_java_part p f ts k t first now next there said more =
    more
    ∙ ap (λ (l : List ℕ). l ++ java_part p f (k + 1) t) said
    ∙ append_assoc first (java_parts p f ts k) (java_part p f (k + 1) t)
    ∙ ap (λ (u : OutcomeTally). first ++ (java_parts p f ts k ++ java_part p f (k + 1) u)) (sym there)
    ∙ ap (λ (n : ℕ). first ++ java_parts p f ts n) (sym (add-one k))
