-- The lines at the front that may run, one line more.
use Rattle.std.proofs.Common.{◌≡◌, ◌<◌, ◌≤◌, ◌+◌, ◌==◌, ℕ, zero, suc, List, [], ◌∷◌, ◌++◌, length, take, get_or, if◌then◌else◌, Bool, true, false, refl, sym, ap, ◌∙◌, subst, arith, append-nil, append_assoc}
use Rattle.std.proofs.lemmas.Bool.{ne_eqb}
use Rattle.std.proofs.lemmas.List.{take_more}
use Rattle.script_text.specs.declared.lines.Line.{Line}
use Rattle.live_scripts.specs.Rules.{Runs, attached_threads, attached_in, indices_of, may_run, may_run_with, most_threads}
use Rattle.live_scripts.specs.Running.{IsRunning}

pub attached-append : (xs ys : List Line) → attached_threads (xs ++ ys) ≡ attached_threads xs ++ attached_threads ys
attached-append [] ys = refl
attached-append (x ∷ xs) ys = ap (λ (ns : List (List ℕ)). attached_in x ++ ns) (attached-append xs ys) ∙ sym (append_assoc (attached_in x) (attached_threads xs) (attached_threads ys))

pub Runs-append : (xs ys earlier : List Line) → Runs earlier xs → Runs (earlier ++ xs) ys → Runs earlier (xs ++ ys)
Runs-append [] ys earlier r s = subst (λ (l : List Line). Runs l ys) (append-nil earlier) s
Runs-append (x ∷ xs) ys earlier r s = (r.0, Runs-append xs ys (earlier ++ x ∷ []) r.1 (subst (λ (l : List Line). Runs l ys) (sym (append_assoc earlier (x ∷ []) xs)) s))

get_same : (ls : List Line) (i : ℕ) (d e : Line) → i < length ls → get_or ls i d ≡ get_or ls i e
get_same [] i d e within = absurd (omega (arith, within))
get_same (l ∷ ls) zero d e within = refl
get_same (l ∷ ls) (suc i) d e within = get_same ls i d e (omega (arith, within))

pub threads_more : (ls : List Line) (i : ℕ) (l : Line) (old new : List (List ℕ)) → i < length ls → l ≡ get_or ls i l → old ≡ attached_threads (take i ls) → new ≡ old ++ attached_in l → new ≡ attached_threads (take (i + 1) ls)
threads_more ls i l old new within is so_far more =
    more ∙ ap (λ (ns : List (List ℕ)). ns ++ attached_in l) so_far ∙ ap (λ (x : Line). attached_threads (take i ls) ++ attached_in x) is
    ∙ sym (ap attached_threads (take_more ls i l within) ∙ attached-append (take i ls) (get_or ls i l ∷ []) ∙ ap (λ (ns : List (List ℕ)). attached_threads (take i ls) ++ ns) (append-nil (attached_in (get_or ls i l))))

pub runs_more : (ls : List Line) (i : ℕ) (l : Line) → i < length ls → l ≡ get_or ls i l → Runs [] (take i ls) → may_run (take i ls) l ≡ true → Runs [] (take (i + 1) ls)
runs_more ls i l within is so_far may =
    subst (Runs []) (sym (take_more ls i l within)) (Runs-append (take i ls) (get_or ls i l ∷ []) [] so_far (subst (λ (x : Line). may_run (take i ls) x ≡ true) is may, tt))

pub most_more : (ls : List Line) (i : ℕ) (l : Line) (old : ℕ) → i < length ls → l ≡ get_or ls i l → old ≡ most_threads (take i ls) → (if i == 0 then indices_of l else old) ≡ most_threads (take (i + 1) ls)
most_more [] i l old within is so_far = absurd (omega (arith, within))
most_more (x ∷ ls) zero l old within is so_far = ap indices_of is
most_more (x ∷ ls) (suc i) l old within is so_far = let on : suc i + 1 ≡ suc (i + 1) = omega arith in rw (ne_eqb (suc i) 0 (λ e. omega (arith, e)), on) so_far

pub stuck_at : (ls : List Line) (n : ℕ) (l : Line) → l ≡ get_or ls n l → may_run (take n ls) l ≡ false → (d : Line) → n < length ls → may_run (take n ls) (get_or ls n d) ≡ false
stuck_at ls n l is may d within = subst (λ (x : Line). may_run (take n ls) x ≡ false) (is ∙ get_same ls n l d within) may

pub may_here : (earlier : List Line) (l : Line) (most : ℕ) (threads : List (List ℕ)) (b v : Bool) → most ≡ most_threads earlier → threads ≡ attached_threads earlier → b ≡ may_run_with most threads l → b ≡ v → may_run earlier l ≡ v
may_here earlier l most threads b v m t e is = ap (λ (k : ℕ). may_run_with k (attached_threads earlier) l) (sym m) ∙ ap (λ (ns : List (List ℕ)). may_run_with most ns l) (sym t) ∙ sym e ∙ is

pub running_at : (ls : List Line) (n i : ℕ) (threads : List (List ℕ)) → n ≡ i → i ≤ length ls → Runs [] (take i ls) → threads ≡ attached_threads (take i ls)
    → ((d : Line) → i < length ls → may_run (take i ls) (get_or ls i d) ≡ false) → IsRunning ls n threads
running_at ls n i threads same within runs names stuck =
    subst (λ (k : ℕ). IsRunning ls k threads) (sym same) (record { within = within; runs = runs; attached = names; stuck = stuck })
