-- A first bad line is what reading answers, so there is one at most.
use Rattle.std.proofs.Common.{◌≡◌, ℕ, ◌+◌, ◌<◌, List, [], ◌∷◌, ◌++◌, length, Bool, true, false, ◌&&◌, ◌==◌, nat_lt, if◌then◌else◌, Option, None, Some, Result, Ok, Err, refl, sym, ap, ◌∙◌, arith, inl, inr, ◌⊎◌, append_assoc, append-nil}
use Rattle.std.proofs.lemmas.Bool.{ne_eqb}
use Rattle.script_text.specs.declared.lines.Line.{Line}
use Rattle.script_text.specs.Lines.{next_from, lines_from, may_follow, parts_of, line_text, script_text, Fits, Continues, IsScript, IsFirstBad}
use Rattle.script_text.proofs.Plain.{TailOf, split_tail}
use Rattle.script_text.proofs.ScriptLaws.{takes_next, stops_by, last_part, next_takes, next_again, parts_of_line, whole_part, no_parts, lines_again}

pub walk : (more earlier : List Line) (rest : List ℕ) → Continues earlier more → lines_from earlier (parts_of (script_text more ++ rest)) ≡ lines_from (earlier ++ more) (parts_of rest)
walk [] earlier rest c = ap (λ (l : List Line). lines_from l (parts_of rest)) (sym (append-nil earlier))
walk (l ∷ ls) earlier rest c =
    ap (lines_from earlier) (ap parts_of (append_assoc (line_text l) (10 ∷ script_text ls) rest) ∙ parts_of_line l (script_text ls ++ rest) c.0)
    ∙ takes_next earlier (line_text l) (script_text ls ++ rest) l (next_again earlier l c.0 c.1) ∙ walk ls (earlier ++ l ∷ []) rest c.2
    ∙ ap (λ (e : List Line). lines_from e (parts_of rest)) (append_assoc earlier (l ∷ []) ls)

no_end : (before : List Line) (rest : List ℕ) → 0 < length rest ⊎ before ≡ [] → (length rest == 0 && nat_lt 0 (length before)) ≡ false
no_end before rest (inl some) = ap (λ (b : Bool). b && nat_lt 0 (length before)) (ne_eqb (length rest) 0 (λ e. omega (arith, e, some)))
no_end before rest (inr none) = ap (λ (l : List Line). length rest == 0 && nat_lt 0 (length l)) none ∙ both_no (length rest == 0)
  where
    both_no : (b : Bool) → (b && false) ≡ false
    both_no true = refl
    both_no false = refl

refuses : (before : List Line) (rest part q : List ℕ) (ps : List (List ℕ)) (o : Option Line)
    → ((l : Line) (after : List ℕ) → Fits l → may_follow before l ≡ true → rest ≡ line_text l ++ (10 ∷ after) → ⊥)
    → TailOf 10 rest part q ps → next_from before part ≡ o → o ≡ None
refuses before rest part q ps None bad t e = refl
refuses before rest part q ps (Some l) bad t e =
    let p = next_takes before part l e in
    absurd (bad l t.0 p.0 p.1 (t.1 ∙ ap (λ (x : List ℕ). x ++ (10 ∷ t.0)) p.2))

stops : (parts : List (List ℕ)) (before : List Line) (rest : List ℕ) → 0 < length rest ⊎ before ≡ []
    → ((l : Line) (after : List ℕ) → Fits l → may_follow before l ≡ true → rest ≡ line_text l ++ (10 ∷ after) → ⊥)
    → parts_of rest ≡ parts → lines_from before parts ≡ Err (length before + 1)
stops [] before rest there bad split = no_parts rest _ split
stops (part ∷ []) before rest there bad split =
    last_part before part ∙ ap (λ (b : Bool). if b then Ok before else Err (length before + 1)) (ap (λ (x : List ℕ). length x == 0 && nat_lt 0 (length before)) (whole_part rest part split) ∙ no_end before rest there)
stops (part ∷ q ∷ ps) before rest there bad split =
    stops_by before part q ps (q ∷ ps) (refuses before rest part q ps (next_from before part) bad (split_tail 10 rest part q ps split) refl) refl

pub bad_again : (bs : List ℕ) (n : ℕ) → IsFirstBad bs n → lines_from [] (parts_of bs) ≡ Err n
bad_again bs n b =
    ap (λ (l : List ℕ). lines_from [] (parts_of l)) b.parts ∙ walk b.before [] b.rest b.right ∙ stops (parts_of b.rest) b.before b.rest b.there b.bad refl ∙ ap (λ (k : ℕ). Err k) (sym b.number)

err_same : (m n : ℕ) → ◌≡◌ {A = Result (List Line) ℕ} (Err m) (Err n) → m ≡ n
err_same m n e = cc

-- no bytes have two first bad lines, and none are a script too
pub one_bad : (bs : List ℕ) (m n : ℕ) → IsFirstBad bs m → IsFirstBad bs n → m ≡ n
one_bad bs m n a b = err_same m n (sym (bad_again bs m a) ∙ bad_again bs n b)

ok_no_err : (ls : List Line) (n : ℕ) → Ok ls ≡ Err n → ⊥
ok_no_err ls n e = cc

pub bad_no_script : (bs : List ℕ) (n : ℕ) (ls : List Line) → IsFirstBad bs n → IsScript ls → bs ≡ script_text ls → ⊥
bad_no_script bs n ls b is same = ok_no_err ls n (sym (ap (λ (l : List ℕ). lines_from [] (parts_of l)) same ∙ lines_again ls is) ∙ bad_again bs n b)
