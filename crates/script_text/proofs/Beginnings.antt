-- The longest beginning that keeps the rules, line by line; and a script is one with nothing left.
use Rattle.std.proofs.Common.{◌≡◌, ℕ, ◌+◌, ◌<◌, List, [], ◌∷◌, ◌++◌, length, true, false, ◌==◌, None, Some, option_map, subst, Ok, Err, refl, sym, ap, ◌∙◌, arith, inl, inr, append_assoc}
use Rattle.std.specs.List.{join_with_byte}
use Rattle.std.proofs.lemmas.Bool.{both_ways, lt-ltb, eqb-true, eq-eqb}
use Rattle.std.proofs.lemmas.List.Splits.{join_with_byte-slice_split}
use Rattle.script_text.specs.declared.lines.Line.{Line}
use Rattle.script_text.specs.Lines.{next_from, lines_from, may_follow, parts_of, line_text, script_text, Fits, Continues, IsBeginning}
use Rattle.script_text.proofs.BadLaws.{walk, bad_again}
use Rattle.script_text.proofs.Choices.{mapped}
use Rattle.script_text.proofs.ScriptLaws.{parts_cons, last_part, next_takes, next_again, first_part, one_part, next_follows, Continues-append, script_text-append}

-- no line that may follow begins what is left
abbrev pub IsStuck : List Line → List ℕ → Type 0
IsStuck ls rest = (l : Line) (after : List ℕ) → Fits l → may_follow ls l ≡ true → rest ≡ line_text l ++ (10 ∷ after) → ⊥

none_is_some : (l : Line) → None ≡ Some l → ⊥
none_is_some l e = cc

pub stuck_next : (ls : List Line) (part after rest : List ℕ) → next_from ls part ≡ None → parts_of rest ≡ part ∷ parts_of after → IsStuck ls rest
stuck_next ls part after rest none cut = λ l more fits follows e.
    let p = parts_cons after in
    let same = first_part rest part p.0 p.1 l more (cut ∙ ap (λ (ps : List (List ℕ)). part ∷ ps) p.2) fits e in
    none_is_some l (sym none ∙ ap (next_from ls) same ∙ next_again ls l fits follows)

pub stuck_end : (ls : List Line) (rest : List ℕ) → parts_of rest ≡ rest ∷ [] → IsStuck ls rest
stuck_end ls rest one = λ l more fits follows e. one_part rest rest l more one fits e

cut_text : (part after rest : List ℕ) → parts_of rest ≡ part ∷ parts_of after → rest ≡ part ++ (10 ∷ after)
cut_text part after rest cut = let p = parts_cons after in
    sym (join_with_byte-slice_split 10 rest) ∙ ap (join_with_byte 10) (cut ∙ ap (λ (ps : List (List ℕ)). part ∷ ps) p.2)
    ∙ ap (λ (xs : List ℕ). part ++ (10 ∷ xs)) (ap (join_with_byte 10) (sym p.2) ∙ join_with_byte-slice_split 10 after)

pub right_more : (ls : List Line) (part : List ℕ) (l : Line) → Some l ≡ next_from ls part → Continues [] ls → Continues [] (ls ++ l ∷ [])
right_more ls part l next right = let p = next_takes ls part l (sym next) in
    Continues-append ls (l ∷ []) [] right (p.0, p.1, tt)

pub text_more : (bytes rest part after : List ℕ) (ls : List Line) (l : Line) → bytes ≡ script_text ls ++ rest → Some l ≡ next_from ls part → parts_of rest ≡ part ∷ parts_of after
    → bytes ≡ script_text (ls ++ l ∷ []) ++ after
text_more bytes rest part after ls l text next cut =
    let p = next_takes ls part l (sym next) in
    text ∙ onward (cut_text part after rest cut) p.2
  where
    onward : rest ≡ part ++ (10 ∷ after) → part ≡ line_text l → script_text ls ++ rest ≡ script_text (ls ++ l ∷ []) ++ after
    onward e same = rw (e, same, script_text-append ls (l ∷ [])) (simp append_assoc)

pub right_taken : (ls new : List Line) (part : List ℕ) → option_map (λ l. ls ++ l ∷ []) (next_from ls part) ≡ Some new → Continues [] ls → Continues [] new
right_taken ls new part e right = let m = mapped (λ (l : Line). ls ++ l ∷ []) (next_from ls part) new e in
    subst (Continues []) m.2 (right_more ls part m.0 (sym m.1) right)

pub text_taken : (bytes rest part after : List ℕ) (ls new : List Line) → bytes ≡ script_text ls ++ rest → option_map (λ l. ls ++ l ∷ []) (next_from ls part) ≡ Some new → parts_of rest ≡ part ∷ parts_of after
    → bytes ≡ script_text new ++ after
text_taken bytes rest part after ls new text e cut = let m = mapped (λ (l : Line). ls ++ l ∷ []) (next_from ls part) new e in
    subst (λ (ls : List Line). bytes ≡ script_text ls ++ after) m.2 (text_more bytes rest part after ls m.0 text (sym m.1) cut)

pub beginning : (bytes rest : List ℕ) (ls : List Line) → Continues [] ls → bytes ≡ script_text ls ++ rest → IsStuck ls rest → IsBeginning bytes ls rest
beginning bytes rest ls right text stuck = record { right = right; parts = text; stuck = stuck }

pub ruleset beginning_steps = (stuck_next, stuck_end, beginning, next_follows)

pub beginning_whole : (bytes rest : List ℕ) (ls : List Line) (n : ℕ) → IsBeginning bytes ls rest → n ≡ length ls → (n == 0) ≡ false → (length rest == 0) ≡ true → lines_from [] (parts_of bytes) ≡ Ok ls
beginning_whole bytes rest ls n b same some none =
    ap (λ (bs : List ℕ). lines_from [] (parts_of bs)) b.parts ∙ walk ls [] rest b.right ∙ ap (λ (r : List ℕ). lines_from ls (parts_of r)) (nil_of rest none) ∙ last_part ls [] ∙ rw (lt-ltb 0 (length ls) (above ls same)) refl
  where
    nil_of : (xs : List ℕ) → (length xs == 0) ≡ true → xs ≡ []
    nil_of [] h = refl
    nil_of (x ∷ xs) h = absurd (omega (arith, eqb-true (length (x ∷ xs)) 0 h))

    above : (xs : List Line) → n ≡ length xs → 0 < length xs
    above [] h = absurd (both_ways (n == 0) some (eq-eqb n 0 h))
    above (x ∷ xs) h = omega arith

pub beginning_empty : (bytes rest : List ℕ) (ls : List Line) (n : ℕ) → IsBeginning bytes ls rest → n ≡ length ls → (n == 0) ≡ true → lines_from [] (parts_of bytes) ≡ Err (n + 1)
beginning_empty bytes rest ls n b same none =
    bad_again bytes (n + 1) (record { before = ls; rest = rest; number = ap (λ (k : ℕ). k + 1) same; right = b.right; parts = b.parts; there = inr (no_lines ls (sym same ∙ eqb-true n 0 none)); bad = b.stuck })
  where
    no_lines : (xs : List Line) → length xs ≡ 0 → xs ≡ []
    no_lines [] h = refl
    no_lines (x ∷ xs) h = absurd (omega arith)

pub beginning_bad : (bytes rest : List ℕ) (ls : List Line) (n : ℕ) → IsBeginning bytes ls rest → n ≡ length ls → (length rest == 0) ≡ false → lines_from [] (parts_of bytes) ≡ Err (n + 1)
beginning_bad bytes rest ls n b same some =
    bad_again bytes (n + 1) (record { before = ls; rest = rest; number = ap (λ (k : ℕ). k + 1) same; right = b.right; parts = b.parts; there = inl (above rest some); bad = b.stuck })
  where
    above : (xs : List ℕ) → (length xs == 0) ≡ false → 0 < length xs
    above [] h = absurd (cc)
    above (x ∷ xs) h = omega arith
