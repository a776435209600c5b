-- Lines that come one by one.
use Rattle.std.proofs.Common.{◌≡◌, ◌<◌, ◌+◌, ℕ, List, [], ◌∷◌, ◌++◌, length, Bool, true, false, not, ◌&&◌, ◌||◌, ◌==◌, None, Some, refl, sym, ap, ◌∙◌, subst, arith, inl, inr, ◌⊎◌, append-nil, length-append}
use Rattle.std.proofs.lemmas.Bool.{eqb-true, ne_eqb}
use Rattle.text_streams.specs.declared.faults.FileFault.TheVariants as faults
use Rattle.script_text.specs.declared.lines.Line.{Line}
use Rattle.script_text.specs.declared.lines.Line.TheVariants.{Step}
use Rattle.script_text.specs.declared.lines.StepLine.{StepLine}
use Rattle.script_text.specs.Lines.{is_object, next_from, line_at, line_text, may_follow, parts_of, script_text, IsScript}
use Rattle.script_text.specs.LinesSoFar.{IsNoted, may_follow_by, with_object}
use Rattle.script_text.specs.Positions.{HasCome, Position}
use Rattle.script_text.specs.Quick.{BeginsWithLine}
use Rattle.script_text.specs.Scripts.{IsReasonFor}
use Rattle.script_text.proofs.Beginnings.{IsStuck, right_more, text_more, stuck_end, stuck_next}
use Rattle.script_text.proofs.LineLaws.{line_again}
use Rattle.script_text.proofs.ScriptLaws.{parts_of_line}
use Rattle.script_text.proofs.NotedLaws.{follows_note, next_is, next_none, next_refused, noted_more}

follows_came : (bytes : List ℕ) (came : List Line) (names : List (List ℕ)) (position : Position) (l : Line) → HasCome bytes came names position
    → may_follow_by (position.count == 0) position.declaring names l ≡ may_follow came l
follows_came bytes came names position l come =
    ap (λ (n : ℕ). may_follow_by (n == 0) position.declaring names l) come.count ∙ follows_note came position.declaring names l come.noted

pub come_more : (bytes : List ℕ) (came : List Line) (names : List (List ℕ)) (position : Position) (part after : List ℕ) (l : Line) → HasCome bytes came names position
    → Some l ≡ line_at part → may_follow_by (position.count == 0) position.declaring names l ≡ true → parts_of position.rest ≡ part ∷ parts_of after
    → (may_follow came l ≡ true) × HasCome bytes (came ++ l ∷ []) (with_object names l) (record { count = position.count + 1; declaring = position.declaring && (position.count == 0 || is_object l); rest = after })
come_more bytes came names position part after l come at may cut =
    let follows = sym (follows_came bytes came names position l come) ∙ may in
    let next = sym (next_is came part l (sym at) follows) in (
      follows,
      record {
        few = come.few;
        right = right_more came part l next come.right;
        parts = text_more bytes position.rest part after came l come.parts next cut;
        count = ap (λ (n : ℕ). n + 1) come.count ∙ sym (length-append came (l ∷ []));
        noted = subst (λ (n : ℕ). IsNoted (came ++ l ∷ []) (position.declaring && (n == 0 || is_object l)) (with_object names l)) (sym come.count) (noted_more came position.declaring names l come.noted follows);
      },
    )

-- the next line is a step, and its text is there
pub come_step : (bytes : List ℕ) (came : List Line) (names : List (List ℕ)) (position : Position) (after : List ℕ) (s : StepLine) → HasCome bytes came names position
    → BeginsWithLine position.rest (Step s) after → (position.count ≡ 0 → ⊥)
    → (may_follow came (Step s) ≡ true) × HasCome bytes (came ++ Step s ∷ []) names (record { count = position.count + 1; declaring = false; rest = after })
come_step bytes came names position after s come begins some =
    let behind = ne_eqb position.count 0 some in
    let more = come_more bytes came names position (line_text (Step s)) after (Step s) come (sym (line_again (Step s) begins.fits)) (ap not behind)
    (ap parts_of begins.text ∙ parts_of_line (Step s) after begins.fits) in
    (more.0, subst (λ (b : Bool). HasCome bytes (came ++ Step s ∷ []) names (record { count = position.count + 1; declaring = b; rest = after })) (over position.declaring (position.count == 0) behind) more.1)
  where
    over : (declaring first : Bool) → first ≡ false → (declaring && (first || false)) ≡ false
    over true first e = rw e refl
    over false first e = refl

-- what is left begins with no line that may follow
stuck_bad : (bytes : List ℕ) (came : List Line) (names : List (List ℕ)) (position : Position) → HasCome bytes came names position
    → IsStuck came position.rest → 0 < length position.rest ⊎ came ≡ [] → IsReasonFor bytes (faults.BadLine (position.count + 1))
stuck_bad bytes came names position come stuck there =
    (come.few, record { before = came; rest = position.rest; number = ap (λ (n : ℕ). n + 1) come.count; right = come.right; parts = come.parts; there = there; bad = stuck })

none_bad : (bytes : List ℕ) (came : List Line) (names : List (List ℕ)) (position : Position) (part after : List ℕ) → HasCome bytes came names position
    → next_from came part ≡ None → parts_of position.rest ≡ part ∷ parts_of after → length after < length position.rest → IsReasonFor bytes (faults.BadLine (position.count + 1))
none_bad bytes came names position part after come none cut shorter =
    stuck_bad bytes came names position come (stuck_next came part after position.rest none cut) (inl (omega (arith, shorter)))

pub no_line_bad : (bytes : List ℕ) (came : List Line) (names : List (List ℕ)) (position : Position) (part after : List ℕ) → HasCome bytes came names position
    → None ≡ line_at part → parts_of position.rest ≡ part ∷ parts_of after → length after < length position.rest → IsReasonFor bytes (faults.BadLine (position.count + 1))
no_line_bad bytes came names position part after come none cut shorter =
    none_bad bytes came names position part after come (next_none came part (sym none)) cut shorter

pub refused_bad : (bytes : List ℕ) (came : List Line) (names : List (List ℕ)) (position : Position) (part after : List ℕ) (l : Line) → HasCome bytes came names position
    → Some l ≡ line_at part → may_follow_by (position.count == 0) position.declaring names l ≡ false → parts_of position.rest ≡ part ∷ parts_of after → length after < length position.rest
    → IsReasonFor bytes (faults.BadLine (position.count + 1))
refused_bad bytes came names position part after l come at may cut shorter =
    none_bad bytes came names position part after come (next_refused came part l (sym at) (sym (follows_came bytes came names position l come) ∙ may)) cut shorter

pub empty_bad : (bytes : List ℕ) (came : List Line) (names : List (List ℕ)) (position : Position) → HasCome bytes came names position
    → parts_of position.rest ≡ position.rest ∷ [] → position.count ≡ 0 → IsReasonFor bytes (faults.BadLine (position.count + 1))
empty_bad bytes came names position come one none =
    stuck_bad bytes came names position come (stuck_end came position.rest one) (inr (no_lines came (sym come.count ∙ none)))
  where
    no_lines : (xs : List Line) → length xs ≡ 0 → xs ≡ []
    no_lines [] h = refl
    no_lines (x ∷ xs) h = absurd (omega arith)

pub rest_bad : (bytes : List ℕ) (came : List Line) (names : List (List ℕ)) (position : Position) → HasCome bytes came names position
    → parts_of position.rest ≡ position.rest ∷ [] → (length position.rest == 0) ≡ false → IsReasonFor bytes (faults.BadLine (position.count + 1))
rest_bad bytes came names position come one some =
    stuck_bad bytes came names position come (stuck_end came position.rest one) (inl (above position.rest some))
  where
    above : (xs : List ℕ) → (length xs == 0) ≡ false → 0 < length xs
    above [] h = absurd (cc)
    above (x ∷ xs) h = omega arith

pub come_whole : (bytes : List ℕ) (came : List Line) (names : List (List ℕ)) (position : Position) → HasCome bytes came names position
    → (position.count ≡ 0 → ⊥) → (length position.rest == 0) ≡ true → IsScript came × (bytes ≡ script_text came)
come_whole bytes came names position come some none =
    ((some_lines came come.count, come.right), come.parts ∙ ap (λ (xs : List ℕ). script_text came ++ xs) (nil_of position.rest none) ∙ append-nil (script_text came))
  where
    nil_of : (xs : List ℕ) → (length xs == 0) ≡ true → xs ≡ []
    nil_of [] h = refl
    nil_of (x ∷ xs) h = absurd (omega (arith, eqb-true (length (x ∷ xs)) 0 h))

    some_lines : (xs : List Line) → position.count ≡ length xs → 0 < length xs
    some_lines [] h = absurd (some h)
    some_lines (x ∷ xs) h = omega arith
