-- A script is read exactly where the bytes are its text, and else the first bad line is told.
use Rattle.std.proofs.Common.{◌≡◌, ℕ, ◌+◌, ◌<◌, ◌≤◌, List, [], ◌∷◌, ◌++◌, length, get_or, take, drop, Bool, true, false, ◌&&◌, ◌==◌, if◌then◌else◌, nat_lt, cond, Option, None, Some, Result, Ok, Err, refl, sym, ap, ◌∙◌, subst, arith, inl, inr, ◌⊎◌, append_assoc, append-nil, length-append}
use Rattle.std.specs.List.{join_with_byte, onto_first, position, position_or_len}
use Rattle.std.proofs.lemmas.Bool.{and_parts, and_from, both_ways, ltb-true, ltb-false, lt-ltb, eqb-true, eq-eqb}
use Rattle.std.proofs.lemmas.Option.{cond_some, option_and_then_some}
use Rattle.std.proofs.lemmas.List.Splits.{slice_split_first, slice_split_none, join_with_byte-slice_split}
use Rattle.std.proofs.lemmas.List.Sums.{fails_before_first}
use Rattle.std.proofs.lemmas.List.{take_more}
use Rattle.script_text.specs.declared.lines.Line.{Line}
use Rattle.script_text.specs.Lines.{line_at, next_from, lines_from, may_follow, parts_of, line_text, script_text, Fits, Continues, IsScript, IsFirstBad}
use Rattle.text_streams.specs.declared.faults.FileFault.{FileFault}
use Rattle.text_streams.specs.declared.faults.FileFault.TheVariants as faults
use Rattle.script_text.specs.Scripts.{Fails, IsReasonFor}
use Rattle.script_text.proofs.Choices.{by_cond}
use Rattle.script_text.proofs.LineLaws.{line_takes, line_again, line_printable}
use Rattle.script_text.proofs.Plain.{TailOf, split_at_sep, printable_no_feed, split_tail}

onto_cons : (b : ℕ) (ps : List (List ℕ)) → (q : List ℕ) × (qs : List (List ℕ)) × (onto_first b ps ≡ q ∷ qs)
onto_cons b [] = (b ∷ [], [], refl)
onto_cons b (p ∷ ps) = (b ∷ p, ps, refl)

cond_cons : (t : Bool) (x y : List (List ℕ)) → ((q : List ℕ) × (qs : List (List ℕ)) × (x ≡ q ∷ qs)) → ((q : List ℕ) × (qs : List (List ℕ)) × (y ≡ q ∷ qs))
    → (q : List ℕ) × (qs : List (List ℕ)) × (cond t x y ≡ q ∷ qs)
cond_cons true x y p q = p
cond_cons false x y p q = q

pub parts_cons : (bs : List ℕ) → (q : List ℕ) × (qs : List (List ℕ)) × (parts_of bs ≡ q ∷ qs)
parts_cons [] = ([], [], refl)
parts_cons (b ∷ bs) = cond_cons (b == 10) ([] ∷ parts_of bs) (onto_first b (parts_of bs)) ([], parts_of bs, refl) (onto_cons b (parts_of bs))

-- a line feed: the line before it, and what follows
pub parts_at : (bs : List ℕ) (i : ℕ) → position (λ b. b == 10) bs ≡ Some i → (i < length bs) × (parts_of bs ≡ take i bs ∷ parts_of (drop (i + 1) bs))
parts_at bs i e =
    let found = cond_some (nat_lt (position_or_len (λ b. b == 10) bs) (length bs)) (position_or_len (λ b. b == 10) bs) i e in
    let within = ltb-true (position_or_len (λ b. b == 10) bs) (length bs) found.0 in
    let split = slice_split_first (λ b. b == 10) bs 0 within in
    (subst (λ (k : ℕ). k < length bs) found.1 within, subst (λ (k : ℕ). parts_of bs ≡ take k bs ∷ parts_of (drop (k + 1) bs)) found.1 split)

pub no_feed_left : (bs : List ℕ) → position (λ b. b == 10) bs ≡ None → parts_of bs ≡ bs ∷ []
no_feed_left bs e = slice_split_none (λ b. b == 10) bs (λ k d within. fails_at k d within (le_from e))
  where
    le_from : (if nat_lt (position_or_len (λ b. b == 10) bs) (length bs) then Some (position_or_len (λ b. b == 10) bs) else None) ≡ None → length bs ≤ position_or_len (λ b. b == 10) bs
    le_from e = by_cond (nat_lt (position_or_len (λ b. b == 10) bs) (length bs)) _ _ _ _ e (λ _ wrong. absurd (cc)) (λ f _. ltb-false (position_or_len (λ b. b == 10) bs) (length bs) f)

    fails_at : (k d : ℕ) → k < length bs → length bs ≤ position_or_len (λ b. b == 10) bs → (get_or bs k d == 10) ≡ false
    fails_at k d within le = fails_before_first (λ b. b == 10) bs k d (omega (arith, within, le))

goes_by : (earlier : List Line) (part q : List ℕ) (qs parts : List (List ℕ)) (l : Line) → next_from earlier part ≡ Some l → parts ≡ q ∷ qs
    → lines_from earlier (part ∷ parts) ≡ lines_from (earlier ++ l ∷ []) parts
unfolding lines_from
goes_by earlier part q qs parts l e same = rw (same, e) refl

pub takes_next : (earlier : List Line) (part bs : List ℕ) (l : Line) → next_from earlier part ≡ Some l → lines_from earlier (part ∷ parts_of bs) ≡ lines_from (earlier ++ l ∷ []) (parts_of bs)
takes_next earlier part bs l e = let p = parts_cons bs in goes_by earlier part p.0 p.1 (parts_of bs) l e p.2

pub stops_by : (earlier : List Line) (part q : List ℕ) (qs parts : List (List ℕ)) → next_from earlier part ≡ None → parts ≡ q ∷ qs → lines_from earlier (part ∷ parts) ≡ Err (length earlier + 1)
unfolding lines_from
stops_by earlier part q qs parts e same = rw (same, e) refl

pub stops_next : (earlier : List Line) (part bs : List ℕ) → next_from earlier part ≡ None → lines_from earlier (part ∷ parts_of bs) ≡ Err (length earlier + 1)
stops_next earlier part bs e = let p = parts_cons bs in stops_by earlier part p.0 p.1 (parts_of bs) e p.2

pub last_part : (earlier : List Line) (part : List ℕ) → lines_from earlier (part ∷ []) ≡ (if length part == 0 && nat_lt 0 (length earlier) then Ok earlier else Err (length earlier + 1))
unfolding lines_from
last_part earlier part = refl

-- the next line, read and written
pub next_takes : (earlier : List Line) (part : List ℕ) (l : Line) → next_from earlier part ≡ Some l → Fits l × (may_follow earlier l ≡ true) × (part ≡ line_text l)
unfolding next_from
next_takes earlier part l e =
    option_and_then_some (λ l. if may_follow earlier l then Some l else None) (line_at part) l e
    (λ m at chose. let c = cond_some (may_follow earlier m) m l chose in
    let p = line_takes part m at in
    subst (λ (l : Line). Fits l × (may_follow earlier l ≡ true) × (part ≡ line_text l)) c.1 (p.0, c.0, p.1))

pub next_again : (earlier : List Line) (l : Line) → Fits l → may_follow earlier l ≡ true → next_from earlier (line_text l) ≡ Some l
unfolding next_from
next_again earlier l fits follows = rw (line_again l fits, follows) refl

pub parts_of_line : (l : Line) (after : List ℕ) → Fits l → parts_of (line_text l ++ 10 ∷ after) ≡ line_text l ∷ parts_of after
parts_of_line l after fits = split_at_sep 10 (line_text l) after (printable_no_feed (line_text l) (line_printable l fits))

-- ---- what is read is written so

abbrev Took : List Line → List ℕ → List Line → Type 0
Took earlier bs ls = (more : List Line) × (ls ≡ earlier ++ more) × Continues earlier more × (bs ≡ script_text more) × (0 < length ls)

took_one : (earlier : List Line) (bs part rest : List ℕ) (l : Line) (ls : List Line) → Fits l → may_follow earlier l ≡ true → part ≡ line_text l → bs ≡ part ++ 10 ∷ rest
    → Took (earlier ++ l ∷ []) rest ls → Took earlier bs ls
took_one earlier bs part rest l ls fits follows text cut t =
    (l ∷ t.0, t.1 ∙ append_assoc earlier (l ∷ []) t.0, (fits, follows, t.2), cut ∙ joined part (line_text l) rest (script_text t.0) text t.3, t.4)
  where
    joined : (p q r s : List ℕ) → p ≡ q → r ≡ s → p ++ 10 ∷ r ≡ q ++ 10 ∷ s
    joined p q r s e f = rw (e, f) refl

took_end : (earlier : List Line) (part : List ℕ) (ls : List Line) → (if length part == 0 && nat_lt 0 (length earlier) then Ok earlier else Err (length earlier + 1)) ≡ Ok ls → Took earlier part ls
took_end earlier part ls e =
    by_cond (length part == 0 && nat_lt 0 (length earlier)) _ _ _ _ e
    (λ tests same. let t = and_parts (length part == 0) _ tests in
    let all : earlier ≡ ls = cc in
    ([], sym all ∙ sym (append-nil earlier), tt, is_nil part (eqb-true _ _ t.0), subst (λ (l : List Line). 0 < length l) all (ltb-true 0 (length earlier) t.1)))
    (λ _ wrong. absurd (cc))
  where
    is_nil : (xs : List ℕ) → length xs ≡ 0 → xs ≡ []
    is_nil [] h = refl
    is_nil (x ∷ xs) h = absurd (omega arith)

pub whole_part : (bs part : List ℕ) → parts_of bs ≡ part ∷ [] → part ≡ bs
whole_part bs part split = sym (ap (join_with_byte 10) split) ∙ join_with_byte-slice_split 10 bs

take_some : (earlier : List Line) (bs part q : List ℕ) (ps : List (List ℕ)) (ls : List Line) (o : Option Line) → next_from earlier part ≡ o → lines_from earlier (part ∷ q ∷ ps) ≡ Ok ls
    → TailOf 10 bs part q ps
    → ((l : Line) (rest : List ℕ) → parts_of rest ≡ q ∷ ps → lines_from (earlier ++ l ∷ []) (q ∷ ps) ≡ Ok ls → Took (earlier ++ l ∷ []) rest ls) → Took earlier bs ls
take_some earlier bs part q ps ls None next e t more =
    let stopped = stops_by earlier part q ps (q ∷ ps) next refl in
    absurd (ok_is_no_err ls (length earlier + 1) (sym e ∙ stopped))
  where
    ok_is_no_err : (ls : List Line) (n : ℕ) → Ok ls ≡ Err n → ⊥
    ok_is_no_err ls n e = cc
take_some earlier bs part q ps ls (Some l) next e t more =
    let p = next_takes earlier part l next in
    took_one earlier bs part t.0 l ls p.0 p.1 p.2 t.1 (more l t.0 t.2 (sym (goes_by earlier part q ps (q ∷ ps) l next refl) ∙ e))

pub no_parts : (bs : List ℕ) (P : Type 0) → parts_of bs ≡ [] → P
no_parts bs P split = let p = parts_cons bs in none_here p.0 p.1 (sym p.2 ∙ split)
  where
    none_here : (q : List ℕ) (qs : List (List ℕ)) → q ∷ qs ≡ [] → P
    none_here q qs e = absurd (cc)

take_parts : (parts : List (List ℕ)) (earlier : List Line) (bs : List ℕ) (ls : List Line) → parts_of bs ≡ parts → lines_from earlier parts ≡ Ok ls → Took earlier bs ls
take_parts [] earlier bs ls split e = no_parts bs (Took earlier bs ls) split
take_parts (part ∷ []) earlier bs ls split e =
    subst (λ (l : List ℕ). Took earlier l ls) (whole_part bs part split) (took_end earlier part ls (sym (last_part earlier part) ∙ e))
take_parts (part ∷ q ∷ ps) earlier bs ls split e =
    take_some earlier bs part q ps ls (next_from earlier part) refl e (split_tail 10 bs part q ps split) (λ l rest cut h. take_parts (q ∷ ps) (earlier ++ l ∷ []) rest ls cut h)

pub lines_take : (bs : List ℕ) (ls : List Line) → lines_from [] (parts_of bs) ≡ Ok ls → IsScript ls × (bs ≡ script_text ls)
lines_take bs ls e = taken (take_parts (parts_of bs) [] bs ls refl e)
  where
    taken : Took [] bs ls → IsScript ls × (bs ≡ script_text ls)
    taken t = subst (λ (l : List Line). IsScript l × (bs ≡ script_text l)) (sym t.1) ((subst (λ (l : List Line). 0 < length l) t.1 t.4, t.2), t.3)

-- ---- what is written so is read

last_again : (earlier : List Line) → 0 < length earlier + 0 → (if nat_lt 0 (length earlier) then Ok earlier else Err (length earlier + 1)) ≡ Ok (earlier ++ [])
last_again earlier some =
    let is : 0 < length earlier = omega arith in
    rw (lt-ltb 0 (length earlier) is, append-nil earlier) refl

again : (more : List Line) (earlier : List Line) → Continues earlier more → 0 < length earlier + length more → lines_from earlier (parts_of (script_text more)) ≡ Ok (earlier ++ more)
again [] earlier c some = last_part earlier [] ∙ last_again earlier some
again (l ∷ ls) earlier c some =
    ap (lines_from earlier) (parts_of_line l (script_text ls) c.0) ∙ takes_next earlier (line_text l) (script_text ls) l (next_again earlier l c.0 c.1)
    ∙ again ls (earlier ++ l ∷ []) c.2 (omega (arith, length-append earlier (l ∷ []))) ∙ ap Ok (append_assoc earlier (l ∷ []) ls)

pub lines_again : (ls : List Line) → IsScript ls → lines_from [] (parts_of (script_text ls)) ≡ Ok ls
lines_again ls is = again ls [] is.1 (omega (arith, is.0))

-- ---- the first bad line

pub Continues-append : (xs ys earlier : List Line) → Continues earlier xs → Continues (earlier ++ xs) ys → Continues earlier (xs ++ ys)
Continues-append [] ys earlier c d = subst (λ (l : List Line). Continues l ys) (append-nil earlier) d
Continues-append (x ∷ xs) ys earlier c d =
    (c.0, c.1, Continues-append xs ys (earlier ++ x ∷ []) c.2 (subst (λ (l : List Line). Continues l ys) (sym (append_assoc earlier (x ∷ []) xs)) d))

pub script_text-append : (xs ys : List Line) → script_text (xs ++ ys) ≡ script_text xs ++ script_text ys
script_text-append [] ys = refl
script_text-append (x ∷ xs) ys = rw (script_text-append xs ys) (sym (append_assoc (line_text x) (10 ∷ script_text xs) (script_text ys)))

-- two parts or more, and not one
pub one_part : (bs part : List ℕ) (l : Line) (after : List ℕ) → parts_of bs ≡ part ∷ [] → Fits l → bs ≡ line_text l ++ (10 ∷ after) → ⊥
one_part bs part l after split fits e =
    let p = parts_cons after in
    two_parts part (line_text l) p.0 p.1 (sym split ∙ ap parts_of e ∙ parts_of_line l after fits ∙ ap (λ (ps : List (List ℕ)). line_text l ∷ ps) p.2)
  where
    two_parts : (part x y : List ℕ) (ys : List (List ℕ)) → part ∷ [] ≡ x ∷ y ∷ ys → ⊥
    two_parts part x y ys e = cc

pub first_part : (bs part q : List ℕ) (ps : List (List ℕ)) (l : Line) (after : List ℕ) → parts_of bs ≡ part ∷ q ∷ ps → Fits l → bs ≡ line_text l ++ (10 ∷ after) → part ≡ line_text l
first_part bs part q ps l after split fits e = heads part (line_text l) (q ∷ ps) (parts_of after) (sym split ∙ ap parts_of e ∙ parts_of_line l after fits)
  where
    heads : (x y : List ℕ) (xs ys : List (List ℕ)) → x ∷ xs ≡ y ∷ ys → x ≡ y
    heads x y xs ys e = cc

err_number : (m n : ℕ) → ◌≡◌ {A = Result (List Line) ℕ} (Err m) (Err n) → n ≡ m
err_number m n e = cc

both_hold : (m n : ℕ) → m ≡ 0 → 0 < n → (m == 0 && nat_lt 0 n) ≡ false → ⊥
both_hold m n e above test = both_ways _ test (and_from _ _ (eq-eqb m 0 e) (lt-ltb 0 n above))

bad_end : (earlier : List Line) (bs part whole : List ℕ) (n : ℕ) → Continues [] earlier → whole ≡ script_text earlier ++ bs → parts_of bs ≡ part ∷ []
    → (if length part == 0 && nat_lt 0 (length earlier) then Ok earlier else Err (length earlier + 1)) ≡ Err n → IsFirstBad whole n
bad_end earlier bs part whole n right cut split e =
    by_cond (length part == 0 && nat_lt 0 (length earlier)) (Ok earlier) (Err (length earlier + 1)) (Err n) (IsFirstBad whole n) e (λ _ wrong. absurd (cc))
    (λ test same. record {
      before = earlier;
      rest = bs;
      number = err_number (length earlier + 1) n same;
      right = right;
      parts = cut;
      there = something earlier bs part (whole_part bs part split) test;
      bad = λ l after fits follows is. one_part bs part l after split fits is;
    })
  where
    something : (earlier : List Line) (bs part : List ℕ) → part ≡ bs → (length part == 0 && nat_lt 0 (length earlier)) ≡ false → 0 < length bs ⊎ earlier ≡ []
    something [] bs part same test = inr refl
    something (l ∷ ls) [] part same test = absurd (both_hold (length part) (length (l ∷ ls)) (ap length same) (omega arith) test)
    something (l ∷ ls) (b ∷ bs) part same test = inl (omega arith)

bad_next : (earlier : List Line) (bs part q : List ℕ) (ps : List (List ℕ)) (whole : List ℕ) (n : ℕ) (o : Option Line) → Continues [] earlier → whole ≡ script_text earlier ++ bs
    → parts_of bs ≡ part ∷ q ∷ ps → TailOf 10 bs part q ps → next_from earlier part ≡ o → lines_from earlier (part ∷ q ∷ ps) ≡ Err n
    → ((l : Line) (rest : List ℕ) → Continues [] (earlier ++ l ∷ []) → whole ≡ script_text (earlier ++ l ∷ []) ++ rest → parts_of rest ≡ q ∷ ps → lines_from (earlier ++ l ∷ []) (q ∷ ps) ≡ Err n → IsFirstBad whole n)
    → IsFirstBad whole n
bad_next earlier bs part q ps whole n None right cut split t next e more = record {
  before = earlier;
  rest = bs;
  number = err_number (length earlier + 1) n (sym (stops_by earlier part q ps (q ∷ ps) next refl) ∙ e);
  right = right;
  parts = cut;
  there = inl (longer part t.0 bs t.1);
  bad = λ l after fits follows is. none_is_some l (sym next ∙ ap (next_from earlier) (first_part bs part q ps l after split fits is) ∙ next_again earlier l fits follows);
}
  where
    none_is_some : (l : Line) → None ≡ Some l → ⊥
    none_is_some l e = cc

    longer : (xs ys bs : List ℕ) → bs ≡ xs ++ 10 ∷ ys → 0 < length bs
    longer xs ys bs e = omega (arith, ap length e, length-append xs (10 ∷ ys))
bad_next earlier bs part q ps whole n (Some l) right cut split t next e more =
    let p = next_takes earlier part l next in
    more l t.0 (Continues-append earlier (l ∷ []) [] right (p.0, p.1, tt)) (cut ∙ onward earlier l t.0 part p.2 bs t.1) t.2 (sym (goes_by earlier part q ps (q ∷ ps) l next refl) ∙ e)
  where
    onward : (earlier : List Line) (l : Line) (rest part : List ℕ) → part ≡ line_text l → (bs : List ℕ) → bs ≡ part ++ 10 ∷ rest → script_text earlier ++ bs ≡ script_text (earlier ++ l ∷ []) ++ rest
    onward earlier l rest part text bs e = rw (e, text, script_text-append earlier (l ∷ [])) (simp append_assoc)

bad_parts : (parts : List (List ℕ)) (earlier : List Line) (bs whole : List ℕ) (n : ℕ) → Continues [] earlier → whole ≡ script_text earlier ++ bs → parts_of bs ≡ parts
    → lines_from earlier parts ≡ Err n → IsFirstBad whole n
bad_parts [] earlier bs whole n right cut split e = no_parts bs (IsFirstBad whole n) split
bad_parts (part ∷ []) earlier bs whole n right cut split e = bad_end earlier bs part whole n right cut split (sym (last_part earlier part) ∙ e)
bad_parts (part ∷ q ∷ ps) earlier bs whole n right cut split e =
    bad_next earlier bs part q ps whole n (next_from earlier part) right cut split (split_tail 10 bs part q ps split) refl e
    (λ l rest more so_far cut h. bad_parts (q ∷ ps) (earlier ++ l ∷ []) rest whole n more so_far cut h)

pub lines_bad : (bs : List ℕ) (n : ℕ) → lines_from [] (parts_of bs) ≡ Err n → IsFirstBad bs n
lines_bad bs n e = bad_parts (parts_of bs) [] bs bs n tt refl refl e

pub next_follows : (earlier : List Line) (part : List ℕ) (l : Line) → Some l ≡ next_from earlier part → may_follow earlier l ≡ true
next_follows earlier part l e = (next_takes earlier part l (sym e)).1

pub ruleset reading_steps = (takes_next, stops_next, last_part, next_follows)

-- ---- for `read_script`

pub fails_only : (e : FileFault) (bs : List ℕ) (ls : List Line) → IsScript ls → bs ≡ script_text ls → Fails e (lines_from [] (parts_of bs)) → Fails e (Ok ls)
fails_only e bs ls is same h = subst (Fails e) (ap (λ (l : List ℕ). lines_from [] (parts_of l)) same ∙ lines_again ls is) h

pub is_reason : (e : FileFault) (bs : List ℕ) → length bs ≤ 16777216 → Fails e (lines_from [] (parts_of bs)) → IsReasonFor bs e
is_reason (faults.BadLine n) bs few h = (few, lines_bad bs n h)
is_reason (faults.BadMove n) bs few h = absurd h
is_reason (faults.Broken n) bs few h = absurd h
is_reason faults.Read bs few h = absurd h
is_reason faults.Write bs few h = h
is_reason faults.Memory bs few h = tt

pub found_only : (bs : List ℕ) (found ls : List Line) → IsScript ls → bs ≡ script_text ls → lines_from [] (parts_of bs) ≡ Ok found → ◌≡◌ {A = Result (List Line) ℕ} (Ok ls) (Ok found)
found_only bs found ls is same e = sym (ap (λ (l : List ℕ). lines_from [] (parts_of l)) same ∙ lines_again ls is) ∙ e

-- one line more of those that are printed
pub printed_more : (ls : List Line) (i : ℕ) (d : Line) → i < length ls → script_text (take (i + 1) ls) ≡ script_text (take i ls) ++ (line_text (get_or ls i d) ++ 10 ∷ [])
printed_more ls i d h = ap script_text (take_more ls i d h) ∙ script_text-append (take i ls) (get_or ls i d ∷ [])

pub printed_step : (ls : List Line) (i : ℕ) (x : Line) (old new : List ℕ) → i < length ls → x ≡ get_or ls i x → old ≡ script_text (take i ls) → new ≡ old ++ (line_text x ++ 10 ∷ [])
    → new ≡ script_text (take (i + 1) ls)
printed_step ls i x old new h is so_far e =
    e ∙ ap (λ (o : List ℕ). o ++ (line_text x ++ 10 ∷ [])) so_far ∙ ap (λ (y : Line). script_text (take i ls) ++ (line_text y ++ 10 ∷ [])) is ∙ sym (printed_more ls i x h)

nil_of : (ls : List Line) → length ls ≡ 0 → ls ≡ []
nil_of [] h = refl
nil_of (l ∷ ls) h = absurd (omega arith)
