-- A live script is read exactly where the bytes are its text, and else the first bad line is told.
use Rattle.std.proofs.Common.{◌≡◌, ℕ, zero, suc, ◌+◌, ◌<◌, ◌≤◌, List, [], ◌∷◌, ◌++◌, length, take, drop, get_or, true, false, ◌==◌, Bor, map, Option, None, Some, MatchOption, Result, Ok, refl, sym, ap, ◌∙◌, subst, arith, inl, inr, ◌⊎◌, append_assoc, append-nil, length-append}
use Rattle.std.specs.List.{join_with_byte}
use Rattle.std.proofs.lemmas.Bool.{both_ways}
use Rattle.std.proofs.lemmas.List.Splits.{join_with_byte-slice_split}
use Rattle.script_text.specs.declared.lines.Line.{Line}
use Rattle.script_text.specs.Lines.{Fits, Continues, IsScript, IsBeginning, line_text, may_follow, next_from, parts_of, script_text, lines_from}
use Rattle.script_text.proofs.ScriptLaws.{lines_again, next_again, parts_of_line, script_text-append}
use Rattle.live_scripts.specs.Rules.{IsFirstBadLive, IsLiveScript, Runs, attached_threads, may_run}
use Rattle.live_scripts.specs.Running.{IsRunning}

-- ---- what stands at the front of equal bytes

heads : (x y : List ℕ) (xs ys : List (List ℕ)) → x ∷ xs ≡ y ∷ ys → x ≡ y
heads x y xs ys e = cc

tails : (x y : List ℕ) (xs ys : List (List ℕ)) → x ∷ xs ≡ y ∷ ys → xs ≡ ys
tails x y xs ys e = cc

split_same : (x y : Line) (as' bs : List ℕ) → Fits x → Fits y → line_text x ++ (10 ∷ as') ≡ line_text y ++ (10 ∷ bs) → line_text x ∷ parts_of as' ≡ line_text y ∷ parts_of bs
split_same x y as' bs f g e = sym (parts_of_line x as' f) ∙ ap parts_of e ∙ parts_of_line y bs g

some_is : (x y : Line) → ◌≡◌ {A = Option Line} (Some x) (Some y) → x ≡ y
some_is x y e = cc

pub same_line : (earlier : List Line) (x y : Line) (as' bs : List ℕ) → Fits x → may_follow earlier x ≡ true → Fits y → may_follow earlier y ≡ true
    → line_text x ++ (10 ∷ as') ≡ line_text y ++ (10 ∷ bs) → x ≡ y
same_line earlier x y as' bs f p g q e =
    let same = heads (line_text x) (line_text y) (parts_of as') (parts_of bs) (split_same x y as' bs f g e) in
    some_is x y (sym (next_again earlier x f p) ∙ ap (next_from earlier) same ∙ next_again earlier y g q)

same_rest : (x y : Line) (as' bs : List ℕ) → Fits x → Fits y → line_text x ++ (10 ∷ as') ≡ line_text y ++ (10 ∷ bs) → as' ≡ bs
same_rest x y as' bs f g e =
    sym (join_with_byte-slice_split 10 as') ∙ ap (join_with_byte 10) (tails (line_text x) (line_text y) (parts_of as') (parts_of bs) (split_same x y as' bs f g e)) ∙ join_with_byte-slice_split 10 bs

-- of two right beginnings of some bytes one begins the other
abbrev Begins : List Line → List Line → List ℕ → List ℕ → Type 0
Begins xs ys p q = (more : List Line) × (ys ≡ xs ++ more) × (p ≡ script_text more ++ q)

begins_on : (x : Line) (xs ys : List Line) (p q : List ℕ) → Begins xs ys p q → Begins (x ∷ xs) (x ∷ ys) p q
begins_on x xs ys p q b = (b.0, ap (λ (l : List Line). x ∷ l) b.1, b.2)

abbrev Agree : List Line → List Line → List ℕ → List ℕ → Type 0
Agree xs ys p q = Begins xs ys p q ⊎ Begins ys xs q p

agree_on : (x : Line) (xs ys : List Line) (p q : List ℕ) → Agree xs ys p q → Agree (x ∷ xs) (x ∷ ys) p q
agree_on x xs ys p q (inl b) = inl (begins_on x xs ys p q b)
agree_on x xs ys p q (inr b) = inr (begins_on x ys xs q p b)

agree : (xs ys earlier : List Line) (p q : List ℕ) → Continues earlier xs → Continues earlier ys → script_text xs ++ p ≡ script_text ys ++ q → Agree xs ys p q
agree [] ys earlier p q c d e = inl (ys, refl, e)
agree (x ∷ xs) [] earlier p q c d e = inr (x ∷ xs, refl, sym e)
agree (x ∷ xs) (y ∷ ys) earlier p q c d e =
    let whole = sym (append_assoc (line_text x) (10 ∷ script_text xs) p) ∙ e ∙ append_assoc (line_text y) (10 ∷ script_text ys) q in
    let same = same_line earlier x y (script_text xs ++ p) (script_text ys ++ q) c.0 c.1 d.0 d.1 whole in
    let rest = same_rest x y (script_text xs ++ p) (script_text ys ++ q) c.0 d.0 whole in
    let onward = agree xs ys (earlier ++ x ∷ []) p q c.2 (subst (λ (z : Line). Continues (earlier ++ z ∷ []) ys) (sym same) d.2) rest in
    subst (λ (z : Line). Agree (x ∷ xs) (z ∷ ys) p q) same (agree_on x xs ys p q onward)

-- ---- the line behind some

behind : (xs : List Line) (z : Line) (more earlier : List Line) → Continues earlier (xs ++ z ∷ more) → Fits z × (may_follow (earlier ++ xs) z ≡ true)
behind [] z more earlier c = (c.0, subst (λ (l : List Line). may_follow l z ≡ true) (sym (append-nil earlier)) c.1)
behind (x ∷ xs) z more earlier c = let h = behind xs z more (earlier ++ x ∷ []) c.2 in
    (h.0, subst (λ (l : List Line). may_follow l z ≡ true) (append_assoc earlier (x ∷ []) xs) h.1)

runs_behind : (xs : List Line) (z : Line) (more earlier : List Line) → Runs earlier (xs ++ z ∷ more) → may_run (earlier ++ xs) z ≡ true
runs_behind [] z more earlier r = subst (λ (l : List Line). may_run l z ≡ true) (sym (append-nil earlier)) r.0
runs_behind (x ∷ xs) z more earlier r = subst (λ (l : List Line). may_run l z ≡ true) (append_assoc earlier (x ∷ []) xs) (runs_behind xs z more (earlier ++ x ∷ []) r.1)

-- nothing right stands at a first bad line
not_behind : (bs : List ℕ) (n : ℕ) (b : IsFirstBadLive bs n) (ys more : List Line) (q : List ℕ) (z : Line) → ys ≡ b.before ++ z ∷ more → Continues [] ys → Runs [] ys → b.rest ≡ script_text (z ∷ more) ++ q → ⊥
not_behind bs n b ys more q z same c r text =
    let right = behind b.before z more [] (subst (Continues []) same c) in
    b.bad z (script_text more ++ q) right.0 right.1 (runs_behind b.before z more [] (subst (Runs []) same r)) (text ∙ append_assoc (line_text z) (10 ∷ script_text more) q)

begins_bad : (bs : List ℕ) (m n : ℕ) (a : IsFirstBadLive bs m) (b : IsFirstBadLive bs n) → Begins a.before b.before a.rest b.rest → m ≡ n
begins_bad bs m n a b ([], same, text) = a.number ∙ ap (λ (l : List Line). length l + 1) (sym (same ∙ append-nil a.before)) ∙ sym b.number
begins_bad bs m n a b (z ∷ more, same, text) = absurd (not_behind bs m a b.before more b.rest z same b.right b.runs text)

pub one_bad_live : (bs : List ℕ) (m n : ℕ) → IsFirstBadLive bs m → IsFirstBadLive bs n → m ≡ n
one_bad_live bs m n a b = elim (agree a.before b.before [] a.rest b.rest a.right b.right (sym a.parts ∙ b.parts)) [
  | inl begins ↦ begins_bad bs m n a b begins
  | inr begins ↦ sym (begins_bad bs n m b a begins)
]

no_line : (z : Line) (more : List Line) (p : List ℕ) → [] ≡ script_text (z ∷ more) ++ p → ⊥
no_line z more p e = omega (arith, ap length e, length-append (script_text (z ∷ more)) p, length-append (line_text z) (10 ∷ script_text more))

nothing_there : (bs : List ℕ) (n : ℕ) (b : IsFirstBadLive bs n) (ls : List Line) → IsLiveScript ls → b.before ≡ ls → b.rest ≡ [] → ⊥
nothing_there bs n b ls live same none = elim b.there [
  | inl some ↦ omega (arith, some, ap length none)
  | inr no_thread ↦ omega (arith, live.2, ap (λ (l : List Line). length (attached_threads l)) same, ap length no_thread)
]

pub bad_no_live : (bs : List ℕ) (n : ℕ) (ls : List Line) → IsFirstBadLive bs n → IsLiveScript ls → bs ≡ script_text ls → ⊥
bad_no_live bs n ls b live same = elim (agree b.before ls [] b.rest [] b.right live.0.1 (sym b.parts ∙ same ∙ sym (append-nil (script_text ls)))) [
  | inl begins ↦ longer begins
  | inr begins ↦ shorter begins
]
  where
    longer : Begins b.before ls b.rest [] → ⊥
    longer ([], is, text) = nothing_there bs n b ls live (sym (is ∙ append-nil b.before)) text
    longer (z ∷ more, is, text) = not_behind bs n b ls more [] z is live.0.1 live.1 text

    shorter : Begins ls b.before [] b.rest → ⊥
    shorter ([], is, text) = nothing_there bs n b ls live (is ∙ append-nil ls) (sym text)
    shorter (z ∷ more, is, text) = no_line z more b.rest text

-- ---- for `read_live`

take_all : (ls : List Line) (n : ℕ) → n ≡ length ls → take n ls ≡ ls
take_all ls n e = ap (λ (k : ℕ). take k ls) e ∙ all ls
  where
    all : (xs : List Line) → take (length xs) xs ≡ xs
    all [] = refl
    all (x ∷ xs) = ap (λ (l : List Line). x ∷ l) (all xs)

some_lines : (ls : List Line) → 0 < length (attached_threads ls) → 0 < length ls
some_lines [] some = some
some_lines (l ∷ ls) some = omega arith

continues_front : (xs ys earlier : List Line) → Continues earlier (xs ++ ys) → Continues earlier xs
continues_front [] ys earlier c = tt
continues_front (x ∷ xs) ys earlier c = (c.0, c.1, continues_front xs ys (earlier ++ x ∷ []) c.2)

-- the lines from this one on: none; or the one that may not run
abbrev Stuck : List Line → List Line → Type 0
Stuck before [] = Unit {0}
Stuck before (x ∷ more) = may_run before x ≡ false

stuck_from : (ls : List Line) (n : ℕ) (threads : List (List ℕ)) → IsRunning ls n threads → Stuck (take n ls) (drop n ls)
stuck_from ls n threads r = at ls n (take n ls) r.stuck
  where
    at : (xs : List Line) (k : ℕ) (before : List Line) → ((d : Line) → k < length xs → may_run before (get_or xs k d) ≡ false) → Stuck before (drop k xs)
    at [] zero before s = tt
    at [] (suc k) before s = tt
    at (x ∷ xs) zero before s = s x (omega arith)
    at (x ∷ xs) (suc k) before s = at xs k before (λ d within. s d (omega (arith, within)))

front_back : (ls : List Line) (n : ℕ) → take n ls ++ drop n ls ≡ ls
front_back [] zero = refl
front_back [] (suc n) = refl
front_back (l ∷ ls) zero = refl
front_back (l ∷ ls) (suc n) = ap (λ (xs : List Line). l ∷ xs) (front_back ls n)

bad_at : (bytes rest : List ℕ) (ls before more : List Line) → IsBeginning bytes ls rest → before ++ more ≡ ls → Runs [] before → Stuck before more
    → (0 < length more ⊎ (0 < length rest ⊎ attached_threads before ≡ [])) → IsFirstBadLive bytes (length before + 1)
bad_at bytes rest ls before [] b same runs stuck there =
    let all = sym (append-nil before) ∙ same in
    record {
      before = before;
      rest = rest;
      number = refl;
      right = subst (Continues []) (sym all) b.right;
      runs = runs;
      parts = subst (λ (l : List Line). bytes ≡ script_text l ++ rest) (sym all) b.parts;
      there = elim there [ inl more ↦ absurd (omega (arith, more)) | inr rest_or ↦ rest_or ];
      bad = λ l after fits follows may text. b.stuck l after fits (subst (λ (e : List Line). may_follow e l ≡ true) all follows) text;
    }
bad_at bytes rest ls before (x ∷ more) b same runs stuck there =
    let right = subst (Continues []) (sym same) b.right in
    let here = behind before x more [] right in
    record {
      before = before;
      rest = script_text (x ∷ more) ++ rest;
      number = refl;
      right = continues_front before (x ∷ more) [] right;
      runs = runs;
      parts = b.parts ∙ ap (λ (l : List Line). script_text l ++ rest) (sym same) ∙ ap (λ (t : List ℕ). t ++ rest) (script_text-append before (x ∷ more)) ∙ append_assoc (script_text before) (script_text (x ∷ more)) rest;
      there = inl (omega (arith, length-append (script_text (x ∷ more)) rest, length-append (line_text x) (10 ∷ script_text more)));
      bad = λ l after fits follows may text.
          let is = same_line before x l (script_text more ++ rest) after here.0 here.1 fits follows (sym (append_assoc (line_text x) (10 ∷ script_text more) rest) ∙ text) in
          both_ways (may_run before l) (subst (λ (z : Line). may_run before z ≡ false) is stuck) may;
    }

length_take : (ls : List Line) (n : ℕ) → n ≤ length ls → length (take n ls) ≡ n
length_take [] zero h = refl
length_take [] (suc n) h = absurd (omega (arith, h))
length_take (l ∷ ls) zero h = refl
length_take (l ∷ ls) (suc n) h = ap suc (length_take ls n (omega (arith, h)))

length_drop : (ls : List Line) (n : ℕ) → n < length ls → 0 < length (drop n ls)
length_drop [] n h = absurd (omega (arith, h))
length_drop (l ∷ ls) zero h = omega arith
length_drop (l ∷ ls) (suc n) h = length_drop ls n (omega (arith, h))

-- what is left of a script that is not live: lines, or bytes, or no thread
abbrev pub Left : List Line → List ℕ → ℕ → List (List ℕ) → Type 0
Left ls rest n threads = (n < length ls) ⊎ ((0 < length rest) ⊎ (threads ≡ []))

pub live_bad : (bytes rest : List ℕ) (ls : List Line) (n : ℕ) (threads : List (List ℕ)) → IsBeginning bytes ls rest → IsRunning ls n threads → Left ls rest n threads → IsFirstBadLive bytes (n + 1)
live_bad bytes rest ls n threads b r left =
    subst (λ (k : ℕ). IsFirstBadLive bytes (k + 1)) (length_take ls n r.within)
    (bad_at bytes rest ls (take n ls) (drop n ls) b (front_back ls n) r.runs (stuck_from ls n threads r) (there left))
  where
    there : Left ls rest n threads → 0 < length (drop n ls) ⊎ (0 < length rest ⊎ attached_threads (take n ls) ≡ [])
    there (inl more) = inl (length_drop ls n more)
    there (inr (inl some)) = inr (inl some)
    there (inr (inr none)) = inr (inr (sym r.attached ∙ none))

ok_is : (xs ys : List Line) → ◌≡◌ {A = Result (List Line) ℕ} (Ok xs) (Ok ys) → xs ≡ ys
ok_is xs ys e = cc

-- one text has one script
pub one_script : (xs ys : List Line) → IsScript xs → IsScript ys → script_text xs ≡ script_text ys → xs ≡ ys
one_script xs ys is_x is_y e = ok_is xs ys (sym (lines_again xs is_x) ∙ ap (λ (t : List ℕ). lines_from [] (parts_of t)) e ∙ lines_again ys is_y)

-- what the search for a bad line says of these lines
abbrev pub Judged : List Line → List ℕ → Option ℕ → Type 0
Judged ls rest bad = (bytes : List ℕ) → IsBeginning bytes ls rest → MatchOption bad (IsLiveScript ls × (bytes ≡ script_text ls)) (λ n. IsFirstBadLive bytes n)

pub judged_live : (bytes rest : List ℕ) (ls seen : List Line) (bad : Option ℕ) → seen ≡ ls → bad ≡ None → Judged seen rest bad → IsBeginning bytes ls rest → IsLiveScript ls × (bytes ≡ script_text ls)
judged_live bytes rest ls seen bad same none j b =
    subst (λ (o : Option ℕ). MatchOption o (IsLiveScript ls × (bytes ≡ script_text ls)) (λ n. IsFirstBadLive bytes n)) none (subst (λ (l : List Line). Judged l rest bad) same j bytes b)

pub judged_bad : (bytes rest : List ℕ) (ls seen : List Line) (bad : Option ℕ) (n : ℕ) → seen ≡ ls → bad ≡ Some n → Judged seen rest bad → IsBeginning bytes ls rest → IsFirstBadLive bytes n
judged_bad bytes rest ls seen bad n same some j b =
    subst (λ (o : Option ℕ). MatchOption o (IsLiveScript ls × (bytes ≡ script_text ls)) (λ n. IsFirstBadLive bytes n)) some (subst (λ (l : List Line). Judged l rest bad) same j bytes b)

pub some_bytes : (rest : List ℕ) → (length rest == 0) ≡ false → 0 < length rest
some_bytes [] e = absurd (cc)
some_bytes (b ∷ bs) e = omega arith

pub no_names : (texts : List (Bor (List ℕ))) → length texts ≡ 0 → map (λ t. t.now) texts ≡ []
no_names [] e = refl
no_names (t ∷ ts) e = absurd (omega (arith, e))
