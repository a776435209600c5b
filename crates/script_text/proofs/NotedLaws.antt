-- The note that reading keeps decides what may follow.
use Rattle.std.proofs.Common.{◌≡◌, ℕ, suc, List, [], ◌∷◌, ◌++◌, length, drop, Bool, true, false, not, ◌&&◌, ◌||◌, ◌==◌, nat_lt, cond, None, Some, refl, sym, ap, ◌∙◌, subst, arith, append-nil}
use Rattle.std.specs.List.{list_all, list_any}
use Rattle.std.specs.Str.{bytes_eq}
use Rattle.std.proofs.lemmas.Bool.{and_parts, not-true, ne_eqb}
use Rattle.script_text.specs.declared.lines.Line.{Line}
use Rattle.script_text.specs.declared.lines.Line.TheVariants.{World, Object, Step}
use Rattle.script_text.specs.Lines.{is_object, is_object_named, may_follow, line_at, next_from}
use Rattle.script_text.specs.LinesSoFar.{object_names, IsNoted, may_follow_by, with_object}

pub any_declared : (name : List ℕ) (ls : List Line) → list_any (bytes_eq name) (object_names ls) ≡ list_any (is_object_named name) ls
any_declared name [] = refl
any_declared name (World m k split ∷ ls) = any_declared name ls
any_declared name (Object n low ∷ ls) = ap (λ (b : Bool). bytes_eq name n || b) (any_declared name ls)
any_declared name (Step step ∷ ls) = any_declared name ls

pub as_many : (ls : List Line) → list_all is_object ls ≡ true → length (object_names ls) ≡ length ls
as_many [] h = refl
as_many (World m k split ∷ ls) h = absurd (cc)
as_many (Object n low ∷ ls) h = ap suc (as_many ls h)
as_many (Step step ∷ ls) h = absurd (cc)

count_under : (b c : Bool) (m n : ℕ) → (b ≡ true → m ≡ n) → (b && c && nat_lt m 65535) ≡ (b && c && nat_lt n 65535)
count_under true c m n same = ap (λ (k : ℕ). c && nat_lt k 65535) (same refl)
count_under false c m n same = refl

abbrev pub is_nil : List Line → Bool
is_nil [] = true
is_nil (l ∷ ls) = false

nil_is : (ls : List Line) → (length ls == 0) ≡ is_nil ls
nil_is [] = refl
nil_is (l ∷ ls) = ne_eqb (length (l ∷ ls)) 0 (λ e. omega (arith, e))

by_note : (ls : List Line) (l : Line) → may_follow_by (is_nil ls) (list_all is_object (drop 1 ls)) (object_names (drop 1 ls)) l ≡ may_follow ls l
by_note [] (World m k split) = refl
by_note [] (Object n low) = refl
by_note [] (Step step) = refl
by_note (x ∷ ls) (World m k split) = refl
by_note (x ∷ ls) (Object n low) =
    count_under (list_all is_object ls) (not (list_any (bytes_eq n) (object_names ls))) (length (object_names ls)) (length ls) (as_many ls)
    ∙ ap (λ (b : Bool). list_all is_object ls && not b && nat_lt (length ls) 65535) (any_declared n ls)
by_note (x ∷ ls) (Step step) = refl

pub follows_note : (ls : List Line) (declaring : Bool) (names : List (List ℕ)) (l : Line) → IsNoted ls declaring names → may_follow_by (length ls == 0) declaring names l ≡ may_follow ls l
follows_note ls declaring names l noted =
    ap (λ (b : Bool). may_follow_by b declaring names l) (nil_is ls) ∙ ap (λ (b : Bool). may_follow_by (is_nil ls) b names l) noted.objects
    ∙ ap (λ (ns : List (List ℕ)). may_follow_by (is_nil ls) (list_all is_object (drop 1 ls)) ns l) noted.declared ∙ by_note ls l

pub next_is : (earlier : List Line) (part : List ℕ) (l : Line) → line_at part ≡ Some l → may_follow earlier l ≡ true → next_from earlier part ≡ Some l
unfolding next_from
next_is earlier part l at follows = rw (at, follows) refl

pub next_none : (earlier : List Line) (part : List ℕ) → line_at part ≡ None → next_from earlier part ≡ None
unfolding next_from
next_none earlier part at = rw at refl

pub next_refused : (earlier : List Line) (part : List ℕ) (l : Line) → line_at part ≡ Some l → may_follow earlier l ≡ false → next_from earlier part ≡ None
unfolding next_from
next_refused earlier part l at follows = rw (at, follows) refl

all-append : (ls : List Line) (l : Line) → list_all is_object (ls ++ l ∷ []) ≡ (list_all is_object ls && is_object l)
all-append [] l = last (is_object l)
  where
    last : (b : Bool) → (b && true) ≡ b
    last true = refl
    last false = refl
all-append (x ∷ ls) l = ap (λ (b : Bool). is_object x && b) (all-append ls l) ∙ regroup (is_object x) (list_all is_object ls) (is_object l)
  where
    regroup : (a b c : Bool) → (a && (b && c)) ≡ (a && b && c)
    regroup true b c = refl
    regroup false b c = refl

names_append : (ls : List Line) (l : Line) → object_names (ls ++ l ∷ []) ≡ object_names ls ++ object_names (l ∷ [])
names_append [] l = refl
names_append (World m k split ∷ ls) l = names_append ls l
names_append (Object n low ∷ ls) l = ap (λ (ns : List (List ℕ)). n ∷ ns) (names_append ls l)
names_append (Step step ∷ ls) l = names_append ls l

-- a line that may stand after these
pub names_more : (x : Line) (ls : List Line) (l : Line) → may_follow (x ∷ ls) l ≡ true → with_object (object_names ls) l ≡ object_names (ls ++ l ∷ [])
names_more x ls (World m k split) follows = absurd (cc)
names_more x ls (Object n low) follows =
    let parts = and_parts (list_all is_object ls && not (list_any (is_object_named n) ls)) _ follows in
    let new = any_declared n ls ∙ not-true _ (and_parts (list_all is_object ls) _ parts.0).1 in
    ap (λ (b : Bool). cond b (object_names ls) (object_names ls ++ n ∷ [])) new ∙ sym (names_append ls (Object n low))
names_more x ls (Step step) follows = sym (append-nil (object_names ls)) ∙ sym (names_append ls (Step step))

noted_first : (declaring : Bool) (names : List (List ℕ)) (l : Line) → IsNoted [] declaring names → may_follow [] l ≡ true → IsNoted (l ∷ []) (declaring && (true || is_object l)) (with_object names l)
noted_first declaring names (World m k split) noted follows = record { objects = ap (λ (b : Bool). b && true) noted.objects; declared = noted.declared }
noted_first declaring names (Object n low) noted follows = absurd (cc)
noted_first declaring names (Step step) noted follows = absurd (cc)

noted_by : (ls : List Line) (declaring : Bool) (names : List (List ℕ)) (l : Line) → IsNoted ls declaring names → may_follow ls l ≡ true
    → IsNoted (ls ++ l ∷ []) (declaring && (is_nil ls || is_object l)) (with_object names l)
noted_by [] declaring names l noted follows = noted_first declaring names l noted follows
noted_by (x ∷ ls) declaring names l noted follows = record {
  objects = ap (λ (b : Bool). b && is_object l) noted.objects ∙ sym (all-append ls l);
  declared = ap (λ (ns : List (List ℕ)). with_object ns l) noted.declared ∙ names_more x ls l follows;
}

pub noted_more : (ls : List Line) (declaring : Bool) (names : List (List ℕ)) (l : Line) → IsNoted ls declaring names → may_follow ls l ≡ true
    → IsNoted (ls ++ l ∷ []) (declaring && (length ls == 0 || is_object l)) (with_object names l)
noted_more ls declaring names l noted follows =
    subst (λ (b : Bool). IsNoted (ls ++ l ∷ []) (declaring && (b || is_object l)) (with_object names l)) (sym (nil_is ls)) (noted_by ls declaring names l noted follows)

pub ruleset next_steps = (follows_note, next_is, next_none, next_refused)
