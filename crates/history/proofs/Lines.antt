-- Lines behind a world, taken one after the other.
use Rattle.std.proofs.Common.{refl, ◌≡◌, ℕ, zero, suc, ◌+◌, ◌<◌, List, [], ◌∷◌, ◌++◌, length, get_or, take, true, not, ◌&&◌, sym, ap, ◌∙◌, subst, arith, append_assoc, append-nil}
use Rattle.std.specs.List.{list_all, list_any}
use Rattle.std.proofs.lemmas.Bool.{and_parts, not-true, ltb-true}
use Rattle.std.proofs.lemmas.List.{take_more}
use Rattle.lock_word.specs.declared.Split.{Split}
use Rattle.script_text.specs.declared.lines.Line.{Line}
use Rattle.script_text.specs.declared.lines.Line.TheVariants.{World, Object, Step}
use Rattle.script_text.specs.Lines.{Continues, may_follow, is_object, is_object_named}
use Rattle.script_text.specs.LinesSoFar.{object_names, with_object}
use Rattle.script_text.proofs.NotedLaws.{any_declared, as_many, names_more}
use Rattle.step_core.specs.declared.steps.Request.{Request}
use Rattle.history.specs.NameLists.{NameLists}
use Rattle.history.specs.Numbering.{FollowsWorld, MayTake, low_bytes, names_after, names_of, names_then, no_names, requests_after, requests_of, requests_then, with_low}

follows_at : (ls earlier : List Line) (i : ℕ) (d : Line) → Continues earlier ls → i < length ls → may_follow (earlier ++ take i ls) (get_or ls i d) ≡ true
follows_at [] earlier i d c within = absurd (omega (arith, within))
follows_at (l ∷ ls) earlier zero d c within = subst (λ (e : List Line). may_follow e l ≡ true) (sym (append-nil earlier)) c.1
follows_at (l ∷ ls) earlier (suc i) d c within =
    subst (λ (e : List Line). may_follow e (get_or ls i d) ≡ true) (append_assoc earlier (l ∷ []) (take i ls)) (follows_at ls (earlier ++ l ∷ []) i d c.2 (omega (arith, within)))

pub may_take : (m k : ℕ) (s : Split) (more : List Line) (l : Line) → may_follow (World m k s ∷ more) l ≡ true → MayTake (object_names more) l
may_take m k s more (World n j r) follows = tt
may_take m k s more (Object name low) follows =
    let parts = and_parts (list_all is_object more && not (list_any (is_object_named name) more)) _ follows in
    let new = and_parts (list_all is_object more) _ parts.0 in
    (any_declared name more ∙ not-true _ new.1, subst (λ (n : ℕ). n < 65535) (sym (as_many more new.0)) (ltb-true (length more) 65535 parts.1))
may_take m k s more (Step step) follows = tt

may_take_at : (ls : List Line) (i : ℕ) (d : Line) → FollowsWorld ls → i < length ls → MayTake (object_names (take i ls)) (get_or ls i d)
may_take_at ls i d f within = may_take f.0 f.1 f.2 (take i ls) (get_or ls i d) (follows_at ls (World f.0 f.1 f.2 ∷ []) i d f.3 within)

names_at : (ls : List Line) (i : ℕ) (d : Line) → FollowsWorld ls → i < length ls → with_object (object_names (take i ls)) (get_or ls i d) ≡ object_names (take (i + 1) ls)
names_at ls i d f within =
    names_more (World f.0 f.1 f.2) (take i ls) (get_or ls i d) (follows_at ls (World f.0 f.1 f.2 ∷ []) i d f.3 within) ∙ ap object_names (sym (take_more ls i d within))

-- the next line, with the names of the lines before it
pub line_may_be_taken : (ls : List Line) (i : ℕ) (x : Line) (names : List (List ℕ)) → FollowsWorld ls → i < length ls → x ≡ get_or ls i x → names ≡ object_names (take i ls) → MayTake names x
line_may_be_taken ls i x names f within is same =
    subst (λ (n : List (List ℕ)). MayTake n x) (sym same) (subst (λ (l : Line). MayTake (object_names (take i ls)) l) (sym is) (may_take_at ls i x f within))

pub names_next : (ls : List Line) (i : ℕ) (x : Line) (names new : List (List ℕ)) → FollowsWorld ls → i < length ls → x ≡ get_or ls i x → names ≡ object_names (take i ls)
    → new ≡ with_object names x → new ≡ object_names (take (i + 1) ls)
names_next ls i x names new f within is same e =
    e ∙ ap (λ (n : List (List ℕ)). with_object n x) same ∙ ap (λ (l : Line). with_object (object_names (take i ls)) l) is ∙ names_at ls i x f within

one_low : (low : ℕ) (lows : List ℕ) (l : Line) → (low ∷ with_low lows l) ≡ with_low (low ∷ lows) l
one_low low lows (World m k s) = refl
one_low low lows (Object n j) = refl
one_low low lows (Step step) = refl

pub lows_append : (ls : List Line) (l : Line) → low_bytes (ls ++ l ∷ []) ≡ with_low (low_bytes ls) l
lows_append [] (World m k s) = refl
lows_append [] (Object n j) = refl
lows_append [] (Step step) = refl
lows_append (World m k s ∷ ls) l = lows_append ls l
lows_append (Object n j ∷ ls) l = ap (λ (lows : List ℕ). j ∷ lows) (lows_append ls l) ∙ one_low j (low_bytes ls) l
lows_append (Step step ∷ ls) l = lows_append ls l

pub lows_next : (ls : List Line) (i : ℕ) (x : Line) (lows new : List ℕ) → i < length ls → x ≡ get_or ls i x → lows ≡ low_bytes (take i ls)
    → new ≡ with_low lows x → new ≡ low_bytes (take (i + 1) ls)
lows_next ls i x lows new within is same e =
    e ∙ ap (λ (b : List ℕ). with_low b x) same ∙ ap (λ (l : Line). with_low (low_bytes (take i ls)) l) is ∙ sym (lows_append (take i ls) (get_or ls i x))
    ∙ ap low_bytes (sym (take_more ls i x within))

-- ---- names and steps

pub names_after-one : (ls : List Line) (l : Line) (names : NameLists) → names_after names (ls ++ l ∷ []) ≡ names_then (names_after names ls) l
names_after-one [] l names = refl
names_after-one (k ∷ ls) l names = names_after-one ls l (names_then names k)

pub requests_after-one : (ls : List Line) (l : Line) (names : NameLists) → requests_after names (ls ++ l ∷ []) ≡ requests_after names ls ++ requests_then (names_after names ls) l
requests_after-one [] l names = append-nil (requests_then names l)
requests_after-one (k ∷ ls) l names =
    ap (λ (r : List Request). requests_then names k ++ r) (requests_after-one ls l (names_then names k))
    ∙ sym (append_assoc (requests_then names k) (requests_after (names_then names k) ls) (requests_then (names_after (names_then names k) ls) l))

pub all_names_next : (ls : List Line) (i : ℕ) (x : Line) (names new : NameLists) → i < length ls → x ≡ get_or ls i x → names ≡ names_of (take i ls)
    → new ≡ names_then names x → new ≡ names_of (take (i + 1) ls)
all_names_next ls i x names new within is same e =
    e ∙ ap (λ (n : NameLists). names_then n x) same ∙ ap (λ (l : Line). names_then (names_of (take i ls)) l) is ∙ sym (names_after-one (take i ls) (get_or ls i x) no_names)
    ∙ ap names_of (sym (take_more ls i x within))

pub requests_next : (ls : List Line) (i : ℕ) (x : Line) (names : NameLists) (steps new : List Request) → i < length ls → x ≡ get_or ls i x → names ≡ names_of (take i ls)
    → steps ≡ requests_of (take i ls) → new ≡ steps ++ requests_then names x → new ≡ requests_of (take (i + 1) ls)
requests_next ls i x names steps new within is same done e =
    e ∙ ap (λ (r : List Request). r ++ requests_then names x) done ∙ ap (λ (n : NameLists). requests_of (take i ls) ++ requests_then n x) same
    ∙ ap (λ (l : Line). requests_of (take i ls) ++ requests_then (names_of (take i ls)) l) is ∙ sym (requests_after-one (take i ls) (get_or ls i x) no_names)
    ∙ ap requests_of (sym (take_more ls i x within))
