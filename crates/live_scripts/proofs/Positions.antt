-- The lists that lines give, one line more.
use Rattle.std.proofs.Common.{◌≡◌, ℕ, suc, ◌+◌, ◌<◌, List, [], ◌∷◌, ◌++◌, length, take, get_or, map, Bor, refl, sym, ap, ◌∙◌, append-nil, append_assoc}
use Rattle.std.proofs.lemmas.List.{take_more}
use Rattle.fast_path.specs.declared.calls.Call.{Call}
use Rattle.script_text.specs.declared.lines.Line.{Line}
use Rattle.live_scripts.specs.Rules.{attached_threads}
use Rattle.live_scripts.specs.Plans.{calls_in, calls_of, objects_in, objects_of, lows_in, lows_of}

-- one line more of what lines give together
pub gathers : {X : Type 0} (one : Line → List X) (all : List Line → List X) → ((xs ys : List Line) → all (xs ++ ys) ≡ all xs ++ all ys) → ((l : Line) → all (l ∷ []) ≡ one l)
    → (ls : List Line) (i : ℕ) (l : Line) (old new : List X) → i < length ls → l ≡ get_or ls i l → old ≡ all (take i ls) → new ≡ old ++ one l → new ≡ all (take (i + 1) ls)
gathers {X} one all both single ls i l old new within is so_far more =
    more ∙ ap (λ (xs : List X). xs ++ one l) so_far ∙ ap (λ (x : Line). all (take i ls) ++ one x) is
    ∙ sym (ap all (take_more ls i l within) ∙ both (take i ls) (get_or ls i l ∷ []) ∙ ap (λ (xs : List X). all (take i ls) ++ xs) (single (get_or ls i l)))

pub calls_of-append : (objects threads : List (List ℕ)) (thread : List ℕ) (xs ys : List Line) → calls_of objects threads thread (xs ++ ys) ≡ calls_of objects threads thread xs ++ calls_of objects threads thread ys
calls_of-append objects threads thread [] ys = refl
calls_of-append objects threads thread (x ∷ xs) ys =
    ap (λ (cs : List Call). calls_in objects threads thread x ++ cs) (calls_of-append objects threads thread xs ys)
    ∙ sym (append_assoc (calls_in objects threads thread x) (calls_of objects threads thread xs) (calls_of objects threads thread ys))

pub objects_of-append : (xs ys : List Line) → objects_of (xs ++ ys) ≡ objects_of xs ++ objects_of ys
objects_of-append [] ys = refl
objects_of-append (x ∷ xs) ys = ap (λ (ns : List (List ℕ)). objects_in x ++ ns) (objects_of-append xs ys) ∙ sym (append_assoc (objects_in x) (objects_of xs) (objects_of ys))

pub lows_of-append : (xs ys : List Line) → lows_of (xs ++ ys) ≡ lows_of xs ++ lows_of ys
lows_of-append [] ys = refl
lows_of-append (x ∷ xs) ys = ap (λ (ns : List ℕ). lows_in x ++ ns) (lows_of-append xs ys) ∙ sym (append_assoc (lows_in x) (lows_of xs) (lows_of ys))

pub calls_more : (objects threads : List (List ℕ)) (thread : List ℕ) (ls : List Line) (i : ℕ) (l : Line) (old new : List Call) → i < length ls → l ≡ get_or ls i l
    → old ≡ calls_of objects threads thread (take i ls) → new ≡ old ++ calls_in objects threads thread l → new ≡ calls_of objects threads thread (take (i + 1) ls)
calls_more objects threads thread = gathers (calls_in objects threads thread) (calls_of objects threads thread) (calls_of-append objects threads thread) (λ l. append-nil (calls_in objects threads thread l))

pub objects_more : (ls : List Line) (i : ℕ) (l : Line) (old new : List (List ℕ)) → i < length ls → l ≡ get_or ls i l → old ≡ objects_of (take i ls) → new ≡ old ++ objects_in l → new ≡ objects_of (take (i + 1) ls)
objects_more = gathers objects_in objects_of objects_of-append (λ l. append-nil (objects_in l))

pub lows_more : (ls : List Line) (i : ℕ) (l : Line) (old new : List ℕ) → i < length ls → l ≡ get_or ls i l → old ≡ lows_of (take i ls) → new ≡ old ++ lows_in l → new ≡ lows_of (take (i + 1) ls)
lows_more = gathers lows_in lows_of lows_of-append (λ l. append-nil (lows_in l))

pub map_now : {X : Type 0} (f : List ℕ → X) (texts : List (Bor (List ℕ))) → map (λ t. f t.now) texts ≡ map f (map (λ t. t.now) texts)
map_now f [] = refl
map_now {X} f (t ∷ ts) = ap (λ (l : List X). f t.now ∷ l) (map_now f ts)

pub length_map : {X : Type 0} {Y : Type 0} (f : X → Y) (xs : List X) → length (map f xs) ≡ length xs
length_map f [] = refl
length_map f (x ∷ xs) = ap suc (length_map f xs)

pub rows_all : (objects threads : List (Bor (List ℕ))) (ls other : List Line) → map (λ t. t.now) objects ≡ objects_of ls → map (λ t. t.now) threads ≡ attached_threads ls → ls ≡ other
    → map (λ t. calls_of (map (λ t. t.now) objects) (map (λ t. t.now) threads) t.now ls) threads ≡ map (λ t. calls_of (objects_of other) (attached_threads other) t other) (attached_threads other)
rows_all objects threads ls other os ts same =
    map_now (λ t. calls_of (map (λ t. t.now) objects) (map (λ t. t.now) threads) t ls) threads
    ∙ ap (λ (ns : List (List ℕ)). map (λ t. calls_of ns (map (λ t. t.now) threads) t ls) (map (λ t. t.now) threads)) os
    ∙ ap (λ (ns : List (List ℕ)). map (λ t. calls_of (objects_of ls) ns t ls) ns) ts
    ∙ ap (λ (l : List Line). map (λ t. calls_of (objects_of l) (attached_threads l) t l) (attached_threads l)) same
