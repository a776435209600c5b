-- A state more in a search.
use native.Mathlib.Omega.{arith}
use Rattle.std.proofs.lemmas.Bool.{cases_lt}
use Rattle.std.proofs.lemmas.Slice.Eq.{bytes_eq-Decides}
use Rattle.std.proofs.Common.{◌≡◌, ◌⊎◌, inl, inr, subst, ◌∙◌, ℕ, ◌+◌, ◌-◌, ◌<◌, ◌≤◌, List, [], ◌∷◌, ◌++◌, length, Option, Some, refl, sym, ap, length-append}
use Rattle.std.proofs.lemmas.List.{get_or_append_left}
use Rattle.std.specs.Option.{unwrap_or}
use Rattle.std.specs.List.{list_any}
use Rattle.std.specs.Prelude.{zero, suc, Bool, false, not, ◌||◌, if◌then◌else◌}
use Rattle.indexmap.specs.IndexSet.{insert_key}
use Rattle.std.specs.Prelude.{slice_get, nat_eq, true}
use Rattle.explore_java.specs.declared.codes.Code.{Code}
use Rattle.std.specs.Cmp.Lexicographic.{pointwise}
use Rattle.std.proofs.Math.Seq.{get_or-append_seam}
use Rattle.std.proofs.lemmas.Option.{slice_get-get_or, slice_get_within, get_or_from_slice_get}
use Rattle.explore.specs.declared.programs.Program.{Program}
use Rattle.step_core.specs.declared.machine.Move.{Move}
use Rattle.explore_java.specs.declared.found.Node.{Node}
use Rattle.explore_java.specs.JavaStates.{JavaProgramState, opening, played}
use Rattle.explore_java.specs.JavaStates.{code_of, IsProper}
use Rattle.explore_java.specs.JavaFound.{witness_at, grown, witnesses_from, witnesses, IsAt}
use Rattle.explore_java.specs.JavaSearches.{IsKnown, IsSearch, StaysIn, HasNumber, IsNear, IsVisited, behind}

witnesses_from_more : (ws : List (List Move)) (ns : List Node) (n : Node)
    → witnesses_from ws (ns ++ n ∷ []) ≡ grown (witnesses_from ws ns) n
witnesses_from_more ws [] n = refl
witnesses_from_more ws (m ∷ ns) n = witnesses_from_more (grown ws m) ns n

pub witnesses_more : (ns : List Node) (n : Node) → witnesses (ns ++ n ∷ []) ≡ grown (witnesses ns) n
witnesses_more ns n = witnesses_from_more ([] ∷ []) ns n

-- the witnesses that there were, and the one more
pub witness_before : (ws : List (List Move)) (x : List Move) (k : ℕ) → k < length ws
    → witness_at (ws ++ x ∷ []) k ≡ witness_at ws k
witness_before ws x k h = get_or_append_left ws (x ∷ []) [] k h

pub witness_last : (ws : List (List Move)) (x : List Move) → witness_at (ws ++ x ∷ []) (length ws) ≡ x
witness_last ws x = get_or-append_seam ws x [] []

get_before : {A : Type 0} (xs : List A) (x : A) (k : ℕ) (y : A) → slice_get xs k ≡ Some y → slice_get (xs ++ x ∷ []) k ≡ Some y
get_before xs x k y h =
    let lt = slice_get_within xs k y h in
    let e = length-append xs (x ∷ []) in
    rw (slice_get-get_or (xs ++ x ∷ []) k y (omega (arith, lt, e))) (ap Some (rw (get_or_append_left xs (x ∷ []) y k lt) (get_or_from_slice_get xs k y y h)))

get_last : {A : Type 0} (xs : List A) (x : A) → slice_get (xs ++ x ∷ []) (length xs) ≡ Some x
get_last xs x =
    let e = length-append xs (x ∷ []) in
    rw (slice_get-get_or (xs ++ x ∷ []) (length xs) x (omega (arith, e))) (ap Some (get_or-append_seam xs x [] x))

get_old : {A : Type 0} (xs : List A) (x : A) (k : ℕ) (y : A) → k < length xs → slice_get (xs ++ x ∷ []) k ≡ Some y → slice_get xs k ≡ Some y
get_old xs x k y lt h =
    rw (slice_get-get_or xs k y lt) (rw (← get_or_append_left xs (x ∷ []) y k lt) (ap Some (get_or_from_slice_get (xs ++ x ∷ []) k y y h)))

pub stays_more : (ws : List (List Move)) (x : List Move) → StaysIn ws (ws ++ x ∷ [])
stays_more ws x = record {
  more = let e = length-append ws (x ∷ []) in omega (arith, e);
  same = λ k h. witness_before ws x k h;
}

known_stays : (p : Program) (keys : List Code) (ws : List (List Move)) (key : Code) (x : List Move) (k : ℕ) (s : JavaProgramState)
    → k < length ws → IsKnown p keys ws k s → IsKnown p (keys ++ key ∷ []) (ws ++ x ∷ []) k s
known_stays p keys ws key x k s lt h = record {
  leads = rw (witness_before ws x k lt) h.leads;
  proper = h.proper;
  keyed = (h.keyed.0, get_before keys key k h.keyed.0 h.keyed.1, h.keyed.2);
}

known_last : (p : Program) (keys : List Code) (ws : List (List Move)) (key : Code) (x : List Move) (s : JavaProgramState)
    → length keys ≡ length ws → played p x ≡ Some s → IsProper p s → key.numbers.items ≡ code_of p s
    → IsKnown p (keys ++ key ∷ []) (ws ++ x ∷ []) (length ws) s
known_last p keys ws key x s e leads sound coded = record {
  leads = rw (witness_last ws x) leads;
  proper = sound;
  keyed = (key, subst (λ (n : ℕ). slice_get (keys ++ key ∷ []) n ≡ Some key) e (get_last keys key), coded);
}

-- this witness may go last: none is longer, and it is longer by one move than that of the state that was taken last
pub record IsLast (ws : List (List Move)) (taken : ℕ) (x : List Move) : Type 0 where
  pub longest : (k : ℕ) → k < length ws → length (witness_at ws k) ≤ length x
  pub there : (k : ℕ) → k < length ws → taken - 1 < length ws
  pub short : length x ≤ length (witness_at (ws ++ x ∷ []) (taken - 1)) + 1

-- a move behind the witness of that state
pub move_last : (p : Program) (keys : List Code) (ws : List (List Move)) (queue : List JavaProgramState) (at : ℕ) (c : Move)
    → IsSearch p keys ws queue (at + 1) → IsLast ws (at + 1) (witness_at ws at ++ c ∷ [])
move_last p keys ws queue at c h =
    let w = h.waiting in
    let one : at + 1 - 1 ≡ at = omega arith in
    let l = length-append (witness_at ws at) (c ∷ []) in
    let there : at < length ws = omega (arith, w) in
    record {
      longest = λ k lt. (let n = subst (λ (j : ℕ). length (witness_at ws k) ≤ length (witness_at ws j) + 1) one (h.near k lt) in omega (arith, n, l));
      there = λ k lt. omega (arith, there);
      short = rw (one, witness_before ws (witness_at ws at ++ c ∷ []) at there) (omega (arith, l));
    }

-- a state that was not among those that were found
pub search_more : (p : Program) (keys : List Code) (ws : List (List Move)) (queue : List JavaProgramState) (taken : ℕ) (key : Code) (x : List Move) (made : JavaProgramState)
    → IsSearch p keys ws queue taken → played p x ≡ Some made → IsProper p made → key.numbers.items ≡ code_of p made
    → ((j : ℕ) (y : Code) → slice_get keys j ≡ Some y → y.numbers.items ≡ key.numbers.items → ⊥)
    → IsLast ws taken x
    → IsSearch p (keys ++ key ∷ []) (ws ++ x ∷ []) (queue ++ made ∷ []) taken
search_more p keys ws queue taken key x made h leads sound coded fresh last = record {
  counted = let a = length-append keys (key ∷ []) in let b = length-append ws (x ∷ []) in let e = h.counted in omega (arith, a, b, e);
  waiting = let a = length-append queue (made ∷ []) in let b = length-append ws (x ∷ []) in let e = h.waiting in omega (arith, a, b, e);
  known = λ k lt. known_at k lt (cases_lt k (length ws));
  distinct = λ j k y z lt a b e. apart_at j k y z lt a b e (cases_lt k (length keys));
  queued = λ j s e. queued_at j s e (cases_lt j (length queue));
  rising = λ j k le lt. rises j k le lt (cases_lt k (length ws)) (cases_lt j (length ws));
  near = λ k lt. near_at k lt (cases_lt k (length ws));
}
  where
    rises : (j k : ℕ) → j ≤ k → k < length (ws ++ x ∷ []) → (k < length ws) ⊎ (length ws ≤ k) → (j < length ws) ⊎ (length ws ≤ j)
        → length (witness_at (ws ++ x ∷ []) j) ≤ length (witness_at (ws ++ x ∷ []) k)
    rises j k le lt (inl below) first =
        rw (witness_before ws x k below, witness_before ws x j (omega (arith, le, below))) (h.rising j k le below)
    rises j k le lt (inr past) (inl first) =
        let b = length-append ws (x ∷ []) in
        let here : k ≡ length ws = omega (arith, b, lt, past) in
        rw (here, witness_last ws x, witness_before ws x j first) (last.longest j first)
    rises j k le lt (inr past) (inr after) =
        let b = length-append ws (x ∷ []) in
        let same : j ≡ k = omega (arith, b, lt, past, after, le) in
        rw same (omega arith)

    near_at : (k : ℕ) → k < length (ws ++ x ∷ []) → (k < length ws) ⊎ (length ws ≤ k)
        → length (witness_at (ws ++ x ∷ []) k) ≤ length (witness_at (ws ++ x ∷ []) (taken - 1)) + 1
    near_at k lt (inl below) = rw (witness_before ws x k below) (old_near (last.there k below) k below)
      where
        old_near : taken - 1 < length ws → (k : ℕ) → k < length ws → length (witness_at ws k) ≤ length (witness_at (ws ++ x ∷ []) (taken - 1)) + 1
        old_near there k below = rw (witness_before ws x (taken - 1) there) (h.near k below)
    near_at k lt (inr past) =
        let b = length-append ws (x ∷ []) in
        let here : k ≡ length ws = omega (arith, b, lt, past) in
        rw (here, witness_last ws x) last.short

    known_at : (k : ℕ) → k < length (ws ++ x ∷ []) → (k < length ws) ⊎ (length ws ≤ k)
        → (s : JavaProgramState) × IsKnown p (keys ++ key ∷ []) (ws ++ x ∷ []) k s
    known_at k lt (inl below) = let r = h.known k below in (r.0, known_stays p keys ws key x k r.0 below r.1)
    known_at k lt (inr past) =
        let b = length-append ws (x ∷ []) in
        let e : length ws ≡ k = omega (arith, b, lt, past) in
        subst (λ (n : ℕ). (s : JavaProgramState) × IsKnown p (keys ++ key ∷ []) (ws ++ x ∷ []) n s) e (made, known_last p keys ws key x made h.counted leads sound coded)

    apart_at : (j k : ℕ) (y z : Code) → j < k → slice_get (keys ++ key ∷ []) j ≡ Some y → slice_get (keys ++ key ∷ []) k ≡ Some z
        → y.numbers.items ≡ z.numbers.items → (k < length keys) ⊎ (length keys ≤ k) → ⊥
    apart_at j k y z lt a b e (inl below) = h.distinct j k y z lt (get_old keys key j y (omega (arith, lt, below)) a) (get_old keys key k z below b) e
    apart_at j k y z lt a b e (inr past) =
        let within = slice_get_within (keys ++ key ∷ []) k z b in
        let l = length-append keys (key ∷ []) in
        let here : length keys ≡ k = omega (arith, l, within, past) in
        let last : slice_get (keys ++ key ∷ []) (length keys) ≡ Some z = subst (λ (n : ℕ). slice_get (keys ++ key ∷ []) n ≡ Some z) (sym here) b in
        let same : key ≡ z = ap (λ (o : Option Code). unwrap_or o key) (sym (get_last keys key) ∙ last) in
        fresh j y (get_old keys key j y (omega (arith, lt, here)) a) (e ∙ ap (λ (v : Code). v.numbers.items) (sym same))

    queued_at : (j : ℕ) (s : JavaProgramState) → slice_get (queue ++ made ∷ []) j ≡ Some s → (j < length queue) ⊎ (length queue ≤ j)
        → IsAt p (ws ++ x ∷ []) (taken + j) s
    queued_at j s e (inl below) =
        let old : slice_get queue j ≡ Some s = rw (slice_get-get_or queue j s below) (rw (← get_or_append_left queue (made ∷ []) s j below) (ap Some (get_or_from_slice_get (queue ++ made ∷ []) j s s e))) in
        let w = h.waiting in
        rw (witness_before ws x (taken + j) (omega (arith, w, below))) (h.queued j s old)
    queued_at j s e (inr past) =
        let within = slice_get_within (queue ++ made ∷ []) j s e in
        let b = length-append queue (made ∷ []) in
        let here : length queue ≡ j = omega (arith, b, within, past) in
        let w = h.waiting in
        let there : length ws ≡ taken + j = omega (arith, w, here) in
        let g : slice_get (queue ++ made ∷ []) (length queue) ≡ Some s = subst (λ (n : ℕ). slice_get (queue ++ made ∷ []) n ≡ Some s) (sym here) e in
        let same : made ≡ s = ap (λ (o : Option JavaProgramState). unwrap_or o made) (sym (get_last queue made) ∙ g) in
        subst (λ (n : ℕ). IsAt p (ws ++ x ∷ []) n s) there (rw (witness_last ws x) (leads ∙ ap Some same))

-- a state has the number of its key
pub number_of : (p : Program) (keys : List Code) (ws : List (List Move)) (queue : List JavaProgramState) (taken k : ℕ) (code key : Code) (made : JavaProgramState)
    → IsSearch p keys ws queue taken → ((s t : JavaProgramState) → IsProper p s → IsProper p t → code_of p s ≡ code_of p t → s ≡ t) → IsProper p made → code.numbers.items ≡ code_of p made
    → slice_get keys k ≡ Some key → pointwise nat_eq code.numbers.items key.numbers.items ≡ true → HasNumber p ws k made
number_of p keys ws queue taken k code key made h apart sound coded there same =
    let lt = slice_get_within keys k key there in
    let w = h.counted in
    let below : k < length ws = omega (arith, w, lt) in
    let r = h.known k below in
    let one : key ≡ r.1.keyed.0 = ap (λ (o : Option Code). unwrap_or o key) (sym there ∙ r.1.keyed.1) in
    let items : code.numbers.items ≡ key.numbers.items = (bytes_eq-Decides code.numbers.items key.numbers.items).0 same in
    let codes : code_of p made ≡ code_of p r.0 = sym coded ∙ items ∙ ap (λ (v : Code). v.numbers.items) one ∙ r.1.keyed.2 in
    (below, r.1.leads ∙ ap Some (apart r.0 made r.1.proper sound (sym codes)))

-- a key that was not there goes last, and one that was there changes nothing
abbrev pub is_same : Code → Code → Bool
is_same x y = pointwise nat_eq x.numbers.items y.numbers.items

pub key_added : (ks ks' : List Code) (k : Code) (b : Bool)
    → b ≡ not (list_any (is_same k) ks) → b ≡ true → ks' ≡ insert_key is_same ks k → ks' ≡ ks ++ k ∷ []
key_added ks ks' k b e t h = by (list_any (is_same k) ks) (sym e ∙ t) h
  where
    by : (a : Bool) → not a ≡ true → ks' ≡ (if a then ks else ks ++ k ∷ []) → ks' ≡ ks ++ k ∷ []
    by true n g = absurd (cc)
    by false n g = g

pub key_there : (ks ks' : List Code) (k : Code) (b : Bool)
    → b ≡ not (list_any (is_same k) ks) → b ≡ false → ks' ≡ insert_key is_same ks k → ks' ≡ ks
key_there ks ks' k b e t h = by (list_any (is_same k) ks) (sym e ∙ t) h
  where
    by : (a : Bool) → not a ≡ false → ks' ≡ (if a then ks else ks ++ k ∷ []) → ks' ≡ ks
    by true n g = g
    by false n g = absurd (cc)

-- where a program begins
pub first_found : (p : Program) (key : Code) (s : JavaProgramState) → s ≡ opening p → IsProper p s → key.numbers.items ≡ code_of p s
    → IsVisited p (key ∷ []) ([] ∷ []) (s ∷ []) [] 0 0
first_found p key s e sound coded = record {
  search = search_more p [] [] [] 0 key [] s (record {
    counted = refl;
    waiting = refl;
    known = λ k lt. absurd (omega (arith, lt));
    distinct = λ j k y z lt a b e. absurd (cc);
    queued = λ j r leads. absurd (cc);
    rising = λ j k le lt. absurd (omega (arith, lt));
    near = λ k lt. absurd (omega (arith, lt));
  }) (ap Some (sym e)) sound coded (λ j y a e. absurd (cc)) (record {
    longest = λ k lt. absurd (omega (arith, lt));
    there = λ k lt. absurd (omega (arith, lt));
    short = omega arith;
  });
  closed = λ k r lt leads. absurd (omega (arith, lt));
  noted = record {
    each = λ i lt. absurd (omega (arith, lt));
    rising = λ i j below lt. absurd (omega (arith, lt));
    every = λ k r lt leads end. absurd (omega (arith, lt));
  };
  counted = refl;
  few = omega arith;
}

-- a key that no key is the same as
pub fresh_key : (ks : List Code) (k : Code) → list_any (is_same k) ks ≡ false
    → (j : ℕ) (y : Code) → slice_get ks j ≡ Some y → y.numbers.items ≡ k.numbers.items → ⊥
fresh_key [] k none j y h e = absurd (cc)
fresh_key (x ∷ ks) k none zero y h e =
    let same : x ≡ y = ap (λ (o : Option Code). unwrap_or o x) h in
    let yes : is_same k x ≡ true = (bytes_eq-Decides k.numbers.items x.numbers.items).1 (sym (ap (λ (v : Code). v.numbers.items) same ∙ e)) in
    absurd (grind (arith, yes, none))
fresh_key (x ∷ ks) k none (suc j) y h e = fresh_key ks k (rest_false (is_same k x) (list_any (is_same k) ks) none) j y h e
  where
    rest_false : (a b : Bool) → (a || b) ≡ false → b ≡ false
    rest_false true b g = absurd (cc)
    rest_false false b g = g

pub was_absent : (ks : List Code) (k : Code) (b : Bool)
    → b ≡ not (list_any (is_same k) ks) → b ≡ true → list_any (is_same k) ks ≡ false
was_absent ks k b e t = by (list_any (is_same k) ks) (sym e ∙ t)
  where
    by : (a : Bool) → not a ≡ true → a ≡ false
    by true g = absurd (cc)
    by false g = refl

-- and its witness is longer than that of the state that was taken last by one move at most
pub near_number : (p : Program) (keys : List Code) (ws : List (List Move)) (queue : List JavaProgramState) (at k : ℕ) (s : JavaProgramState)
    → IsSearch p keys ws queue (at + 1) → HasNumber p ws k s → IsNear p ws s (behind ws at)
near_number p keys ws queue at k s h is =
    let one : at + 1 - 1 ≡ at = omega arith in
    (k, is.0, is.1, subst (λ (j : ℕ). length (witness_at ws k) ≤ length (witness_at ws j) + 1) one (h.near k is.0))
