-- The seats of all passes become one, and what is known of the words in the end.
use Rattle.std.proofs.Common.{◌≡◌, ℕ, zero, suc, ◌+◌, ◌<◌, false, Option, Some, None, List, [], ◌∷◌, ◌++◌, length, map, get_or, All, inl, inr, ⊎_elim, refl, sym, ap, ◌∙◌, subst, arith, append_assoc, length-append}
use Rattle.std.specs.Prelude.{slice_index}
use lib.Seq.{get_or-append_seam}
use lib.ListN.{get_elem?, get_or-append}
use mathlib.Core.List.{map-append}
use native.Mathlib.Decide.{ℕ_discrete}
use Rattle.std.proofs.lemmas.List.{length-map}
use Rattle.lock_word.specs.declared.ObjectId.{ObjectId}
use Rattle.lock_word.specs.declared.Word.{Word}
use Rattle.std.specs.List.{Contains}
use mathlib.Core.Option.{some, some-injective, some-ne-none}
use mathlib.Core.List.{IsPrefix}
use Rattle.atomic_table.specs.Seated.{TableId}
use Rattle.atomic_table.specs.Table.{State, Joins, Final, Seen}
use Rattle.header_words.specs.declared.rule.Layout.{Layout}
use Rattle.header_words.specs.declared.rule.Part.{Part}
use Rattle.header_words.specs.declared.rule.View.{View}
use Rattle.header_words.specs.Bindings.{Covers}
use Rattle.header_words.specs.Events.{own_events, lock_at, depth}
use Rattle.header_words.specs.Steps.{ShowsDepth}
use Rattle.header_words.specs.WideWords.{word_of}
use Rattle.header_words.specs.Rule.{Each, part, IsMine, Knows, Ruled, spent_view, joined_view}
use Rattle.header_words.specs.Passes.{PassValue, parts_of, seen_lists, Within, TookAll, IsClosed, Opening, opening_of, indices_of, HasAll}
use Rattle.header_words.proofs.Gates.{not_taker}
use Rattle.header_words.proofs.Traces.{small_word, fits_all, shows_depth, depth_is_holds}
use Rattle.header_words.proofs.Keeps.{each_map}
use Rattle.header_words.proofs.Seats.{merges}

-- of all passes those on the left are still to come, and the seat has the parts of the others, and what they have seen
pub record Joining (all left : List PassValue) (v : View) : Type 0 where
  pub first : PassValue
  pub taken : List PassValue
  pub split : all ≡ left ++ first ∷ taken
  pub has : v.parts ≡ parts_of (first ∷ taken)
  pub saw : Each (λ p. Within p.seen (seen_lists v)) (first ∷ taken)
  pub plain : v.has_gate ≡ false

-- an element of the left list is one of both
within_left : {X : Type 0} (x : X) (xs ys : List X) → Within x xs → Within x (xs ++ ys)
within_left x [] ys h = absurd h
within_left x (z ∷ xs) ys h = ⊎_elim (λ (e : z ≡ x). inl e) (λ (w : Within x xs). inr (within_left x xs ys w)) h

-- and so is one of the right list
within_right : {X : Type 0} (x : X) (xs ys : List X) → Within x ys → Within x (xs ++ ys)
within_right x [] ys h = h
within_right x (z ∷ xs) ys h = inr (within_right x xs ys h)

-- what holds of each holds of one within
within_each : {X : Type 0} (P : X → Type 0) (x : X) (xs : List X) → Each P xs → Within x xs → P x
within_each P x [] h w = absurd w
within_each P x (y ∷ ys) h w = ⊎_elim (λ (e : y ≡ x). subst P e h.0) (λ (t : Within x ys). within_each P x ys h.1 t) w

-- a list with a last element has a first
snoc_cons : (xs : List Part) (y : Part) → (q : Part) × (qs : List Part) × (xs ++ y ∷ [] ≡ q ∷ qs)
snoc_cons [] y = (y, [], refl)
snoc_cons (x ∷ xs) y = (x, xs ++ y ∷ [], refl)

-- what holds of all holds of one in the middle
pub all_mid : (P : PassValue → Type 0) (xs ys : List PassValue) (x : PassValue) → All P (xs ++ x ∷ ys) → P x
all_mid P xs ys x h = subst P (get_or-append_seam xs x ys x) (h (length xs) x (let e : length (xs ++ x ∷ ys) ≡ length xs + length (x ∷ ys) = length-append xs (x ∷ ys) in omega arith))

-- one pass more
pub joining_next : (all left now : List PassValue) (x : PassValue) (v w u : View) → left ≡ now ++ x ∷ [] → Joining all left v → w.parts ≡ part x.index x.mine ∷ [] → w.seen ≡ x.seen → u ≡ joined_view v w → Joining all now u
joining_next all left now x v w u e j h saw is = subst (λ (y : View). Joining all now y) (sym is) record {
  first = x;
  taken = j.first ∷ j.taken;
  split = j.split ∙ (ap (λ (l : List PassValue). l ++ j.first ∷ j.taken) e ∙ append_assoc now (x ∷ []) (j.first ∷ j.taken));
  has = (λ k. j.has k ++ h k);
  saw = (
    inr (within_right x.seen (seen_lists v) (seen_lists w) (inl saw)),
    each_map (λ (p : PassValue). Within p.seen (seen_lists v)) (λ (p : PassValue). Within p.seen (seen_lists (joined_view v w))) (λ p t. inr (within_left p.seen (seen_lists v) (seen_lists w) t)) (j.first ∷ j.taken) j.saw,
  );
  plain = refl;
}

-- the seat may take in one more
pub joins_more : {B : Type 0} (bound : B → List ObjectId) (key : Layout) (id other : ℕ) (v w : View) (all left : List PassValue) → Joining all left v → w.has_gate ≡ false → Joins (Ruled bound key.lows.items key.count) id v other w (joined_view v w) spent_view
joins_more bound key id other v w all left j plain = let s = snoc_cons (parts_of j.taken) (part j.first.index j.first.mine) in merges bound key.lows.items key.count id other v w s.0 s.1 (j.has ∙ s.2) j.plain plain

-- what holds of each of two lists holds of each of the left
each_left : (P : Part → Type 0) (xs ys : List Part) → Each P (xs ++ ys) → Each P xs
each_left P [] ys h = tt
each_left P (x ∷ xs) ys h = (h.0, each_left P xs ys h.1)

-- and of the last element
each_last : (P : Part → Type 0) (xs : List Part) (y : Part) → Each P (xs ++ y ∷ []) → P y
each_last P [] y h = h.0
each_last P (x ∷ xs) y h = each_last P xs y h.1

-- what holds of each part holds of each pass
each_of : (P : Part → Type 0) (ps : List PassValue) → Each P (parts_of ps) → Each (λ (p : PassValue). P (part p.index p.mine)) ps
each_of P [] h = tt
each_of P (p ∷ ps) h = (each_last P (parts_of ps) (part p.index p.mine) h, each_of P ps (each_left P (parts_of ps) (part p.index p.mine ∷ []) h))

-- what holds of each holds of all, as std says it
all_of : {X : Type 0} (P : X → Type 0) (xs : List X) → Each P xs → All P xs
all_of P [] h k d lt = absurd (omega arith)
all_of P (x ∷ xs) h zero d lt = h.0
all_of P (x ∷ xs) h (suc k) d lt = all_of P xs h.1 k d (omega arith)

-- what closing a table tells of its words and its slot
abbrev pub Ended : {B : Type 0} → (B → List ObjectId) → Layout → ℕ → View → List ℕ → List (Option B) → Type 0
Ended bound key id v ws xs = Final (Seen (Ruled bound key.lows.items key.count) id v) ws xs

-- what a slot has
some_of : {B : Type 0} (a b : B) → Some a ≡ Some b → a ≡ b
some_of a b e = cc

-- a slot is not both full and empty
some_or_none : {B : Type 0} (a : B) → Some a ≡ None → ⊥
some_or_none a e = absurd (cc)

-- an index of one of the passes is given to the seat that all of them have
seat_of_all : (seat_of : ℕ → ℕ) (id : ℕ) (ps : List PassValue) (i : ℕ) → Each (λ (p : PassValue). seat_of p.index ≡ id) ps → (k : ℕ) → k < length (indices_of ps) → get_or (indices_of ps) k i ≡ i → seat_of i ≡ id
seat_of_all seat_of id [] i h k lt e = absurd (let l : k < 0 = lt in omega arith)
seat_of_all seat_of id (p ∷ ps) i h zero lt e = ap seat_of (sym e) ∙ h.0
seat_of_all seat_of id (p ∷ ps) i h (suc k) lt e = seat_of_all seat_of id ps i h.1 k (let l : suc k < suc (length (indices_of ps)) = lt in omega arith) e

-- where a seat without the gate has all indices, the gate is open
gate_is_open : {B : Type 0} (bound : B → List ObjectId) (lows : List ℕ) (count id : ℕ) (v : View) (ps : List PassValue) (s : State (Option B) View) (r : Ruled bound lows count s) → get_elem? s.views id ≡ some v → TookAll ps v → HasAll count ps → slice_index s.words 0 ≡ 0
gate_is_open bound lows count id v ps s r at is all = go (ℕ_discrete gate 0)
  where
    gate : ℕ
    gate = slice_index s.words 0

    seats : Each (λ (p : PassValue). r.seat_of p.index ≡ id) ps
    seats = each_of (λ q. r.seat_of q.index ≡ id) ps (subst (Each (λ q. r.seat_of q.index ≡ id)) is.parts (each_map (IsMine lows count r.log r.seat_of id v) (λ q. r.seat_of q.index ≡ id) (λ q m. m.seat) v.parts (r.views id v at).parts))

    go : Dec (gate ≡ 0) → gate ≡ 0
    go (yes e) = e
    go (no ne) = let h = r.gated.taken ne in
        let has = all gate (omega arith) h.0 in
        absurd (not_taker bound count r.log r.seat_of gate s.homes s.views id v at is.plain r.gated ne (seat_of_all r.seat_of id ps gate seats has.0 has.1 has.2))

-- the words in the end, by the low bytes and the count
ends_of : {B : Type 0} (bound : B → List ObjectId) (lows : List ℕ) (count id : ℕ) (v : View) (ps : List PassValue) (ws : List ℕ) (xs : List (Option B)) → Final (Seen (Ruled bound lows count) id v) ws xs → TookAll ps v → HasAll count ps → (b : B) → get_elem? xs 0 ≡ some (Some b)
    → (words : List ℕ) → length words ≡ length lows → ((o : ℕ) → o < length lows → slice_index words o ≡ slice_index ws (o + 1)) → (z : TableId) → IsClosed (record { table = z; lows = lows; count = count }) ps words (bound b)
ends_of bound lows count id v ps ws xs f is all b kept words wide same z =
    let r = f.1.0 in
    let k : Knows lows count r.log r.seat_of id v = r.views id v f.1.1 in
    let each : (o : ℕ) → o < length lows → slice_index words o ≡ word_of (lock_at r.locks o) (slice_index lows o) = λ o lt. same o lt ∙ (ap (λ (l : List ℕ). slice_index l (o + 1)) (sym f.2) ∙ r.words o lt) in
    let mine : Each (λ (p : PassValue). own_events p.index r.log ≡ p.mine) ps =
    each_of (λ q. own_events q.index r.log ≡ q.mine) ps (subst (Each (λ q. own_events q.index r.log ≡ q.mine)) is.parts (each_map (IsMine lows count r.log r.seat_of id v) (λ q. own_events q.index r.log ≡ q.mine) (λ q m. m.all) v.parts k.parts)) in
    record {
      log = r.log;
      locks = r.locks;
      replays = r.replays;
      mine = all_of (λ (p : PassValue). own_events p.index r.log ≡ p.mine) ps mine;
      seen = all_of (λ (p : PassValue). IsPrefix p.seen r.log) ps (each_map (λ (p : PassValue). Within p.seen (seen_lists v)) (λ (p : PassValue). IsPrefix p.seen r.log) (λ p t. within_each (λ old. IsPrefix old r.log) p.seen (seen_lists v) (k.seen, k.earlier) t) ps is.saw);
      wide = wide;
      each = each;
      shows = all_of (λ (p : PassValue). (o : ℕ) → o < length lows → ShowsDepth p.index (depth o p.mine) (slice_index lows o) (slice_index words o)) ps
          (each_map (λ (p : PassValue). own_events p.index r.log ≡ p.mine) (λ (p : PassValue). (o : ℕ) → o < length lows → ShowsDepth p.index (depth o p.mine) (slice_index lows o) (slice_index words o))
          (λ p m o lt. shows_depth p.index (depth o p.mine) (lock_at r.locks o) (slice_index lows o) (slice_index words o) (fits_all lows count r.log r.locks r.few r.replays o) (r.bytes o)
          (ap (depth o) (sym m) ∙ depth_is_holds lows count p.index o r.log r.locks r.replays) (each o lt)) ps mine);
      covers = let h = r.gated.home (gate_is_open bound lows count id v ps f.0 r f.1.1 is all) in
          let found : h.0 ≡ b = some_of h.0 b (some-injective (Some h.0) (Some b) (sym (f.4 0 (Some h.0) h.1) ∙ kept)) in
          subst (λ x. Covers (bound x) r.log) found h.2;
    }

-- the words in the end
pub ends : {B : Type 0} (bound : B → List ObjectId) (key layout : Layout) (id : ℕ) (v : View) (ps : List PassValue) (ws : List ℕ) (xs : List (Option B)) → key ≡ layout → Ended bound key id v ws xs → TookAll ps v → HasAll layout.count ps → (b : B) → get_elem? xs 0 ≡ some (Some b)
    → (words : List ℕ) → length words ≡ length layout.lows.items → ((o : ℕ) → o < length layout.lows.items → slice_index words o ≡ slice_index ws (o + 1)) → (z : TableId) → IsClosed (opening_of z layout) ps words (bound b)
ends bound key layout id v ps ws xs same f = ends_of bound layout.lows.items layout.count id v ps ws xs (subst (λ (k : Layout). Ended bound k id v ws xs) same f)

-- a word in the end has 32 bits
pub ends_small : {B : Type 0} (bound : B → List ObjectId) (key layout : Layout) (id : ℕ) (v : View) (ws : List ℕ) (xs : List (Option B)) → key ≡ layout → Ended bound key id v ws xs → (o : ℕ) → o < length layout.lows.items → slice_index ws (o + 1) < 4294967296
ends_small bound key layout id v ws xs same g o lt =
    let f : Ended bound layout id v ws xs = subst (λ (k : Layout). Ended bound k id v ws xs) same g in
    let r = f.1.0 in
    let low : ℕ = slice_index layout.lows.items o in
    let small = small_word (lock_at r.locks o) low (fits_all layout.lows.items layout.count r.log r.locks r.few r.replays o) (r.bytes o) in
    subst (λ (n : ℕ). n < 4294967296) (sym (ap (λ (l : List ℕ). slice_index l (o + 1)) (sym f.2) ∙ r.words o lt)) small

-- and the slot has the book
pub ends_some : {B : Type 0} (bound : B → List ObjectId) (key layout : Layout) (id : ℕ) (v : View) (ps : List PassValue) (ws : List ℕ) (xs : List (Option B)) → key ≡ layout → Ended bound key id v ws xs → TookAll ps v → HasAll layout.count ps → get_elem? xs 0 ≡ some None → ⊥
ends_some bound key layout id v ps ws xs same g is all gone =
    let f : Ended bound layout id v ws xs = subst (λ (k : Layout). Ended bound k id v ws xs) same g in
    let r = f.1.0 in
    let h = r.gated.home (gate_is_open bound layout.lows.items layout.count id v ps f.0 r f.1.1 is all) in
    some_or_none h.0 (some-injective (Some h.0) None (sym (f.4 0 (Some h.0) h.1) ∙ gone))

-- an element that is there
pub index_at : (l : List ℕ) (i a : ℕ) → get_elem? l i ≡ some a → slice_index l i ≡ a
index_at [] i a e = absurd (some-ne-none a (sym e))
index_at (x ∷ xs) zero a e = some-injective x a e
index_at (x ∷ xs) (suc i) a e = index_at xs i a e

-- the words that were read, and one more
pub each_push : (items : List Word) (ws : List ℕ) (w : Word) (o : ℕ) → length items ≡ o → ((k : ℕ) → k < o → slice_index (map (λ (x : Word). x.0) items) k ≡ slice_index ws (k + 1)) → w.0 ≡ slice_index ws (o + 1)
    → (k : ℕ) → k < o + 1 → slice_index (map (λ (x : Word). x.0) (items ++ w ∷ [])) k ≡ slice_index ws (k + 1)
each_push items ws w o len all new k lt = ap (λ (l : List ℕ). slice_index l k) (map-append (λ (x : Word). x.0) items (w ∷ [])) ∙ go (ℕ_discrete k o)
  where
    ys : List ℕ
    ys = map (λ (x : Word). x.0) items

    long : length ys ≡ o
    long = simp length-map len

    go : Dec (k ≡ o) → slice_index (ys ++ w.0 ∷ []) k ≡ slice_index ws (k + 1)
    go (yes is) = ap (slice_index (ys ++ w.0 ∷ [])) (is ∙ sym long) ∙ (get_or-append_seam ys w.0 [] 0 ∙ (new ∙ ap (λ (n : ℕ). slice_index ws (n + 1)) (sym is)))
    go (no ne) = let e : length ys ≡ o = long in let below : k < o = omega arith in get_or-append ys (w.0 ∷ []) 0 k (subst (λ (n : ℕ). k < n) (sym e) below) ∙ all k below

-- a list with an element at an index is not empty
pub some_pass : (ps : List PassValue) (i : ℕ) → Contains (indices_of ps) i → 0 < length ps
some_pass [] i h = let lt : h.0 < 0 = h.1 in absurd (omega arith)
some_pass (p ∷ ps) i h = omega arith

-- passes that are all there by the layout are so by the opening
pub all_there : (t : TableId) (layout : Layout) (z : Opening) (ps qs : List PassValue) → opening_of t layout ≡ z → qs ≡ ps → HasAll layout.count qs → HasAll z.count ps
all_there t layout z ps qs is same h = subst (λ (y : Opening × List PassValue). HasAll y.0.count y.1) (λ k. (is k, same k)) h

-- a number that is not 0 is above it
pub above_0 : (n : ℕ) → (n ≡ 0 → ⊥) → 0 < n
above_0 zero h = absurd (h refl)
above_0 (suc n) h = omega arith
