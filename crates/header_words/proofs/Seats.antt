-- Cutting a seat in two, joining two seats, and the load of the gate word.
use Rattle.std.proofs.Common.{◌≡◌, ◌≢◌, ◌⊎◌, ℕ, zero, suc, ◌+◌, Bool, true, false, Option, List, [], ◌∷◌, ◌++◌, length, set, refl, sym, ap, ◌∙◌, subst, arith, inl, inr, ⊎_elim, eq-eqb, ne_eqb, length-set, get_or-set_same, get_or-set_other, append-nil, true≢false}
use Rattle.std.specs.Prelude.{slice_index, if◌then◌else◌, ◌==◌}
use mathlib.Core.List.{IsPrefix}
use mathlib.Core.Option.{some, none, some-injective, some-ne-none}
use lib.ListN.{get_elem?}
use Rattle.atomic_table.specs.Table.{Me, step, keeps, Allows, Splits, Joins}
use Rattle.atomic_table.proofs.Lists.{at_set, at_longer, set_else}
use Rattle.lock_word.specs.declared.ObjectId.{ObjectId}
use Rattle.header_words.specs.declared.event.Event.{Event}
use Rattle.header_words.specs.declared.rule.Part.{Part}
use Rattle.header_words.specs.declared.rule.View.{View}
use Rattle.header_words.specs.Events.{own_events}
use Rattle.header_words.specs.Gate.{Gated}
use Rattle.header_words.specs.Rule.{Each, IsMine, AreApart, Knows, Ruled, spent_view, with_parts, kept_view, given_view, joined_view}
use Rattle.header_words.specs.Steps.{Syncs}
use Rattle.header_words.proofs.Gates.{not_taker, gated_seat, gated_moved}
use Rattle.header_words.proofs.Keeps.{each_map}
use Rattle.header_words.proofs.Prefixes.{longer_prefix, longer_own}

-- an element of a list with one more is an old one or the last
at_snoc_index : {A : Type 0} (l : List A) (a b : A) (j : ℕ) → get_elem? (l ++ a ∷ []) j ≡ some b → (get_elem? l j ≡ some b) ⊎ ((j ≡ length l) × (a ≡ b))
at_snoc_index [] a b zero e = inr (refl, some-injective a b e)
at_snoc_index [] a b (suc j) e = absurd (some-ne-none b (sym e))
at_snoc_index (x ∷ xs) a b zero e = inl e
at_snoc_index (x ∷ xs) a b (suc j) e = ⊎_elim (λ (t : get_elem? xs j ≡ some b). inl t) (λ (t : (j ≡ length xs) × (a ≡ b)). inr (ap suc t.0, t.1)) (at_snoc_index xs a b j e)

-- what holds of each of two lists holds of each of both
each_append : {X : Type 0} (P : X → Type 0) (xs ys : List X) → Each P xs → Each P ys → Each P (xs ++ ys)
each_append P [] ys h g = g
each_append P (x ∷ xs) ys h g = (h.0, each_append P xs ys h.1 g)

-- a part of another seat's, or of another view
pub moved : (lows : List ℕ) (count : ℕ) (log : List Event) (seat_of now : ℕ → ℕ) (k l : ℕ) (v w : View) (p : Part) → IsMine lows count log seat_of k v p → w.lows ≡ lows → w.count ≡ count → own_events p.index w.seen ≡ p.mine → now p.index ≡ l → IsMine lows count log now l w p
moved lows count log seat_of now k l v w p m same same_count seen seat = record { same = same; same_count = same_count; low = m.low; high = m.high; all = m.all; seen_all = seen; seat = seat }

-- a seat knows the same where other indices move
knows_moved : (lows : List ℕ) (count : ℕ) (log : List Event) (seat_of now : ℕ → ℕ) (k : ℕ) (v : View) → ((i : ℕ) → seat_of i ≡ k → now i ≡ k) → Knows lows count log seat_of k v → Knows lows count log now k v
knows_moved lows count log seat_of now k v f h = record {
  seen = h.seen;
  earlier = h.earlier;
  parts = each_map (IsMine lows count log seat_of k v) (IsMine lows count log now k v) (λ p m. moved lows count log seat_of now k k v v p m m.same m.same_count m.seen_all (f p.index m.seat)) v.parts h.parts;
  apart = h.apart;
}

-- the rule is kept where the first index goes to a new seat
forks_at : {B : Type 0} (bound : B → List ObjectId) (lows : List ℕ) (count id : ℕ) (v : View) (p : Part) (ps : List Part) → v.has_gate ≡ false → Splits (Ruled bound lows count) id (with_parts v v.steps (p ∷ ps)) (with_parts v (suc v.steps) ps) (with_parts v 0 (p ∷ []))
forks_at bound lows count id v p ps plain s r at = record {
  log = r.log;
  locks = r.locks;
  seat_of = now;
  bytes = r.bytes;
  few = r.few;
  replays = r.replays;
  wide = r.wide;
  words = r.words;
  views = λ k u found. ⊎_elim
      (λ (was : get_elem? (set s.views id (with_parts v (suc v.steps) ps)) k ≡ some u). ⊎_elim
      (λ (t : (k ≡ id) × (with_parts v (suc v.steps) ps ≡ u)). subst (λ (z : ℕ × View). Knows lows count r.log now z.0 z.1) (λ j. (sym t.0 j, t.1 j)) kept)
      (λ (t : (k ≢ id) × (get_elem? s.views k ≡ some u)). knows_moved lows count r.log r.seat_of now k u (λ i is. elsewhere i (λ (e : i ≡ p.index). t.0 (sym is ∙ (ap r.seat_of e ∙ h.parts.0.seat))) ∙ is) (r.views k u t.1))
      (at_set s.views id k (with_parts v (suc v.steps) ps) u was))
      (λ (t : (k ≡ length (set s.views id (with_parts v (suc v.steps) ps))) × (with_parts v 0 (p ∷ []) ≡ u)).
      subst (λ (z : ℕ × View). Knows lows count r.log now z.0 z.1) (λ j. (sym (t.0 ∙ length-set s.views id (with_parts v (suc v.steps) ps)) j, t.1 j)) given)
      (at_snoc_index (set s.views id (with_parts v (suc v.steps) ps)) (with_parts v 0 (p ∷ [])) u k found);
  gated = gated_moved bound count r.log r.seat_of now gate s.homes s.views (set s.views id (with_parts v (suc v.steps) ps) ++ with_parts v 0 (p ∷ []) ∷ []) old (λ shut. elsewhere gate (λ e. away shut (ap r.seat_of e ∙ h.parts.0.seat)))
      (λ shut u found. at_longer (set s.views id (with_parts v (suc v.steps) ps)) (with_parts v 0 (p ∷ []) ∷ []) (r.seat_of gate) u (set_else s.views id (r.seat_of gate) (with_parts v (suc v.steps) ps) (away shut) ∙ found)) r.gated;
}
  where
    gate : ℕ
    gate = slice_index s.words 0

    away : gate ≢ 0 → r.seat_of gate ≢ id
    away = not_taker bound count r.log r.seat_of gate s.homes s.views id (with_parts v v.steps (p ∷ ps)) at plain r.gated

    without : (u : View) → v.has_gate ≡ u.has_gate → u.has_gate ≡ true → ⊥
    without u same has = true≢false (sym has ∙ (sym same ∙ plain))

    old : (k : ℕ) (u : View) → get_elem? (set s.views id (with_parts v (suc v.steps) ps) ++ with_parts v 0 (p ∷ []) ∷ []) k ≡ some u → u.has_gate ≡ true → get_elem? s.views k ≡ some u
    old k u found has = ⊎_elim
        (λ (was : get_elem? (set s.views id (with_parts v (suc v.steps) ps)) k ≡ some u). ⊎_elim
        (λ (t : (k ≡ id) × (with_parts v (suc v.steps) ps ≡ u)). absurd (without u (ap (λ (z : View). z.has_gate) t.1) has))
        (λ (t : (k ≢ id) × (get_elem? s.views k ≡ some u)). t.1)
        (at_set s.views id k (with_parts v (suc v.steps) ps) u was))
        (λ (t : (k ≡ length (set s.views id (with_parts v (suc v.steps) ps))) × (with_parts v 0 (p ∷ []) ≡ u)). absurd (without u (ap (λ (z : View). z.has_gate) t.1) has))
        (at_snoc_index (set s.views id (with_parts v (suc v.steps) ps)) (with_parts v 0 (p ∷ [])) u k found)

    now : ℕ → ℕ
    now i = if i == p.index then length s.views else r.seat_of i

    elsewhere : (i : ℕ) → i ≢ p.index → now i ≡ r.seat_of i
    elsewhere i ne = ap (λ (b : Bool). if b then length s.views else r.seat_of i) (ne_eqb i p.index ne)

    here : now p.index ≡ length s.views
    here = ap (λ (b : Bool). if b then length s.views else r.seat_of p.index) (eq-eqb p.index p.index refl)

    h : Knows lows count r.log r.seat_of id (with_parts v v.steps (p ∷ ps))
    h = r.views id (with_parts v v.steps (p ∷ ps)) at

    both : (qs : List Part) → Each (λ q. p.index ≢ q.index) qs → Each (IsMine lows count r.log r.seat_of id (with_parts v v.steps (p ∷ ps))) qs → Each (IsMine lows count r.log now id (with_parts v (suc v.steps) ps)) qs
    both [] a m = tt
    both (q ∷ qs) a m = (moved lows count r.log r.seat_of now id id (with_parts v v.steps (p ∷ ps)) (with_parts v (suc v.steps) ps) q m.0 m.0.same m.0.same_count m.0.seen_all (elsewhere q.index (λ (e : q.index ≡ p.index). a.0 (sym e)) ∙ m.0.seat), both qs a.1 m.1)

    kept : Knows lows count r.log now id (with_parts v (suc v.steps) ps)
    kept = record { seen = h.seen; earlier = h.earlier; parts = both ps h.apart.0 h.parts.1; apart = h.apart.1 }

    given : Knows lows count r.log now (length s.views) (with_parts v 0 (p ∷ []))
    given = record {
      seen = h.seen;
      earlier = h.earlier;
      parts = (moved lows count r.log r.seat_of now id (length s.views) (with_parts v v.steps (p ∷ ps)) (with_parts v 0 (p ∷ [])) p h.parts.0 h.parts.0.same h.parts.0.same_count h.parts.0.seen_all here, tt);
      apart = (tt, tt);
    }

-- the first index goes to a new seat
pub forks : {B : Type 0} (bound : B → List ObjectId) (lows : List ℕ) (count id : ℕ) (v : View) (p : Part) (ps : List Part) → v.parts ≡ p ∷ ps → v.has_gate ≡ false → Splits (Ruled bound lows count) id v (kept_view v) (given_view v)
forks bound lows count id v p ps is plain = subst (λ (qs : List Part). Splits (Ruled bound lows count) id (with_parts v v.steps qs) (kept_view (with_parts v v.steps qs)) (given_view (with_parts v v.steps qs))) (sym is) (forks_at bound lows count id v p ps plain)

-- indices that differ in each of two lists, and between them
apart_append : (xs ys : List Part) → AreApart xs → AreApart ys → Each (λ p. Each (λ q. p.index ≢ q.index) ys) xs → AreApart (xs ++ ys)
apart_append [] ys h g f = g
apart_append (x ∷ xs) ys h g f = (each_append (λ q. x.index ≢ q.index) xs ys h.0 f.0, apart_append xs ys h.1 g f.1)

-- an index given to another seat is not one's own
apart_seats : (lows : List ℕ) (count : ℕ) (log : List Event) (seat_of : ℕ → ℕ) (k l : ℕ) (v w : View) → k ≢ l → (xs ys : List Part) → Each (IsMine lows count log seat_of k v) xs → Each (IsMine lows count log seat_of l w) ys → Each (λ p. Each (λ q. p.index ≢ q.index) ys) xs
apart_seats lows count log seat_of k l v w ne [] ys h g = tt
apart_seats lows count log seat_of k l v w ne (x ∷ xs) ys h g = (each_map (IsMine lows count log seat_of l w) (λ q. x.index ≢ q.index) (λ q m e. ne (sym h.0.seat ∙ (ap seat_of e ∙ m.seat))) ys g, apart_seats lows count log seat_of k l v w ne xs ys h.1 g)

-- the rule is kept where a seat takes in another
merges_at : {B : Type 0} (bound : B → List ObjectId) (lows : List ℕ) (count id other : ℕ) (v w : View) (p : Part) (ps : List Part) → v.parts ≡ p ∷ ps → v.has_gate ≡ false → w.has_gate ≡ false → Joins (Ruled bound lows count) id v other w (joined_view v w) spent_view
merges_at bound lows count id other v w p ps is plain_v plain_w s r at apart there = record {
  log = r.log;
  locks = r.locks;
  seat_of = now;
  bytes = r.bytes;
  few = r.few;
  replays = r.replays;
  wide = r.wide;
  words = r.words;
  views = λ k u found. ⊎_elim
      (λ (t : (k ≡ other) × (spent_view ≡ u)). subst (λ (z : ℕ × View). Knows lows count r.log now z.0 z.1) (λ j. (sym t.0 j, t.1 j)) spent)
      (λ (o : (k ≢ other) × (get_elem? (set s.views id (joined_view v w)) k ≡ some u)). ⊎_elim
      (λ (t : (k ≡ id) × (joined_view v w ≡ u)). subst (λ (z : ℕ × View). Knows lows count r.log now z.0 z.1) (λ j. (sym t.0 j, t.1 j)) joined)
      (λ (t : (k ≢ id) × (get_elem? s.views k ≡ some u)). knows_moved lows count r.log r.seat_of now k u (λ i e. elsewhere i (λ (x : r.seat_of i ≡ other). o.0 (sym e ∙ x)) ∙ e) (r.views k u t.1))
      (at_set s.views id k (joined_view v w) u o.1))
      (at_set (set s.views id (joined_view v w)) other k spent_view u found);
  gated = gated_moved bound count r.log r.seat_of now gate s.homes s.views (set (set s.views id (joined_view v w)) other spent_view) old (λ shut. elsewhere gate (away_w shut))
      (λ shut u found. set_else (set s.views id (joined_view v w)) other (r.seat_of gate) spent_view (away_w shut) ∙ (set_else s.views id (r.seat_of gate) (joined_view v w) (away_v shut) ∙ found)) r.gated;
}
  where
    gate : ℕ
    gate = slice_index s.words 0

    was_there : get_elem? s.views other ≡ some w
    was_there = ⊎_elim (λ (t : (other ≡ id) × (joined_view v w ≡ w)). absurd (apart t.0)) (λ (t : (other ≢ id) × (get_elem? s.views other ≡ some w)). t.1) (at_set s.views id other (joined_view v w) w there)

    away_v : gate ≢ 0 → r.seat_of gate ≢ id
    away_v = not_taker bound count r.log r.seat_of gate s.homes s.views id v at plain_v r.gated

    away_w : gate ≢ 0 → r.seat_of gate ≢ other
    away_w = not_taker bound count r.log r.seat_of gate s.homes s.views other w was_there plain_w r.gated

    without : (u : View) → false ≡ u.has_gate → u.has_gate ≡ true → ⊥
    without u same has = true≢false (sym has ∙ sym same)

    old : (k : ℕ) (u : View) → get_elem? (set (set s.views id (joined_view v w)) other spent_view) k ≡ some u → u.has_gate ≡ true → get_elem? s.views k ≡ some u
    old k u found has = ⊎_elim
        (λ (t : (k ≡ other) × (spent_view ≡ u)). absurd (without u (ap (λ (z : View). z.has_gate) t.1) has))
        (λ (o : (k ≢ other) × (get_elem? (set s.views id (joined_view v w)) k ≡ some u)). ⊎_elim
        (λ (t : (k ≡ id) × (joined_view v w ≡ u)). absurd (without u (ap (λ (z : View). z.has_gate) t.1) has))
        (λ (t : (k ≢ id) × (get_elem? s.views k ≡ some u)). t.1)
        (at_set s.views id k (joined_view v w) u o.1))
        (at_set (set s.views id (joined_view v w)) other k spent_view u found)

    now : ℕ → ℕ
    now i = if r.seat_of i == other then id else r.seat_of i

    elsewhere : (i : ℕ) → r.seat_of i ≢ other → now i ≡ r.seat_of i
    elsewhere i ne = ap (λ (b : Bool). if b then id else r.seat_of i) (ne_eqb (r.seat_of i) other ne)

    here : (i : ℕ) → r.seat_of i ≡ other → now i ≡ id
    here i e = ap (λ (b : Bool). if b then id else r.seat_of i) (eq-eqb (r.seat_of i) other e)

    one : Knows lows count r.log r.seat_of id v
    one = r.views id v at

    two : Knows lows count r.log r.seat_of other w
    two = r.views other w was_there

    first : IsMine lows count r.log r.seat_of id v p
    first = (subst (Each (IsMine lows count r.log r.seat_of id v)) is one.parts).0

    joined : Knows lows count r.log now id (joined_view v w)
    joined = record {
      seen = longer_prefix v.seen w.seen r.log one.seen two.seen;
      earlier = each_append (λ old. IsPrefix old r.log) (v.seen ∷ v.earlier) (w.seen ∷ w.earlier) (one.seen, one.earlier) (two.seen, two.earlier);
      parts = each_append (IsMine lows count r.log now id (joined_view v w)) v.parts w.parts
          (each_map (IsMine lows count r.log r.seat_of id v) (IsMine lows count r.log now id (joined_view v w))
          (λ q m. moved lows count r.log r.seat_of now id id v (joined_view v w) q m first.same first.same_count (longer_own q.index q.mine v.seen w.seen r.log one.seen two.seen m.all (inl m.seen_all)) (elsewhere q.index (λ (x : r.seat_of q.index ≡ other). apart (sym x ∙ m.seat)) ∙ m.seat)) v.parts one.parts)
          (each_map (IsMine lows count r.log r.seat_of other w) (IsMine lows count r.log now id (joined_view v w))
          (λ q m. moved lows count r.log r.seat_of now other id w (joined_view v w) q m first.same first.same_count (longer_own q.index q.mine v.seen w.seen r.log one.seen two.seen m.all (inr m.seen_all)) (here q.index m.seat)) w.parts two.parts);
      apart = apart_append v.parts w.parts one.apart two.apart (apart_seats lows count r.log r.seat_of id other v w (λ (e : id ≡ other). apart (sym e)) v.parts w.parts one.parts two.parts);
    }

    spent : Knows lows count r.log now other spent_view
    spent = record { seen = (r.log, refl); earlier = tt; parts = tt; apart = tt }

-- a seat with an index takes in another
pub merges : {B : Type 0} (bound : B → List ObjectId) (lows : List ℕ) (count id other : ℕ) (v w : View) (p : Part) (ps : List Part) → v.parts ≡ p ∷ ps → v.has_gate ≡ false → w.has_gate ≡ false → Joins (Ruled bound lows count) id v other w (joined_view v w) spent_view
merges = merges_at

-- the load of the gate word
pub syncs : {B : Type 0} (bound : B → List ObjectId) (lows : List ℕ) (count slots id : ℕ) (me : Me (Option B) View) → Allows (Ruled bound lows count) slots id me 0 (λ n. n) (Syncs (step slots 0 0 0 none) me)
syncs bound lows count slots id me s r _ at _ = (
  w,
  keeps,
  tt,
  record {
    log = r.log;
    locks = r.locks;
    seat_of = r.seat_of;
    bytes = r.bytes;
    few = r.few;
    replays = r.replays;
    wide = length-set s.words 0 (slice_index s.words 0) ∙ r.wide;
    words = λ o lt. get_or-set_other s.words 0 (o + 1) (slice_index s.words 0) 0 (omega arith) ∙ r.words o lt;
    views = λ k u found. ⊎_elim
        (λ (t : (k ≡ id) × (w ≡ u)). subst (λ (z : ℕ × View). Knows lows count r.log r.seat_of z.0 z.1) (λ j. (sym t.0 j, t.1 j)) here)
        (λ (t : (k ≢ id) × (get_elem? s.views k ≡ some u)). r.views k u t.1)
        (at_set s.views id k w u found);
    gated = subst (λ (gate : ℕ). Gated bound count r.log r.seat_of gate s.homes (set s.views id w)) (sym (get_or-set_same s.words 0 (slice_index s.words 0) 0 (let wide = r.wide in omega arith)))
        (gated_seat bound count r.log r.log r.seat_of (slice_index s.words 0) s.homes s.views id me.0 w at (λ p q h. h) refl (inr (λ p q h. h)) r.gated);
  },
  (
    record {
      view = refl;
      seen = h.seen;
      earlier = h.earlier;
      apart = h.apart;
      parts = each_map (IsMine lows count r.log r.seat_of id me.0) (λ p. own_events p.index r.log ≡ p.mine) (λ p m. m.all) me.0.parts h.parts;
      lows = lows;
      count = count;
      same = each_map (IsMine lows count r.log r.seat_of id me.0) (λ p. (me.0.lows ≡ lows) × (me.0.count ≡ count)) (λ p m. (m.same, m.same_count)) me.0.parts h.parts;
      locks = r.locks;
      replays = r.replays;
    },
    refl,
  ),
)
  where
    w : View
    w = record { lows = me.0.lows; count = me.0.count; parts = me.0.parts; seen = r.log; earlier = []; has_gate = me.0.has_gate; steps = suc me.0.steps }

    h : Knows lows count r.log r.seat_of id me.0
    h = r.views id me.0 at

    here : Knows lows count r.log r.seat_of id w
    here = record {
      seen = ([], append-nil r.log);
      earlier = tt;
      parts = each_map (IsMine lows count r.log r.seat_of id me.0) (IsMine lows count r.log r.seat_of id w) (λ p m. moved lows count r.log r.seat_of r.seat_of id id me.0 w p m m.same m.same_count m.all m.seat) me.0.parts h.parts;
      apart = h.apart;
    }
