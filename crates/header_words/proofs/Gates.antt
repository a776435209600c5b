-- What steps do to the gate and the book behind it.
use Rattle.std.proofs.Common.{◌≡◌, ◌≢◌, ◌⊎◌, ℕ, zero, suc, ◌<◌, ◌≤◌, Bool, true, false, Option, Some, List, [], ◌∷◌, length, set, refl, sym, ap, ◌∙◌, subst, ⊎_elim, true≢false}
use mathlib.Core.Option.{some, none, some-injective, some-ne-none}
use mathlib.Core.Option.{Option as Home}
use native.Mathlib.Decide.{ℕ_discrete}
use lib.ListN.{get_elem?}
use Rattle.atomic_table.proofs.Lists.{at_set, set_here, set_else}
use Rattle.lock_word.specs.declared.ObjectId.{ObjectId}
use Rattle.header_words.specs.declared.event.Event.{Event}
use Rattle.header_words.specs.declared.rule.View.{View}
use Rattle.header_words.specs.Bindings.{HasPublish, HasPublishesOf, Covers}
use Rattle.header_words.specs.Gate.{Gated}

-- a seat does not both have the gate and not
both_ways : (b : Bool) → b ≡ true → b ≡ false → ⊥
both_ways b t f = true≢false (sym t ∙ f)

-- an element that was replaced
set_at : {A : Type 0} (l : List A) (i : ℕ) (a b : A) → get_elem? l i ≡ some a → get_elem? (set l i b) i ≡ some b
set_at [] i a b e = absurd (some-ne-none a (sym e))
set_at (x ∷ xs) zero a b e = refl
set_at (x ∷ xs) (suc i) a b e = set_at xs i a b e

module _ {B : Type 0} (bound : B → List ObjectId) where
  -- a seat without the gate is not that of the pass that took it
  pub not_taker : (count : ℕ) (log : List Event) (seat_of : ℕ → ℕ) (gate : ℕ) (homes : List (Home (Option B))) (views : List View) (id : ℕ) (v : View) → get_elem? views id ≡ some v → v.has_gate ≡ false
      → Gated bound count log seat_of gate homes views → gate ≢ 0 → seat_of gate ≢ id
  not_taker count log seat_of gate homes views id v at plain r shut is =
      let h = r.taken shut in
      let same : h.1 ≡ v = some-injective h.1 v (sym h.2 ∙ (ap (get_elem? views) is ∙ at)) in
      both_ways v.has_gate (ap (λ (u : View). u.has_gate) (sym same) ∙ h.3) plain

  -- the view of one seat changes, and the trace may grow: by a publish only where the seat has the gate
  pub gated_seat : (count : ℕ) (log now : List Event) (seat_of : ℕ → ℕ) (gate : ℕ) (homes : List (Home (Option B))) (views : List View) (id : ℕ) (v w : View) → get_elem? views id ≡ some v → HasPublishesOf now w.seen → w.has_gate ≡ v.has_gate → (v.has_gate ≡ true) ⊎ HasPublishesOf now log
      → Gated bound count log seat_of gate homes views → Gated bound count now seat_of gate homes (set views id w)
  gated_seat count log now seat_of gate homes views id v w at seen same may r = record {
    home = λ free. let h = r.home free in
        (h.0, h.1, λ m o p. h.2 m o (⊎_elim (λ (mine : v.has_gate ≡ true). absurd ((r.takers id v at mine).0 free)) (λ (still : HasPublishesOf now log). still m o p) may));
    taken = λ shut. taker shut (ℕ_discrete (seat_of gate) id);
    takers = λ k u found has. ⊎_elim
        (λ (t : (k ≡ id) × (w ≡ u)). let was = r.takers id v at (sym same ∙ (ap (λ (z : View). z.has_gate) t.1 ∙ has)) in
        (was.0, was.1 ∙ sym t.0, subst (λ (z : View). HasPublishesOf now z.seen) t.1 seen))
        (λ (t : (k ≢ id) × (get_elem? views k ≡ some u)). let was = r.takers k u t.1 has in
        (was.0, was.1, λ m o p. was.2 m o (⊎_elim (λ (mine : v.has_gate ≡ true). absurd (t.0 (sym was.1 ∙ (r.takers id v at mine).1))) (λ (still : HasPublishesOf now log). still m o p) may)))
        (at_set views id k w u found);
  }
    where
      taker : (shut : gate ≢ 0) → Dec (seat_of gate ≡ id) → (gate ≤ count) × (u : View) × (get_elem? (set views id w) (seat_of gate) ≡ some u) × (u.has_gate ≡ true)
      taker shut (yes is) = let h = r.taken shut in
          let found : h.1 ≡ v = some-injective h.1 v (sym h.2 ∙ (ap (get_elem? views) is ∙ at)) in
          (h.0, w, ap (get_elem? (set views id w)) is ∙ set_at views id v w at, same ∙ (ap (λ (z : View). z.has_gate) (sym found) ∙ h.3))
      taker shut (no ne) = let h = r.taken shut in (h.0, h.1, set_else views id (seat_of gate) w ne ∙ h.2, h.3)

  -- indices go from seat to seat, and none of these has the gate
  pub gated_moved : (count : ℕ) (log : List Event) (seat_of now : ℕ → ℕ) (gate : ℕ) (homes : List (Home (Option B))) (views next : List View)
      → ((k : ℕ) (u : View) → get_elem? next k ≡ some u → u.has_gate ≡ true → get_elem? views k ≡ some u)
      → (gate ≢ 0 → now gate ≡ seat_of gate)
      → (gate ≢ 0 → (u : View) → get_elem? views (seat_of gate) ≡ some u → get_elem? next (seat_of gate) ≡ some u)
      → Gated bound count log seat_of gate homes views → Gated bound count log now gate homes next
  gated_moved count log seat_of now gate homes views next old same stays r = record {
    home = r.home;
    taken = λ shut. let h = r.taken shut in (h.0, h.1, ap (get_elem? next) (same shut) ∙ stays shut h.1 h.2, h.3);
    takers = λ k u found has. let was = r.takers k u (old k u found has) has in (was.0, same was.0 ∙ was.1, was.2);
  }

  -- a seat takes the open gate and the book
  pub gated_taken : (count : ℕ) (log : List Event) (seat_of : ℕ → ℕ) (gate : ℕ) (homes : List (Home (Option B))) (views : List View) (id index : ℕ) (v w : View) → get_elem? views id ≡ some v → gate ≡ 0 → index ≢ 0 → index ≤ count → seat_of index ≡ id → w.seen ≡ log → w.has_gate ≡ true
      → Gated bound count log seat_of gate homes views → Gated bound count log seat_of index (set homes 0 none) (set views id w)
  gated_taken count log seat_of gate homes views id index v w at free ne low mine seen has r = record {
    home = λ none_there. absurd (ne none_there);
    taken = λ _. (low, w, ap (get_elem? (set views id w)) mine ∙ set_at views id v w at, has);
    takers = λ k u found held. ⊎_elim
        (λ (t : (k ≡ id) × (w ≡ u)). (ne, mine ∙ sym t.0, λ m o p. subst (HasPublish m o) (sym seen ∙ ap (λ (z : View). z.seen) t.1) p))
        (λ (t : (k ≢ id) × (get_elem? views k ≡ some u)). absurd ((r.takers k u t.1 held).0 free))
        (at_set views id k w u found);
  }

  -- the taker gives the gate back, and a book that binds all that it has seen published
  pub gated_given : (count : ℕ) (log : List Event) (seat_of : ℕ → ℕ) (gate : ℕ) (homes : List (Home (Option B))) (views : List View) (id : ℕ) (v w : View) (b : B) → get_elem? views id ≡ some v → 0 < length homes → v.has_gate ≡ true → w.has_gate ≡ false → Covers (bound b) v.seen
      → Gated bound count log seat_of gate homes views → Gated bound count log seat_of 0 (set homes 0 (some (Some b))) (set views id w)
  gated_given count log seat_of gate homes views id v w b at room held plain covers r = record {
    home = λ _. (b, set_here homes 0 (some (Some b)) room, λ m o p. covers m o ((r.takers id v at held).2 m o p));
    taken = λ shut. absurd (shut refl);
    takers = λ k u found has. ⊎_elim
        (λ (t : (k ≡ id) × (w ≡ u)). absurd (both_ways w.has_gate (ap (λ (z : View). z.has_gate) t.1 ∙ has) plain))
        (λ (t : (k ≢ id) × (get_elem? views k ≡ some u)). absurd (t.0 (sym (r.takers k u t.1 has).1 ∙ (r.takers id v at held).1)))
        (at_set views id k w u found);
  }

  -- at the start the book is at home, and nothing was published
  pub gated_first : (count : ℕ) (seat_of : ℕ → ℕ) (b : B) (v : View) → v.has_gate ≡ false → Gated bound count [] seat_of 0 (some (Some b) ∷ []) (v ∷ [])
  gated_first count seat_of b v plain = record {
    home = λ _. (b, refl, λ m o p. absurd p);
    taken = λ shut. absurd (shut refl);
    takers = λ k u found has. one k u found has;
  }
    where
      one : (k : ℕ) (u : View) → get_elem? (v ∷ []) k ≡ some u → u.has_gate ≡ true → (let z : ℕ = 0 in z ≢ z) × (seat_of 0 ≡ k) × HasPublishesOf [] u.seen
      one zero u found has = absurd (both_ways v.has_gate (ap (λ (z : View). z.has_gate) (some-injective v u found) ∙ has) plain)
      one (suc k) u found has = absurd (some-ne-none u (sym found))
