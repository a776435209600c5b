-- Two passes meet: a join, a load of the gate word, and a split.
use Rattle.std.proofs.Common.{◌≡◌, ◌≢◌, ◌⊎◌, ℕ, suc, false, Option, List, [], ◌∷◌, ◌++◌, length, refl, sym, ap, ◌∙◌, subst, inl, inr, ⊎_elim}
use mathlib.Core.List.{IsPrefix}
use mathlib.Core.Option.{none}
use native.Mathlib.Decide.{ℕ_discrete}
use Rattle.atomic_table.specs.Table.{Me, step, Allows, Splits, Joins}
use Rattle.atomic_table.specs.declared.shared.Seat.{Seat}
use Rattle.lock_word.specs.declared.Lock.{Lock}
use Rattle.lock_word.specs.declared.Lock.TheVariants.{Free, Thin, Fat}
use Rattle.lock_word.specs.declared.ObjectId.{ObjectId}
use Rattle.header_words.specs.declared.event.Event.{Event}
use Rattle.header_words.specs.declared.rule.Layout.{Layout}
use Rattle.header_words.specs.declared.rule.View.{View}
use Rattle.header_words.specs.Events.{holds_of, depth, lock_at, Replays, free_locks}
use Rattle.header_words.specs.Rule.{Each, part, index_of, mine_of, HasOneIndex, Ruled, spent_view, with_parts, kept_view, given_view, longer_of, joined_view}
use Rattle.header_words.specs.Steps.{Saw, SeesAll, Syncs}
use Rattle.header_words.specs.Passes.{IsPass, pass_value, HaveMet}
use Rattle.header_words.proofs.Traces.{depth_is_holds, thin_other}
use Rattle.header_words.proofs.Seats.{merges, syncs, forks}

-- what holds of each of two lists holds of each of the right
each_right : {X : Type 0} (P : X → Type 0) (xs ys : List X) → Each P (xs ++ ys) → Each P ys
each_right P [] ys h = h
each_right P (x ∷ xs) ys h = each_right P xs ys h.1

-- two passes do not both hold an object by one lock
not_both : (i j : ℕ) (l : Lock) → i ≢ j → (holds_of i l ≡ 0) ⊎ (holds_of j l ≡ 0)
not_both i j Free ne = inl refl
not_both i j (Thin k c) ne = go (ℕ_discrete k i)
  where
    go : Dec (k ≡ i) → (holds_of i (Thin k c) ≡ 0) ⊎ (holds_of j (Thin k c) ≡ 0)
    go (yes is) = inr (thin_other j k c (λ e. ne (sym is ∙ e)))
    go (no not) = inl (thin_other i k c not)
not_both i j (Fat m) ne = inl refl

-- the view of a seat with two indices that has seen this trace
abbrev pub met_view : View → View → List Event → View
met_view v w seen = record { lows = v.lows; count = v.count; parts = part (index_of v.parts) (mine_of v.parts) ∷ part (index_of w.parts) (mine_of w.parts) ∷ []; seen = seen; earlier = []; has_gate = false; steps = suc (suc v.steps) }

-- the view of a seat that took in another, each with one index
abbrev two_view : View → View → View
two_view v w = record { lows = v.lows; count = v.count; parts = part (index_of v.parts) (mine_of v.parts) ∷ part (index_of w.parts) (mine_of w.parts) ∷ []; seen = longer_of v.seen w.seen; earlier = (v.seen ∷ v.earlier) ++ (w.seen ∷ w.earlier); has_gate = false; steps = suc v.steps }

-- a joined view of two that have one index each
joined_two : (v w : View) → HasOneIndex v → HasOneIndex w → joined_view v w ≡ two_view v w
joined_two v w a b = λ k. record { lows = v.lows; count = v.count; parts = a k ++ b k; seen = longer_of v.seen w.seen; earlier = (v.seen ∷ v.earlier) ++ (w.seen ∷ w.earlier); has_gate = false; steps = suc v.steps }

-- what the load of the gate word told
pub synced : (v w x y : View) → HasOneIndex v → HasOneIndex w → x ≡ joined_view v w → SeesAll x y → SeesAll (two_view v w) y
synced v w x y a b is h = subst (λ (z : View). SeesAll z y) (is ∙ joined_two v w a b) h

-- the view after the load of the gate word
pub synced_view : (v w x y : View) → HasOneIndex v → HasOneIndex w → x ≡ joined_view v w → SeesAll x y → y ≡ met_view v w y.seen
synced_view v w x y a b is h = (synced v w x y a b is h).view

-- the first of two passes may take in the second
pub joins_at : {B : Type 0} (bound : B → List ObjectId) (key : Layout) (id other : ℕ) (v w : View) → HasOneIndex v → v.has_gate ≡ false → w.has_gate ≡ false → Joins (Ruled bound key.lows.items key.count) id v other w (joined_view v w) spent_view
joins_at bound key id other v w one = merges bound key.lows.items key.count id other v w (part (index_of v.parts) (mine_of v.parts)) [] one

-- the gate word may be loaded
pub syncs_at : {B : Type 0} (bound : B → List ObjectId) (key : Layout) (slots id : ℕ) (me : Me (Option B) View) → Allows (Ruled bound key.lows.items key.count) slots id me 0 (λ n. n) (Syncs (step slots 0 0 0 none) me)
syncs_at bound key slots id me = syncs bound key.lows.items key.count slots id me

-- and the seat be cut in two
pub splits_at : {B : Type 0} (bound : B → List ObjectId) (key : Layout) (id : ℕ) (v w y : View) (seen : List Event) → y ≡ met_view v w seen → Splits (Ruled bound key.lows.items key.count) id y (kept_view y) (given_view y)
splits_at bound key id v w y seen is = forks bound key.lows.items key.count id y (part (index_of v.parts) (mine_of v.parts)) (part (index_of w.parts) (mine_of w.parts) ∷ []) (ap (λ (z : View). z.parts) is) (ap (λ (z : View). z.has_gate) is)

-- what the two have seen in the end replays, and has just the events of each
module _ {B : Type 0} (a b : Seat (Option B) View) (x y : View) (one : HasOneIndex a.me.0) (other : HasOneIndex b.me.0) (is : x ≡ joined_view a.me.0 b.me.0) (h : SeesAll x y) where
  s : SeesAll (two_view a.me.0 b.me.0) y
  s = synced a.me.0 b.me.0 x y one other is h

  y_is : y ≡ met_view a.me.0 b.me.0 y.seen
  y_is = s.view

  replayed : Replays a.me.0.lows a.me.0.count (free_locks a.me.0.lows) y.seen s.locks
  replayed = subst (λ (z : List ℕ × ℕ). Replays z.0 z.1 (free_locks z.0) y.seen s.locks) (λ j. (sym s.same.0.0 j, sym s.same.0.1 j)) s.replays

  saw_first : Saw a.me.0.lows a.me.0.count y.seen (index_of a.me.0.parts) (mine_of a.me.0.parts)
  saw_first = record { locks = s.locks; replays = replayed; own = s.parts.0 }

  saw_second : Saw a.me.0.lows a.me.0.count y.seen (index_of b.me.0.parts) (mine_of b.me.0.parts)
  saw_second = record { locks = s.locks; replays = replayed; own = s.parts.1.0 }

  first_view : (f : Seat (Option B) View) → f.me.0 ≡ given_view y → f.me.0 ≡ with_parts (met_view a.me.0 b.me.0 y.seen) 0 (part (index_of a.me.0.parts) (mine_of a.me.0.parts) ∷ [])
  first_view f got = got ∙ ap given_view y_is

  second_view : (k : Seat (Option B) View) → k.me.0 ≡ kept_view y → k.me.0 ≡ with_parts (met_view a.me.0 b.me.0 y.seen) (suc (suc (suc a.me.0.steps))) (part (index_of b.me.0.parts) (mine_of b.me.0.parts) ∷ [])
  second_view k got = got ∙ ap kept_view y_is

  -- the pass that has the first index again
  pub first_pass : (index : ℕ) (depths ls : List ℕ) (f : Seat (Option B) View) → IsPass index depths ls false a → f.me ≡ (given_view y, []) → IsPass index depths ls false f
  first_pass index depths ls f p got = record {
    lone = subst (λ (v : View). HasOneIndex v) (sym fv) refl;
    named = ap (λ (v : View). index_of v.parts) fv ∙ p.named;
    low = p.low;
    high = p.high;
    gate = ap (λ (v : View). v.has_gate) fv;
    carries = ap (λ z. z.1) got;
    few = p.few;
    wide = p.wide ∙ ap length (sym (ap (λ (v : View). v.lows) fv));
    copy = p.copy ∙ sym (ap (λ (v : View). v.lows) fv);
    rows = λ o lt. p.rows o lt ∙ ap (depth o) (sym (ap (λ (v : View). mine_of v.parts) fv));
    saw = subst (λ (v : View). Saw v.lows v.count v.seen (index_of v.parts) (mine_of v.parts)) (sym fv) saw_first;
  }
    where
      fv : f.me.0 ≡ with_parts (met_view a.me.0 b.me.0 y.seen) 0 (part (index_of a.me.0.parts) (mine_of a.me.0.parts) ∷ [])
      fv = first_view f (ap (λ z. z.0) got)

  -- and the pass that has the second one
  pub second_pass : (index : ℕ) (depths ls : List ℕ) (k : Seat (Option B) View) (c : List (ℕ × Option B)) → IsPass index depths ls false b → a.me.0.lows ≡ b.me.0.lows → c ≡ [] → k.me ≡ (kept_view y, c) → IsPass index depths ls false k
  second_pass index depths ls k c p same none_held got = record {
    lone = subst (λ (v : View). HasOneIndex v) (sym kv) refl;
    named = ap (λ (v : View). index_of v.parts) kv ∙ p.named;
    low = p.low;
    high = p.high;
    gate = ap (λ (v : View). v.has_gate) kv;
    carries = ap (λ z. z.1) got ∙ none_held;
    few = p.few;
    wide = p.wide ∙ ap length (sym (ap (λ (v : View). v.lows) kv ∙ same));
    copy = p.copy ∙ sym (ap (λ (v : View). v.lows) kv ∙ same);
    rows = λ o lt. p.rows o lt ∙ ap (depth o) (sym (ap (λ (v : View). mine_of v.parts) kv));
    saw = subst (λ (v : View). Saw v.lows v.count v.seen (index_of v.parts) (mine_of v.parts)) (sym kv) saw_second;
  }
    where
      kv : k.me.0 ≡ with_parts (met_view a.me.0 b.me.0 y.seen) (suc (suc (suc a.me.0.steps))) (part (index_of b.me.0.parts) (mine_of b.me.0.parts) ∷ [])
      kv = second_view k (ap (λ z. z.0) got)

  pub have_met : (f k : Seat (Option B) View) → a.me.0.lows ≡ b.me.0.lows → a.me.0.count ≡ b.me.0.count
      → f.me.0 ≡ given_view y → k.me.0 ≡ kept_view y → f.table_id ≡ a.table_id → k.table_id ≡ b.table_id → HaveMet (pass_value a) (pass_value b) (pass_value f) (pass_value k)
  have_met f k lows count got kept fz kz = record {
    seen = y.seen;
    left = (s.earlier.0, λ j. record { opening = record { table = fz j; lows = (fv j).lows; count = (fv j).count }; index = index_of (fv j).parts; mine = mine_of (fv j).parts; seen = (fv j).seen; has_gate = (fv j).has_gate; steps = f.me.0.steps });
    right = (
      (each_right (λ old. IsPrefix old y.seen) (a.me.0.seen ∷ a.me.0.earlier) (b.me.0.seen ∷ b.me.0.earlier) s.earlier).0,
      kept_value ∙ λ j. record { opening = record { table = b.table_id; lows = lows j; count = count j }; index = index_of b.me.0.parts; mine = mine_of b.me.0.parts; seen = y.seen; has_gate = false; steps = k.me.0.steps },
    );
    locks = s.locks;
    replays = replayed;
    left_own = s.parts.0;
    right_own = s.parts.1.0;
    apart = λ o. ⊎_elim
        (λ (e : holds_of (index_of a.me.0.parts) (lock_at s.locks o) ≡ 0). inl (sym (ap (depth o) s.parts.0) ∙ (depth_is_holds s.lows s.count (index_of a.me.0.parts) o y.seen s.locks s.replays ∙ e)))
        (λ (e : holds_of (index_of b.me.0.parts) (lock_at s.locks o) ≡ 0). inr (sym (ap (depth o) s.parts.1.0) ∙ (depth_is_holds s.lows s.count (index_of b.me.0.parts) o y.seen s.locks s.replays ∙ e)))
        (not_both (index_of a.me.0.parts) (index_of b.me.0.parts) (lock_at s.locks o) s.apart.0.0);
  }
    where
      fv : f.me.0 ≡ with_parts (met_view a.me.0 b.me.0 y.seen) 0 (part (index_of a.me.0.parts) (mine_of a.me.0.parts) ∷ [])
      fv = first_view f got

      kv : k.me.0 ≡ with_parts (met_view a.me.0 b.me.0 y.seen) (suc (suc (suc a.me.0.steps))) (part (index_of b.me.0.parts) (mine_of b.me.0.parts) ∷ [])
      kv = second_view k kept

      kept_value : pass_value k ≡ record { opening = record { table = b.table_id; lows = a.me.0.lows; count = a.me.0.count }; index = index_of b.me.0.parts; mine = mine_of b.me.0.parts; seen = y.seen; has_gate = false; steps = k.me.0.steps }
      kept_value = λ j. record { opening = record { table = kz j; lows = (kv j).lows; count = (kv j).count }; index = index_of (kv j).parts; mine = mine_of (kv j).parts; seen = (kv j).seen; has_gate = (kv j).has_gate; steps = k.me.0.steps }
