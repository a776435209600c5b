-- A seat takes the gate with the book behind it, and gives both back.
use Rattle.std.proofs.Common.{◌≡◌, ◌≢◌, ℕ, suc, ◌+◌, ◌<◌, true, Option, Some, None, List, [], ◌∷◌, length, set, refl, sym, ap, ◌∙◌, subst, arith, eqb, eq-eqb, ne_eqb, length-set, get_or-set_same, get_or-set_other, ⊎_elim, append-nil}
use Rattle.std.specs.Prelude.{slice_index, MatchOption}
use mathlib.Core.Logic.{dite}
use mathlib.Core.Option.{some, none}
use Rattle.std.proofs.lemmas.List.{get_or_default}
use native.Mathlib.Decide.{ℕ_discrete}
use lib.ListN.{get_elem?}
use prog.Atomic.{either}
use Rattle.atomic_table.specs.Table.{State, Me, step, keeps, takes, gives, stepped, Allows, rest}
use Rattle.atomic_table.specs.declared.shared.Seat.{Seat}
use Rattle.atomic_table.proofs.Lists.{at_set, at_index, set_again}
use Rattle.lock_word.specs.declared.ObjectId.{ObjectId}
use Rattle.header_words.specs.WideWords.{word_of}
use Rattle.header_words.specs.declared.rule.View.{View}
use Rattle.header_words.specs.Bindings.{Covers}
use Rattle.header_words.specs.Events.{Replays, free_locks, lock_at}
use Rattle.header_words.specs.Gate.{Gated}
use Rattle.header_words.specs.Rule.{Each, part, index_of, mine_of, HasOneIndex, IsMine, Knows, Ruled}
use Rattle.header_words.specs.Steps.{TakesGate, Takes, without_gate, Gives}
use Rattle.header_words.specs.Passes.{PassValue, pass_value, HasTaken}
use Rattle.header_words.proofs.Gates.{gated_taken, gated_given}
use Rattle.header_words.proofs.Keeps.{each_map}
use Rattle.header_words.proofs.Seats.{moved}

-- what the first slot has
abbrev first_value : {X : Type 0} → X → List (ℕ × X) → X
first_value d [] = d
first_value d (y ∷ ys) = y.1

-- the book that the step gave the seat is the one that is read
pub took : {B : Type 0} (x : Option B) (c more : List (ℕ × Option B)) (b : B) → c ≡ (0, Some b) ∷ more → c ≡ (0, x) ∷ rest c → x ≡ Some b
took x c more b has reads = ap (first_value None) (sym reads ∙ has)

-- what holds of a value holds where it is there
pub matched : {X : Type 0} (N : Type 0) (P : X → Type 0) (x : Option X) (b : X) → x ≡ Some b → P b → MatchOption x N P
matched N P x b e h = subst (λ (y : Option _). MatchOption y N P) (sym e) h

-- the words of objects are as they were
words_kept : (lows : List ℕ) (words : List ℕ) (n : ℕ) (at : ℕ → ℕ) → ((o : ℕ) → o < length lows → slice_index words (o + 1) ≡ at o) → (o : ℕ) → o < length lows → slice_index (set words 0 n) (o + 1) ≡ at o
words_kept lows words n at was o lt = get_or-set_other words 0 (o + 1) n 0 (omega arith) ∙ was o lt

-- a pass whose seat took the gate has taken it
pub has_taken : {S : Type 0} (s t u : Seat S View) (p : PassValue) → pass_value s ≡ p → t.table_id ≡ s.table_id → u.table_id ≡ t.table_id → u.me.0 ≡ t.me.0 → TakesGate s.me.0 t.me.0 → HasTaken p (pass_value u)
has_taken s t u p is same again view taken = subst (λ (q : PassValue). HasTaken q (pass_value u)) is record {
  pass = λ k. record { opening = record { table = (again ∙ same) k; lows = (h.view k).lows; count = (h.view k).count }; index = index_of (h.view k).parts; mine = mine_of (h.view k).parts; seen = u.me.0.seen; has_gate = (h.view k).has_gate; steps = (h.view k).steps };
  seen = h.seen;
  saw = h.saw;
}
  where
    h : TakesGate s.me.0 u.me.0
    h = subst (λ (w : View). TakesGate s.me.0 w) (sym view) taken

-- the gate may be taken: it is where it is open
pub takes_gate : {B : Type 0} (bound : B → List ObjectId) (lows : List ℕ) (count slots id : ℕ) (me : Me (Option B) View) (index : ℕ) → HasOneIndex me.0 → index_of me.0.parts ≡ index
    → Allows (Ruled bound lows count) slots id me 0 (λ n. either (eqb n 0) index n) (Takes bound (step slots 0 0 index none) me)
takes_gate {B} bound lows count slots id me index one named s r _ at _ = dite (ℕ_discrete n 0)
    (λ hit. let h = r.gated.home hit in (
      w,
      takes 0 (Some h.0),
      h.1,
      subst (λ b. Ruled bound lows count (stepped s 0 (either b index n) id me.1 w (takes 0 (Some h.0)))) (sym (eq-eqb n 0 hit)) (taking hit (Some h.0)),
      ((λ _. (told, h.0, refl, h.2)), λ ne. absurd (ne hit)),
    ))
    (λ miss. (
      me.0,
      keeps,
      tt,
      subst (λ b. Ruled bound lows count (stepped s 0 (either b index n) id me.1 me.0 keeps)) (sym (ne_eqb n 0 miss)) (subst (λ (t : State (Option B) View). Ruled bound lows count t) (sym same) r),
      ((λ hit. absurd (miss hit)), λ _. refl),
    ))
  where
    n : ℕ
    n = slice_index s.words 0

    w : View
    w = record { lows = me.0.lows; count = me.0.count; parts = me.0.parts; seen = r.log; earlier = me.0.earlier; has_gate = true; steps = suc me.0.steps }

    knows : Knows lows count r.log r.seat_of id me.0
    knows = r.views id me.0 at

    mine : IsMine lows count r.log r.seat_of id me.0 (part (index_of me.0.parts) (mine_of me.0.parts))
    mine = (subst (Each (IsMine lows count r.log r.seat_of id me.0)) one knows.parts).0

    here : Knows lows count r.log r.seat_of id w
    here = record {
      seen = ([], append-nil r.log);
      earlier = knows.earlier;
      parts = each_map (IsMine lows count r.log r.seat_of id me.0) (IsMine lows count r.log r.seat_of id w) (λ p m. moved lows count r.log r.seat_of r.seat_of id id me.0 w p m m.same m.same_count m.all m.seat) me.0.parts knows.parts;
      apart = knows.apart;
    }

    told : TakesGate me.0 w
    told = record {
      view = refl;
      seen = knows.seen;
      saw = record {
        locks = r.locks;
        replays = subst (λ (z : List ℕ × ℕ). Replays z.0 z.1 (free_locks z.0) r.log r.locks) (λ k. (sym mine.same k, sym mine.same_count k)) r.replays;
        own = mine.all;
      };
    }

    taking : n ≡ 0 → (x : Option B) → Ruled bound lows count (stepped s 0 index id me.1 w (takes 0 x))
    taking hit x = record {
      log = r.log;
      locks = r.locks;
      seat_of = r.seat_of;
      bytes = r.bytes;
      few = r.few;
      replays = r.replays;
      wide = length-set s.words 0 index ∙ r.wide;
      words = words_kept lows s.words index (λ o. word_of (lock_at r.locks o) (slice_index lows o)) r.words;
      views = λ k u found. ⊎_elim
          (λ (t : (k ≡ id) × (w ≡ u)). subst (λ (z : ℕ × View). Knows lows count r.log r.seat_of z.0 z.1) (λ j. (sym t.0 j, t.1 j)) here)
          (λ (t : (k ≢ id) × (get_elem? s.views k ≡ some u)). r.views k u t.1)
          (at_set s.views id k w u found);
      gated = subst (λ (g : ℕ). Gated bound count r.log r.seat_of g (set s.homes 0 none) (set s.views id w)) (sym (get_or-set_same s.words 0 index 0 (let wide = r.wide in omega arith)))
          (gated_taken bound count r.log r.seat_of n s.homes s.views id index me.0 w at hit (let low = mine.low in omega arith) (let high = mine.high in omega arith) (ap r.seat_of (sym named) ∙ mine.seat) refl refl r.gated);
    }

    same : stepped s 0 n id me.1 me.0 keeps ≡ s
    same = λ k. record { words = set_again s.words 0 n (at_index s.words 0 n (let wide = r.wide in omega arith) (sym (get_or_default s.words 0 n 0 (let wide = r.wide in omega arith)))) k; homes = s.homes; views = set_again s.views id me.0 at k }

gives_at : {B : Type 0} (bound : B → List ObjectId) (lows : List ℕ) (count slots id : ℕ) (v : View) (b : B) (more : List (ℕ × Option B)) → 0 < slots → v.has_gate ≡ true → Covers (bound b) v.seen
    → Allows (Ruled bound lows count) slots id (v, (0, Some b) ∷ more) 0 (λ _. 0) (λ _. Gives (step slots 0 0 0 none) (v, (0, Some b) ∷ more) 0)
gives_at bound lows count slots id v b more some_slot held covers s r len at _ = (
  without_gate v,
  gives,
  tt,
  record {
    log = r.log;
    locks = r.locks;
    seat_of = r.seat_of;
    bytes = r.bytes;
    few = r.few;
    replays = r.replays;
    wide = length-set s.words 0 0 ∙ r.wide;
    words = words_kept lows s.words 0 (λ o. word_of (lock_at r.locks o) (slice_index lows o)) r.words;
    views = λ k u found. ⊎_elim
        (λ (t : (k ≡ id) × (without_gate v ≡ u)). subst (λ (z : ℕ × View). Knows lows count r.log r.seat_of z.0 z.1) (λ j. (sym t.0 j, t.1 j)) here)
        (λ (t : (k ≢ id) × (get_elem? s.views k ≡ some u)). r.views k u t.1)
        (at_set s.views id k (without_gate v) u found);
    gated = subst (λ (g : ℕ). Gated bound count r.log r.seat_of g (set s.homes 0 (some (Some b))) (set s.views id (without_gate v))) (sym (get_or-set_same s.words 0 0 0 (let wide = r.wide in omega arith)))
        (gated_given bound count r.log r.seat_of (slice_index s.words 0) s.homes s.views id v (without_gate v) b at (omega arith) held refl covers r.gated);
  },
  (refl, refl),
)
  where
    knows : Knows lows count r.log r.seat_of id v
    knows = r.views id v at

    here : Knows lows count r.log r.seat_of id (without_gate v)
    here = record {
      seen = knows.seen;
      earlier = knows.earlier;
      parts = each_map (IsMine lows count r.log r.seat_of id v) (IsMine lows count r.log r.seat_of id (without_gate v)) (λ p m. moved lows count r.log r.seat_of r.seat_of id id v (without_gate v) p m m.same m.same_count m.seen_all m.seat) v.parts knows.parts;
      apart = knows.apart;
    }

-- the gate may be given back by the seat that has it, with a book that binds all that it has seen published
pub gives_gate : {B : Type 0} (bound : B → List ObjectId) (lows : List ℕ) (count slots id : ℕ) (me : Me (Option B) View) (b : B) (more : List (ℕ × Option B)) → me.1 ≡ (0, Some b) ∷ more → 0 < slots → me.0.has_gate ≡ true → Covers (bound b) me.0.seen
    → Allows (Ruled bound lows count) slots id me 0 (λ _. 0) (λ _. Gives (step slots 0 0 0 none) me 0)
gives_gate {B} bound lows count slots id me b more has some_slot held covers =
    subst (λ (c : List (ℕ × Option B)). Allows (Ruled bound lows count) slots id (me.0, c) 0 (λ _. 0) (λ _. Gives (step slots 0 0 0 none) (me.0, c) 0)) (sym has) (gives_at bound lows count slots id me.0 b more some_slot held covers)
