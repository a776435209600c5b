-- A new table, and the passes that are cut off its first seat.
use Rattle.std.proofs.Common.{◌≡◌, ◌≢◌, ℕ, zero, suc, ◌+◌, ◌-◌, ◌<◌, ◌≤◌, false, Option, Some, List, [], ◌∷◌, ◌++◌, length, map, replicate, All, refl, sym, ap, ◌∙◌, subst, arith, add-one, length-append}
use Rattle.std.specs.Prelude.{slice_index}
use mathlib.Core.Option.{some, some-injective, some-ne-none}
use lib.Seq.{get_or-append_seam}
use lib.ListN.{get_elem?, get_or-append, get_or-replicate, length-replicate}
use Rattle.atomic_table.specs.Table.{Splits, opening}
use Rattle.atomic_table.specs.declared.shared.Seat.{Seat}
use Rattle.lock_word.specs.declared.Lock.{Lock}
use Rattle.lock_word.specs.declared.ObjectId.{ObjectId}
use Rattle.header_words.specs.WideWords.{word_of}
use Rattle.header_words.specs.declared.rule.Part.{Part}
use Rattle.header_words.specs.declared.rule.View.{View}
use Rattle.header_words.specs.Steps.{Saw}
use Rattle.header_words.specs.Events.{own_events, depth, free_locks}
use Rattle.header_words.specs.Rule.{Each, part, IsMine, AreApart, Knows, Ruled, HasOneIndex, new_parts, opening_view, with_parts, kept_view, given_view, index_of, mine_of}
use Rattle.header_words.specs.Passes.{Opening, IsPass, new_pass, new_passes, PassValue, pass_value}
use Rattle.header_words.specs.Gate.{Gated}
use Rattle.header_words.proofs.Gates.{gated_first}
use Rattle.header_words.proofs.Traces.{free_at}
use Rattle.header_words.proofs.Seats.{forks}

-- new indices are above those before them
new_above : (i j n : ℕ) → i < j → Each (λ (q : Part). i ≢ q.index) (new_parts j n)
new_above i j zero lt = tt
new_above i j (suc n) lt = ((λ (e : i ≡ j). absurd (omega arith)), new_above i (suc j) n (omega arith))

-- new indices differ
new_apart : (i n : ℕ) → AreApart (new_parts i n)
new_apart i zero = tt
new_apart i (suc n) = (new_above i (suc i) n (omega arith), new_apart (suc i) n)

-- nobody has done anything yet
new_mine : (lows : List ℕ) (count : ℕ) (v : View) → v.lows ≡ lows → v.count ≡ count → v.seen ≡ [] → (i n : ℕ) → 1 ≤ i → i + n ≤ suc count → Each (IsMine lows count [] (λ _. 0) 0 v) (new_parts i n)
new_mine lows count v a b c i zero low high = tt
new_mine lows count v a b c i (suc n) low high =
    (record { same = a; same_count = b; low = low; high = omega arith; all = refl; seen_all = ap (own_events i) c; seat = refl }, new_mine lows count v a b c (suc i) n (omega arith) (omega arith))

-- the rule holds at the start
pub opens : {B : Type 0} (bound : B → List ObjectId) (lows : List ℕ) (count : ℕ) (words : List ℕ) (slots : List (Option B)) (b : B) → words ≡ 0 ∷ lows → ((o : ℕ) → slice_index lows o < 256) → count ≤ 32767 → slots ≡ Some b ∷ [] → Ruled bound lows count (opening words slots (opening_view lows count))
opens {B} bound lows count words slots b is bytes few kept = record {
  log = [];
  locks = free_locks lows;
  seat_of = λ _. 0;
  bytes = bytes;
  few = few;
  replays = refl;
  wide = ap length is ∙ sym (add-one (length lows));
  words = λ o lt. ap (λ (ws : List ℕ). slice_index ws (o + 1)) is ∙ (ap (slice_index (0 ∷ lows)) (add-one o) ∙ ap (λ (l : Lock). word_of l (slice_index lows o)) (sym (free_at lows o)));
  views = one;
  gated = subst (λ (z : ℕ × List (Option B)). Gated bound count [] (λ _. 0) z.0 (map some z.1) (v ∷ [])) (λ k. (ap (λ (ws : List ℕ). slice_index ws 0) (sym is) k, sym kept k)) (gated_first bound count (λ _. 0) b v refl);
}
  where
    v : View
    v = opening_view lows count

    knows : Knows lows count [] (λ _. 0) 0 v
    knows = record { seen = ([], refl); earlier = tt; parts = new_mine lows count v refl refl refl 1 count (omega arith) (omega arith); apart = new_apart 1 count }

    one : (k : ℕ) (u : View) → get_elem? (v ∷ []) k ≡ some u → Knows lows count [] (λ _. 0) k u
    one zero u e = subst (Knows lows count [] (λ _. 0) 0) (some-injective v u e) knows
    one (suc k) u e = absurd (some-ne-none u (sym e))

-- the first seat, when the passes below i have been cut off
abbrev pub left_view : List ℕ → ℕ → ℕ → View
left_view lows count done = with_parts (opening_view lows count) done (new_parts (suc done) (count - done))

-- the next index comes first
left_parts : (lows : List ℕ) (count done : ℕ) → done < count → (left_view lows count done).parts ≡ part (suc done) [] ∷ new_parts (suc (suc done)) (count - suc done)
left_parts lows count done lt = ap (new_parts (suc done)) (let e : count - done ≡ suc (count - suc done) = omega arith in e)

-- one more pass may be cut off
pub cuts : {B : Type 0} (bound : B → List ObjectId) (rule_lows : List ℕ) (rule_count : ℕ) (lows : List ℕ) (count id : ℕ) (v : View) (done : ℕ) → v ≡ left_view lows count done → done < count → Splits (Ruled bound rule_lows rule_count) id v (kept_view v) (given_view v)
cuts bound rule_lows rule_count lows count id v done is lt = forks bound rule_lows rule_count id v (part (suc done) []) (new_parts (suc (suc done)) (count - suc done)) (ap (λ (z : View). z.parts) is ∙ left_parts lows count done lt) (ap (λ (z : View). z.has_gate) is)

-- what the split leaves
pub left_next : (lows : List ℕ) (count done : ℕ) → done < count → kept_view (left_view lows count done) ≡ left_view lows count (suc done)
left_next lows count done lt = ap (λ (ps : List Part). kept_view (with_parts (opening_view lows count) done ps)) (left_parts lows count done lt)

-- the new seat has that index alone
given_new : (lows : List ℕ) (count done : ℕ) → done < count → given_view (left_view lows count done) ≡ with_parts (opening_view lows count) 0 (part (suc done) [] ∷ [])
given_new lows count done lt = ap (λ (ps : List Part). given_view (with_parts (opening_view lows count) done ps)) (left_parts lows count done lt)

module _ {B : Type 0} (lows : List ℕ) (count done : ℕ) (lt : done < count) (v : View) (is : v ≡ left_view lows count done) (s : Seat (Option B) View) (got : s.me ≡ (given_view v, [])) where
  new_view : s.me.0 ≡ with_parts (opening_view lows count) 0 (part (suc done) [] ∷ [])
  new_view = ap (λ z. z.0) got ∙ (ap given_view is ∙ given_new lows count done lt)

  pub cut_pass : (row ls : List ℕ) → count ≤ 32767 → row ≡ replicate (length lows) 0 → ls ≡ lows → IsPass (done + 1) row ls false s
  cut_pass row ls few zeros same = record {
    lone = subst (λ (u : View). HasOneIndex u) (sym new_view) refl;
    named = ap (λ (u : View). index_of u.parts) new_view ∙ sym (add-one done);
    low = omega arith;
    high = omega arith;
    gate = ap (λ (u : View). u.has_gate) new_view;
    carries = ap (λ z. z.1) got;
    few = λ o h. let e : slice_index row o ≡ 0 = at o h in omega arith;
    wide = ap length zeros ∙ (length-replicate (length lows) 0 ∙ ap length (sym (ap (λ (u : View). u.lows) new_view)));
    copy = same ∙ ap (λ (u : View). u.lows) (sym new_view);
    rows = λ o h. at o h ∙ ap (λ (u : View). depth o (mine_of u.parts)) (sym new_view);
    saw = subst (λ (u : View). Saw u.lows u.count u.seen (index_of u.parts) (mine_of u.parts)) (sym new_view) record { locks = free_locks lows; replays = refl; own = refl };
  }
    where
      at : (o : ℕ) → o < length row → slice_index row o ≡ 0
      at o h = ap (λ (r : List ℕ). slice_index r o) zeros ∙ get_or-replicate (length lows) o 0 0 (let e : length row ≡ length lows = ap length zeros ∙ length-replicate (length lows) 0 in omega arith)

  pub cut_value : (z : Opening) → s.table_id ≡ z.table → z.lows ≡ lows → z.count ≡ count → pass_value s ≡ new_pass z (suc done)
  cut_value z same ls c = λ k. record { opening = record { table = same k; lows = (ap (λ (v : View). v.lows) new_view ∙ sym ls) k; count = (ap (λ (v : View). v.count) new_view ∙ sym c) k }; index = index_of (new_view k).parts; mine = mine_of (new_view k).parts; seen = (new_view k).seen; has_gate = (new_view k).has_gate; steps = (new_view k).steps }

-- one pass more
pub new_passes_snoc : (z : Opening) (i n : ℕ) → new_passes z i (suc n) ≡ new_passes z i n ++ new_pass z (i + n) ∷ []
new_passes_snoc z i zero = λ k. new_pass z (let e : i ≡ i + 0 = omega arith in e k) ∷ []
new_passes_snoc z i (suc n) = ap (λ (ps : List PassValue). new_pass z i ∷ ps) (new_passes_snoc z (suc i) n ∙ ap (λ (j : ℕ). new_passes z (suc i) n ++ new_pass z j ∷ []) (let e : suc i + n ≡ i + suc n = omega arith in e))

-- the first seat, when one more pass has been cut off
pub left_after : {B : Type 0} (lows : List ℕ) (count done : ℕ) (v : View) (s : Seat (Option B) View) (held : List (ℕ × Option B)) → done < count → v ≡ left_view lows count done → held ≡ [] → s.me ≡ (kept_view v, held) → s.me ≡ (left_view lows count (done + 1), [])
left_after lows count done v s held lt is none_held got = got ∙ λ k. ((ap kept_view is ∙ (left_next lows count done lt ∙ ap (left_view lows count) (sym (add-one done)))) k, none_held k)

-- the passes, with one more
pub passes_after : (z : Opening) (done : ℕ) (ps qs : List PassValue) (p : PassValue) → ps ≡ new_passes z 1 done → p ≡ new_pass z (suc done) → qs ≡ ps ++ p ∷ [] → qs ≡ new_passes z 1 (done + 1)
passes_after z done ps qs p is new got =
    got ∙ ((λ k. is k ++ new k ∷ []) ∙ (ap (λ (j : ℕ). new_passes z 1 done ++ new_pass z j ∷ []) (let e : suc done ≡ 1 + done = omega arith in e) ∙ (sym (new_passes_snoc z 1 done) ∙ ap (new_passes z 1) (sym (add-one done)))))

-- what holds of all holds of the last
pub all_last : {X : Type 0} (P : X → Type 0) (xs : List X) (x : X) → All P (xs ++ x ∷ []) → P x
all_last P xs x h = subst P (get_or-append_seam xs x [] x) (h (length xs) x (let e : length (xs ++ x ∷ []) ≡ length xs + 1 = length-append xs (x ∷ []) in omega arith))

-- and of those before it
pub all_front : {X : Type 0} (P : X → Type 0) (xs : List X) (x : X) → All P (xs ++ x ∷ []) → All P xs
all_front P xs x h k d lt = subst P (get_or-append xs (x ∷ []) d k lt) (h k d (let e : length (xs ++ x ∷ []) ≡ length xs + 1 = length-append xs (x ∷ []) in omega arith))

-- new passes belong to what was opened
pub new_passes_belong : (z : Opening) (i n : ℕ) → All (λ (p : PassValue). p.opening ≡ z) (new_passes z i n)
new_passes_belong z i zero k d lt = absurd (let l : k < 0 = lt in omega arith)
new_passes_belong z i (suc n) zero d lt = refl
new_passes_belong z i (suc n) (suc k) d lt = new_passes_belong z (suc i) n k d (omega arith)

-- and none of them has the gate
pub new_passes_without : (z : Opening) (i n : ℕ) → All (λ (p : PassValue). p.has_gate ≡ false) (new_passes z i n)
new_passes_without z i zero k d lt = absurd (let l : k < 0 = lt in omega arith)
new_passes_without z i (suc n) zero d lt = refl
new_passes_without z i (suc n) (suc k) d lt = new_passes_without z (suc i) n k d (omega arith)
