-- Each step of a word keeps the rule.
use Rattle.std.proofs.Common.{◌≡◌, ◌≢◌, ◌⊎◌, ℕ, zero, suc, ◌+◌, ◌<◌, ◌≤◌, Bool, true, false, Option, List, [], ◌∷◌, ◌++◌, length, get_or, set, refl, sym, ap, ◌∙◌, subst, arith, eqb, eq-eqb, ne_eqb, inl, inr, ⊎_elim, length-set, get_or-set_same, get_or-set_other, append_assoc}
use Rattle.std.specs.Prelude.{slice_index}
use mathlib.Core.Logic.{dite}
use mathlib.Core.List.{IsPrefix}
use mathlib.Core.Option.{some, none}
use native.Mathlib.Decide.{ℕ_discrete}
use lib.ListN.{get_elem?}
use prog.Atomic.{either}
use Rattle.atomic_table.specs.Table.{State, Me, Step, step, keeps, stepped, Allows}
use Rattle.atomic_table.proofs.Lists.{at_set}
use Rattle.lock_word.specs.declared.Split.TheVariants.{Wide}
use Rattle.lock_word.specs.declared.Lock.{Lock}
use Rattle.lock_word.specs.declared.Lock.TheVariants.{Free, Thin}
use Rattle.lock_word.specs.declared.ObjectId.{ObjectId}
use Rattle.header_words.specs.WideWords.{word_of, lock_of, Fits}
use Rattle.lock_word.proofs.Words.{lock_of-word_of}
use Rattle.header_words.specs.declared.event.EventKind.{EventKind}
use Rattle.header_words.specs.declared.event.EventKind.TheVariants.{Load, Win, Lose}
use Rattle.header_words.specs.declared.event.Event.{Event}
use Rattle.header_words.specs.declared.rule.Part.{Part}
use Rattle.header_words.specs.declared.rule.View.{View}
use Rattle.header_words.specs.Bindings.{HasPublish, GateAllows}
use Rattle.header_words.specs.Gate.{Gated}
use Rattle.header_words.specs.Events.{event, Legal, effect, lock_at, locks_after, Replays, free_locks, own_events, depth}
use Rattle.header_words.specs.Rule.{Each, part, IsMine, Knows, Ruled, stepped_view, index_of, mine_of, HasOneIndex}
use Rattle.header_words.specs.Steps.{ShowsDepth, AddsEvent, Does, Loads, Stores, Exchanges}
use Rattle.header_words.proofs.Bindings.{allowed_snoc}
use Rattle.header_words.proofs.Gates.{gated_seat}
use Rattle.header_words.proofs.Published.{fat_published}
use Rattle.header_words.proofs.Traces.{replays_snoc, length-locks, own_snoc_mine, own_snoc_other, depth_is_holds, thin_of_holds, fits_all, shows_depth, free_word, free_low, small_word, lock_after_here, lock_after_else}

-- what follows holds of each, too
pub each_map : {X : Type 0} (P Q : X → Type 0) → ((x : X) → P x → Q x) → (xs : List X) → Each P xs → Each Q xs
each_map P Q f [] h = tt
each_map P Q f (x ∷ xs) h = (f x h.0, each_map P Q f xs h.1)

-- a beginning of a list begins a longer one
pub prefix_more : (xs ys zs : List Event) → IsPrefix xs ys → IsPrefix xs (ys ++ zs)
prefix_more xs ys zs h = (h.0 ++ zs, sym (append_assoc xs h.0 zs) ∙ ap (λ (l : List Event). l ++ zs) h.1)

-- what another seat knows lasts
pub knows_other : (lows : List ℕ) (count : ℕ) (log : List Event) (seat_of : ℕ → ℕ) (k : ℕ) (v : View) (e : Event) → k ≢ seat_of e.pass → Knows lows count log seat_of k v → Knows lows count (log ++ e ∷ []) seat_of k v
knows_other lows count log seat_of k v e apart h = record {
  seen = prefix_more v.seen log (e ∷ []) h.seen;
  earlier = each_map (λ old. IsPrefix old log) (λ old. IsPrefix old (log ++ e ∷ [])) (λ old p. prefix_more old log (e ∷ []) p) v.earlier h.earlier;
  parts = each_map (IsMine lows count log seat_of k v) (IsMine lows count (log ++ e ∷ []) seat_of k v) one v.parts h.parts;
  apart = h.apart;
}
  where
    one : (p : Part) → IsMine lows count log seat_of k v p → IsMine lows count (log ++ e ∷ []) seat_of k v p
    one p m = record {
      same = m.same;
      same_count = m.same_count;
      low = m.low;
      high = m.high;
      all = own_snoc_other p.index e log (λ (is : e.pass ≡ p.index). apart (sym (ap seat_of is ∙ m.seat))) ∙ m.all;
      seen_all = m.seen_all;
      seat = m.seat;
    }

-- the words after a step at the object o
words_kept : (lows : List ℕ) (words : List ℕ) (locks : List Lock) (e : Event) (n : ℕ) → length words ≡ length lows + 1 → length locks ≡ length lows → e.object < length lows
    → n ≡ word_of (effect e.pass e.kind (lock_at locks e.object)) (slice_index lows e.object)
    → ((o : ℕ) → o < length lows → slice_index words (o + 1) ≡ word_of (lock_at locks o) (slice_index lows o))
    → (o : ℕ) → o < length lows → slice_index (set words (e.object + 1) n) (o + 1) ≡ word_of (lock_at (locks_after e locks) o) (slice_index lows o)
words_kept lows words locks e n wide len at is was o lt = go (ℕ_discrete e.object o)
  where
    go : Dec (e.object ≡ o) → slice_index (set words (e.object + 1) n) (o + 1) ≡ word_of (lock_at (locks_after e locks) o) (slice_index lows o)
    go (yes same) =
        ap (λ (k : ℕ). slice_index (set words (k + 1) n) (o + 1)) same
        ∙ (get_or-set_same words (o + 1) n 0 (omega arith)
        ∙ (is
        ∙ (ap (λ (k : ℕ). word_of (effect e.pass e.kind (lock_at locks k)) (slice_index lows k)) same
        ∙ sym (ap (λ (l : Lock). word_of l (slice_index lows o)) (lock_after_here e locks o (omega arith) same)))))
    go (no ne) =
        get_or-set_other words (e.object + 1) (o + 1) n 0 (omega arith)
        ∙ (was o lt ∙ sym (ap (λ (l : Lock). word_of l (slice_index lows o)) (lock_after_else e locks o (λ x. ne (sym x)))))

-- one lemma for every event: a legal event, whose word is that of its effect
pub steps : {B : Type 0} (bound : B → List ObjectId) (lows : List ℕ) (count : ℕ) (s : State (Option B) View) (r : Ruled bound lows count s) (id : ℕ) (v : View) (i : ℕ) (m : List Event) (o : ℕ) (kind : EventKind) (n : ℕ)
    → get_elem? s.views id ≡ some v → v.parts ≡ part i m ∷ [] → o < length lows
    → Legal i kind (lock_at r.locks o) (slice_index lows o) → n ≡ word_of (effect i kind (lock_at r.locks o)) (slice_index lows o) → GateAllows v.has_gate kind
    → (c : List (ℕ × Option B)) → Ruled bound lows count (stepped s (o + 1) n id c (stepped_view v r.log i m (event i o kind)) keeps)
steps bound lows count s r id v i m o kind n at one inside legal is may c = record {
  log = r.log ++ e ∷ [];
  locks = locks_after e r.locks;
  seat_of = r.seat_of;
  bytes = r.bytes;
  few = r.few;
  replays = replays_snoc lows count (free_locks lows) r.log r.locks e r.replays (mine.low, mine.high, inside, legal);
  wide = length-set s.words (o + 1) n ∙ r.wide;
  words = words_kept lows s.words r.locks e n r.wide (length-locks lows count r.log r.locks r.replays) inside is r.words;
  views = λ k u found. ⊎_elim
      (λ (t : (k ≡ id) × (w ≡ u)). subst (λ (z : ℕ × View). Knows lows count (r.log ++ e ∷ []) r.seat_of z.0 z.1) (λ j. (sym t.0 j, t.1 j)) here)
      (λ (t : (k ≢ id) × (get_elem? s.views k ≡ some u)). knows_other lows count r.log r.seat_of k u e (λ (x : k ≡ r.seat_of i). t.0 (x ∙ mine.seat)) (r.views k u t.1))
      (at_set s.views id k w u found);
  gated = subst (λ (gate : ℕ). Gated bound count (r.log ++ e ∷ []) r.seat_of gate s.homes (set s.views id w)) (sym (get_or-set_other s.words (o + 1) 0 n 0 (omega arith)))
      (gated_seat bound count r.log (r.log ++ e ∷ []) r.seat_of (slice_index s.words 0) s.homes s.views id v w at (λ p q h. h) refl (allowed_snoc v.has_gate r.log e may) r.gated);
}
  where
    e : Event
    e = event i o kind

    w : View
    w = stepped_view v r.log i m e

    knows : Knows lows count r.log r.seat_of id v
    knows = r.views id v at

    mine : IsMine lows count r.log r.seat_of id v (part i m)
    mine = (subst (Each (IsMine lows count r.log r.seat_of id v)) one knows.parts).0

    here : Knows lows count (r.log ++ e ∷ []) r.seat_of id w
    here = record {
      seen = ([], Rattle.std.proofs.Common.append-nil (r.log ++ e ∷ []));
      earlier = tt;
      parts = (
        record {
          same = mine.same;
          same_count = mine.same_count;
          low = mine.low;
          high = mine.high;
          all = own_snoc_mine i e r.log refl ∙ ap (λ (z : List Event). z ++ e ∷ []) mine.all;
          seen_all = own_snoc_mine i e r.log refl ∙ ap (λ (z : List Event). z ++ e ∷ []) mine.all;
          seat = mine.seat;
        },
        tt,
      );
      apart = (tt, tt);
    }

-- what a step tells
pub told : {B : Type 0} (bound : B → List ObjectId) (lows : List ℕ) (count : ℕ) (s : State (Option B) View) (r : Ruled bound lows count s) (id : ℕ) (v : View) (o : ℕ) (kind : EventKind) (n : ℕ)
    → get_elem? s.views id ≡ some v → HasOneIndex v → o < length lows
    → Legal (index_of v.parts) kind (lock_at r.locks o) (slice_index lows o) → n ≡ word_of (effect (index_of v.parts) kind (lock_at r.locks o)) (slice_index lows o)
    → AddsEvent o kind n v (stepped_view v r.log (index_of v.parts) (mine_of v.parts) (event (index_of v.parts) o kind))
told bound lows count s r id v o kind n at one inside legal is = record {
  rest = knows.seen.0;
  view = λ k. stepped_view v (sym knows.seen.1 k) i m e;
  saw = record {
    locks = locks_after e r.locks;
    replays = subst (λ (z : List ℕ × ℕ). Replays z.0 z.1 (free_locks z.0) (r.log ++ e ∷ []) (locks_after e r.locks)) (λ k. (sym mine.same k, sym mine.same_count k)) again;
    own = mine';
  };
  word = word' ∙ ap (λ (ls : List ℕ). word_of (lock_at (locks_after e r.locks) o) (slice_index ls o)) (sym mine.same);
  small = subst (λ (x : ℕ). x < 4294967296) (sym word') (small_word (lock_at (locks_after e r.locks) o) (slice_index lows o) fits (r.bytes o));
  published = λ k fat. fat_published lows count o k (r.log ++ e ∷ []) (locks_after e r.locks) again (sym (ap lock_of word' ∙ lock_of-word_of Wide (lock_at (locks_after e r.locks) o) (slice_index lows o) fits (r.bytes o)) ∙ fat);
  publishes = λ has k q h. (r.gated.takers id v at has).2 k q (subst (HasPublish k q) knows.seen.1 h);
  shows = subst (λ (ls : List ℕ). ShowsDepth i (depth o (m ++ e ∷ [])) (slice_index ls o) n) (sym mine.same)
      (shows_depth i (depth o (m ++ e ∷ [])) (lock_at (locks_after e r.locks) o) (slice_index lows o) n fits (r.bytes o)
      (ap (depth o) (sym mine') ∙ depth_is_holds lows count i o (r.log ++ e ∷ []) (locks_after e r.locks) again) word');
}
  where
    i : ℕ
    i = index_of v.parts

    m : List Event
    m = mine_of v.parts

    e : Event
    e = event i o kind

    knows : Knows lows count r.log r.seat_of id v
    knows = r.views id v at

    mine : IsMine lows count r.log r.seat_of id v (part i m)
    mine = (subst (Each (IsMine lows count r.log r.seat_of id v)) one knows.parts).0

    mine' : own_events i (r.log ++ e ∷ []) ≡ m ++ e ∷ []
    mine' = own_snoc_mine i e r.log refl ∙ ap (λ (z : List Event). z ++ e ∷ []) mine.all

    word' : n ≡ word_of (lock_at (locks_after e r.locks) o) (slice_index lows o)
    word' = is ∙ sym (ap (λ (l : Lock). word_of l (slice_index lows o)) (lock_after_here e r.locks o (let len = length-locks lows count r.log r.locks r.replays in omega arith) refl))

    again : Replays lows count (free_locks lows) (r.log ++ e ∷ []) (locks_after e r.locks)
    again = replays_snoc lows count (free_locks lows) r.log r.locks e r.replays (mine.low, mine.high, inside, legal)

    fits : Fits (lock_at (locks_after e r.locks) o)
    fits = fits_all lows count (r.log ++ e ∷ []) (locks_after e r.locks) r.few again o

-- what the step of an event tells
does : {B : Type 0} (bound : B → List ObjectId) (lows : List ℕ) (count : ℕ) (s : State (Option B) View) (r : Ruled bound lows count s) (id : ℕ) (me : Me (Option B) View) (o : ℕ) (kind : EventKind) (n : ℕ) (st : Step (Option B)) → st.word ≡ o + 1
    → get_elem? s.views id ≡ some me.0 → HasOneIndex me.0 → o < length lows
    → Legal (index_of me.0.parts) kind (lock_at r.locks o) (slice_index lows o) → n ≡ word_of (effect (index_of me.0.parts) kind (lock_at r.locks o)) (slice_index lows o)
    → Does kind n st me (stepped_view me.0 r.log (index_of me.0.parts) (mine_of me.0.parts) (event (index_of me.0.parts) o kind), me.1)
does bound lows count s r id me o kind n st word at one inside legal is = (
  (λ p w. let same : o ≡ p = omega arith in
      subst (λ (k : ℕ). AddsEvent k kind n me.0 (stepped_view me.0 r.log (index_of me.0.parts) (mine_of me.0.parts) (event (index_of me.0.parts) o kind))) same
      (told bound lows count s r id me.0 o kind n at one inside legal is)),
  refl,
)

-- a load may be made
pub loads : {B : Type 0} (bound : B → List ObjectId) (lows : List ℕ) (count slots id : ℕ) (me : Me (Option B) View) (o : ℕ) → HasOneIndex me.0 → o < length lows
    → Allows (Ruled bound lows count) slots id me (o + 1) (λ n. n) (Loads (step slots (o + 1) 0 0 none) me)
loads bound lows count slots id me o one inside s r _ at _ = let n : ℕ = slice_index s.words (o + 1) in (
  stepped_view me.0 r.log (index_of me.0.parts) (mine_of me.0.parts) (event (index_of me.0.parts) o (Load n)),
  keeps,
  tt,
  steps bound lows count s r id me.0 (index_of me.0.parts) (mine_of me.0.parts) o (Load n) n at one inside (r.words o inside) (r.words o inside) (inr tt) me.1,
  does bound lows count s r id me o (Load n) n (step slots (o + 1) 0 0 none) refl at one inside (r.words o inside) (r.words o inside),
)

-- an owner stores: nobody else changes the word, so it is what the owner's events made of it
pub stores : {B : Type 0} (bound : B → List ObjectId) (lows : List ℕ) (count slots id : ℕ) (me : Me (Option B) View) (o : ℕ) (kind_of : ℕ → EventKind) (d new : ℕ) → HasOneIndex me.0 → o < length lows
    → depth o (mine_of me.0.parts) ≡ suc d
    → Legal (index_of me.0.parts) (kind_of new) (Thin (index_of me.0.parts) d) (slice_index lows o)
    → new ≡ word_of (effect (index_of me.0.parts) (kind_of new) (Thin (index_of me.0.parts) d)) (slice_index lows o)
    → GateAllows me.0.has_gate (kind_of new)
    → Allows (Ruled bound lows count) slots id me (o + 1) (λ _. new) (λ _. Stores kind_of (step slots (o + 1) new 0 none) me new)
stores bound lows count slots id me o kind_of d new one inside new_depth legal is may s r _ at _ = (
  stepped_view me.0 r.log i m (event i o (kind_of new)),
  keeps,
  tt,
  steps bound lows count s r id me.0 i m o (kind_of new) new at one inside legal' is' may me.1,
  does bound lows count s r id me o (kind_of new) new (step slots (o + 1) new 0 none) refl at one inside legal' is',
)
  where
    i : ℕ
    i = index_of me.0.parts

    m : List Event
    m = mine_of me.0.parts

    knows : Knows lows count r.log r.seat_of id me.0
    knows = r.views id me.0 at

    mine : IsMine lows count r.log r.seat_of id me.0 (part i m)
    mine = (subst (Each (IsMine lows count r.log r.seat_of id me.0)) one knows.parts).0

    thin : lock_at r.locks o ≡ Thin i d
    thin = thin_of_holds i d (lock_at r.locks o) (sym (depth_is_holds lows count i o r.log r.locks r.replays) ∙ (ap (depth o) mine.all ∙ new_depth))

    legal' : Legal i (kind_of new) (lock_at r.locks o) (slice_index lows o)
    legal' = subst (λ (l : Lock). Legal i (kind_of new) l (slice_index lows o)) (sym thin) legal

    is' : new ≡ word_of (effect i (kind_of new) (lock_at r.locks o)) (slice_index lows o)
    is' = is ∙ ap (λ (l : Lock). word_of (effect i (kind_of new) l) (slice_index lows o)) (sym thin)

-- an exchange of the free word may be made: it is won where the word is free
pub exchanges : {B : Type 0} (bound : B → List ObjectId) (lows : List ℕ) (count slots id : ℕ) (me : Me (Option B) View) (o low new : ℕ) → HasOneIndex me.0 → o < length lows → low ≡ slice_index lows o → new ≡ word_of (Thin (index_of me.0.parts) 0) low
    → Allows (Ruled bound lows count) slots id me (o + 1) (λ n. either (eqb n low) new n) (Exchanges (step slots (o + 1) low new none) me)
exchanges bound lows count slots id me o low new one inside is_low is_new s r _ at _ = dite (ℕ_discrete n low)
    (λ hit. let free : lock_at r.locks o ≡ Free = free_word (lock_at r.locks o) (slice_index lows o) (fits_all lows count r.log r.locks r.few r.replays o) (sym (r.words o inside) ∙ (hit ∙ is_low)) in
    let made : new ≡ word_of (Thin i 0) (slice_index lows o) = is_new ∙ ap (word_of (Thin i 0)) is_low in (
      stepped_view me.0 r.log i m (event i o Win),
      keeps,
      tt,
      subst (λ b. Ruled bound lows count (stepped s (o + 1) (either b new n) id me.1 (stepped_view me.0 r.log i m (event i o Win)) keeps)) (sym (eq-eqb n low hit))
          (steps bound lows count s r id me.0 i m o Win new at one inside free made (inr tt) me.1),
      ((λ _. does bound lows count s r id me o Win new (step slots (o + 1) low new none) refl at one inside free made), λ not. absurd (not hit)),
    ))
    (λ miss. let not_free : lock_at r.locks o ≢ Free = λ free. miss (r.words o inside ∙ (free_low (lock_at r.locks o) (slice_index lows o) free ∙ sym is_low)) in (
      stepped_view me.0 r.log i m (event i o Lose),
      keeps,
      tt,
      subst (λ b. Ruled bound lows count (stepped s (o + 1) (either b new n) id me.1 (stepped_view me.0 r.log i m (event i o Lose)) keeps)) (sym (ne_eqb n low miss))
          (steps bound lows count s r id me.0 i m o Lose n at one inside not_free (r.words o inside) (inr tt) me.1),
      ((λ hit. absurd (miss hit)), λ _. does bound lows count s r id me o Lose n (step slots (o + 1) low new none) refl at one inside not_free (r.words o inside)),
    ))
  where
    i : ℕ
    i = index_of me.0.parts

    m : List Event
    m = mine_of me.0.parts

    n : ℕ
    n = slice_index s.words (o + 1)
