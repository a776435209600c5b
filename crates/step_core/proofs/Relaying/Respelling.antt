-- The words of a world at rest are written in another split, which each lock fits: the world stays sound, and shows what
-- it showed.
use Rattle.std.specs.Prelude.{◌≡◌, ◌⊎◌, ℕ, zero, suc, ◌+◌, ◌-◌, ◌<◌, ◌≤◌, false, List, [], ◌∷◌, ◌++◌, map, take, drop, set, length, get_or, Option, Some, None, IsSome}
use Rattle.std.proofs.Common.{arith, refl, ap, sym, ◌∙◌, inl, inr}
use Rattle.std.proofs.Math.Path.{fun_ext}
use Rattle.std.proofs.lemmas.Bool.{cases_lt, ltb-false}
use Rattle.std.proofs.lemmas.List.{length-map, get_or_past}
use lib.ListN.{get_or-map}
use Rattle.lock_word.specs.declared.ThreadId.{ThreadId}
use Rattle.lock_word.specs.declared.Word.{Word}
use Rattle.lock_word.specs.declared.Lock.{Lock}
use Rattle.lock_word.specs.declared.Lock.TheVariants.{Free, Thin, Fat}
use Rattle.lock_word.specs.declared.Split.{Split}
use Rattle.lock_word.specs.Layout.{Fits, IsMalformed, greatest_count, greatest_index, low_of, lock_of, with_lock}
use Rattle.lock_word.proofs.Words.{formed-word_of, lock_of-word_of, free}
use Rattle.thread_index.specs.Indices.{berth_of, holder_at}
use Rattle.fat_monitor.specs.FatState.{monitor_at}
use Rattle.step_core.specs.World.{WorldState, word_at, lock_at, low_word}
use Rattle.step_core.specs.Shown.{shown, monitor_of, thread_of}
use Rattle.step_core.specs.Sound.{IsSound, MayShow}
use Rattle.step_core.specs.Relayout.{IsAtRest, is_too_deep, word_in, respelled}
use Rattle.step_core.proofs.Facts.OneThread.{stands_at, lock_past}
use Rattle.step_core.proofs.Relaying.Resting.{sound_changed, shown_by}

-- past the end is no holder
within_berths : (berths : List (Option ThreadId)) (k : ℕ) → IsSome (holder_at berths k) → k < length berths
within_berths berths k some = by_place (cases_lt k (length berths))
  where
    by_holder : (o : Option ThreadId) → o ≡ None → IsSome o → ⊥
    by_holder None e h = cc
    by_holder (Some t) e h = cc

    by_place : (k < length berths) ⊎ (length berths ≤ k) → k < length berths
    by_place (inl h) = h
    by_place (inr h) = absurd (by_holder (holder_at berths k) (get_or_past berths k None h) some)

-- the free word past the end stays what it is
low_stays : (old s : Split) → word_in old s (low_word 0) ≡ low_word 0
low_stays old s = rw (free old 0 (omega arith)) refl

-- each word is written so
pub word_now : (w : WorldState) (s : Split) (p : ℕ) → word_at (respelled s w) p ≡ word_in w.split s (word_at w p)
word_now w s p =
    ap (λ (d : Word). get_or (map (word_in w.split s) w.words) p d) (sym (low_stays w.split s)) ∙ get_or-map (word_in w.split s) w.words p (low_word 0)

module _ (w : WorldState) (sound : IsSound w) (s : Split) (few : length w.berths ≤ greatest_index s)
    (fit : (p : ℕ) → p < length w.words → is_too_deep s (lock_at w p) ≡ false) where
  abbrev after : WorldState
  after = respelled s w

  -- each lock fits the new split
  lock_fits : (p : ℕ) (l : Lock) → MayShow w p l → is_too_deep s l ≡ false → Fits s l
  lock_fits p Free may deep = tt
  lock_fits p (Thin i n) may deep =
      let berth : i - 1 < length w.berths = within_berths w.berths (i - 1) may.3 in
      let count : n ≤ greatest_count s = ltb-false (greatest_count s) n deep in
      (may.0, omega arith, count)
  lock_fits p (Fat m) may deep =
      let b : length w.fats.monitors ≤ w.fats.limit = sound.fats.few in let l : w.fats.limit ≤ 8388608 = sound.fats.limit in
      let m : m < length w.fats.monitors = may.0 in omega arith

  pub all_fit : (p : ℕ) → Fits s (lock_at w p)
  all_fit p = lock_fits p (lock_at w p) (stands_at w sound p) (by_place (cases_lt p (length w.words)))
    where
      by_place : (p < length w.words) ⊎ (length w.words ≤ p) → is_too_deep s (lock_at w p) ≡ false
      by_place (inl h) = fit p h
      by_place (inr h) = rw (lock_past w p h) refl

  lock_same : (p : ℕ) → lock_at after p ≡ lock_at w p
  lock_same p = ap (λ (x : Word). lock_of s x.0) (word_now w s p) ∙ lock_of-word_of s (lock_at w p) (low_of (word_at w p).0) (all_fit p) (omega arith)

  pub respelled_sound : IsAtRest (shown w) → IsSound after
  respelled_sound rest =
      sound_changed w sound rest s after.words w.fats (length-map w.words (word_in w.split s)) few refl sound.fats
      (λ q m e. lock_same q ∙ e) (λ q k h. rw (lock_same q) h) formed words (λ m h. lock_same (monitor_at w.fats m).object.0 ∙ shown_by w sound rest m h)
    where
      formed : (p : ℕ) → IsMalformed s (word_at after p).0 → ⊥
      formed p = rw (word_now w s p) (formed-word_of s (lock_at w p) (low_of (word_at w p).0) (all_fit p) (omega arith))

      stands : (p : ℕ) (l : Lock) → MayShow w p l → Fits s l → MayShow after p l
      stands p Free may fits = tt
      stands p (Thin i n) may fits = (may.0, fits.1, fits.2, may.3)
      stands p (Fat m) may fits = may

      words : (p : ℕ) → p < length w.words → MayShow after p (lock_at after p)
      words p h = rw (lock_same p) (stands p (lock_at w p) (sound.words p h) (all_fit p))

  pub respelled_shows : shown after ≡ shown w
  respelled_shows =
      let threads : (shown after).thread ≡ (shown w).thread = fun_ext (λ u. thread_same u (berth_of w.berths u)) in
      let monitors : (shown after).monitor ≡ (shown w).monitor = fun_ext (λ q. rw (lock_same q.0) (monitor_same (lock_at w q.0))) in
      let size : length after.words ≡ length w.words = length-map w.words (word_in w.split s) in
      λ k. record { thread = threads k; objects = size k; monitor = monitors k; moment = w.fats.moment }
    where
      thread_same : (u : ThreadId) (k : Option ℕ) → thread_of after u k ≡ thread_of w u k
      thread_same u None = refl
      thread_same u (Some k) = refl

      monitor_same : (l : Lock) → monitor_of after l ≡ monitor_of w l
      monitor_same Free = refl
      monitor_same (Thin i n) = refl
      monitor_same (Fat m) = refl

-- in a row of words of which the first i are written anew the next is the old one, and is written next
word_next : (f : Word → Word) (ws : List Word) (i : ℕ) (d : Word) → i < length ws → get_or (map f (take i ws) ++ drop i ws) i d ≡ get_or ws i d
word_next f [] i d h = absurd (omega arith)
word_next f (x ∷ ws) zero d h = refl
word_next f (x ∷ ws) (suc i) d h = word_next f ws i d (omega arith)

set_next : (f : Word → Word) (ws : List Word) (i : ℕ) (d : Word) → i < length ws
    → set (map f (take i ws) ++ drop i ws) i (f (get_or ws i d)) ≡ map f (take (suc i) ws) ++ drop (suc i) ws
set_next f [] i d h = absurd (omega arith)
set_next f (x ∷ ws) zero d h = refl
set_next f (x ∷ ws) (suc i) d h = ap (λ (l : List Word). f x ∷ l) (set_next f ws i d (omega arith))

pub one_more_respelled : (old s : Split) (ws xs : List Word) (i : ℕ) (y : Word) → i < length ws → xs ≡ map (word_in old s) (take i ws) ++ drop i ws
    → y.0 ≡ with_lock s (get_or xs i (low_word 0)).0 (lock_of old (get_or xs i (low_word 0)).0)
    → set xs i y ≡ map (word_in old s) (take (i + 1) ws) ++ drop (i + 1) ws
one_more_respelled old s ws xs i y h is written =
    let more : i + 1 ≡ suc i = omega arith in
    let word : get_or xs i (low_word 0) ≡ get_or ws i (low_word 0) = rw is (word_next (word_in old s) ws i (low_word 0) h) in
    let new : y ≡ word_in old s (get_or ws i (low_word 0)) = ap (λ (n : ℕ). record { 0 = n }) (rw word at written) in
    rw (more, is, new) (set_next (word_in old s) ws i (low_word 0) h)
