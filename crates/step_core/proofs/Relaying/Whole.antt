-- A relayout as a whole.
use Rattle.std.specs.Prelude.{◌≡◌, ◌⊎◌, ℕ, zero, suc, ◌+◌, ◌<◌, ◌≤◌, Bool, true, false, cond, if◌then◌else◌, List, [], ◌∷◌, take, count_by, length, get_or, set, Option, Some, None, Result, Ok, Err, OnOk, OnErr}
use Rattle.std.proofs.Common.{arith, refl, ap, subst, sym, ◌∙◌, inl, inr, get_or-set_same, get_or-set_other, length-set, length-append}
use Rattle.std.proofs.Math.Path.{fun_ext}
use Rattle.std.proofs.lemmas.Bool.{cases_eq, le-ltb}
use Rattle.std.proofs.lemmas.List.{length-map}
use Rattle.std.proofs.lemmas.List.Sums.{sum_by_more, sum_by-take-le}
use Rattle.lock_word.specs.declared.ThreadId.{ThreadId}
use Rattle.lock_word.specs.declared.Lock.{Lock}
use Rattle.lock_word.specs.declared.Lock.TheVariants.{Free, Thin, Fat}
use Rattle.lock_word.specs.declared.Split.{Split}
use Rattle.lock_word.specs.Layout.{low_of, greatest_index}
use Rattle.lock_word.proofs.Words.{low_kept}
use Rattle.lock_word.specs.declared.Memory.{Memory}
use Rattle.fat_monitor.specs.declared.actions.Post.{Post}
use Rattle.fat_monitor.specs.declared.actions.Post.TheVariants.{Out, Entering, Waiting, Back, Granted}
use Rattle.fat_monitor.specs.FatState.{FatState, with_spare, flag_at, post_at}
use Rattle.fat_monitor.specs.FatState as book
use Rattle.step_core.specs.declared.machine.Doing.{Doing}
use Rattle.step_core.specs.declared.places.Place.{Place}
use Rattle.step_core.specs.World.{WorldState, place_at, word_at, lock_at, low_word}
use Rattle.step_core.specs.Shown.{shown, monitor_of, act_of, thread_of}
use Rattle.step_core.specs.Sound.{IsSound}
use Rattle.step_core.specs.Go.{new_word}
use Rattle.step_core.specs.Machine.{Thread}
use Rattle.step_core.specs.Kept.{Keeps}
use Rattle.step_core.specs.Patient.{left_of, left_of_berth}
use Rattle.step_core.specs.Relayout.{is_resting, IsAtRest, rests_as, holder_rests, rest_below, is_at_rest, is_too_deep, is_deep_word, deep_in, inflated_for, inflated_at, inflated_below, is_same_split, word_in, respelled, roomy, relaid, AfterRelayout, after_relayout}
use Rattle.step_core.proofs.Relaying.Respelling.{word_now}
use Rattle.thread_index.specs.Indices.{berth_of, holder_at, holder_of}
use Rattle.thread_index.proofs.Berths.{berth_found}
use Rattle.step_core.proofs.Sound.Parts.{sound_fats}

-- room for binds to come leaves the world sound
pub spare_sound : (w : WorldState) → IsSound w → (n : ℕ) → book.IsSound (with_spare w.fats n) → IsSound (record w { fats = with_spare w.fats n })
spare_sound w sound n fats =
    sound_fats w sound (with_spare w.fats n) refl (λ m. refl) (λ m i c e h. refl) fats refl (λ u. ((λ h. h), (λ h. h))) (λ u. ((λ h. h), (λ h. h)))

pub reserved_sound : (w : WorldState) → IsSound w → (n : ℕ) (r : Result (Unit {0}) Memory) (g : FatState) → OnOk r (g ≡ with_spare w.fats n) → OnErr r (g ≡ w.fats)
    → book.IsSound g → IsSound (record w { fats = g })
reserved_sound w sound n (Ok x) g ok err fats = rw ok (spare_sound w sound n (rw ok at fats))
reserved_sound w sound n (Err e) g ok err fats = rw err sound

-- Who does not rest below a berth does not rest below a later one.
pub rest_stops : (w : WorldState) (k n : ℕ) → k < n → rest_below w (suc k) ≡ false → rest_below w n ≡ false
rest_stops w k zero h e = absurd (omega arith)
rest_stops w k (suc n) h e = by_place (cases_eq k n) (λ l. rest_stops w k n l e)
  where
    by_place : (k ≡ n) ⊎ (k ≡ n → ⊥) → (k < n → rest_below w n ≡ false) → rest_below w (suc n) ≡ false
    by_place (inl same) rest = rw same at e
    by_place (inr other) rest = let before : rest_below w n ≡ false = rest (omega arith) in rw before refl

module _ (s : Split) (w : WorldState) where
  -- how many of the first p words do not fit
  abbrev deep_to : ℕ → ℕ
  deep_to p = count_by (is_deep_word w.split s) (take p w.words)

  -- What the inflation of the first p objects leaves: the words behind them, and as many monitors and as much room
  -- as are owed to the rest.
  pub record Follows (p : ℕ) (v : WorldState) : Type 0 where
    pub split : v.split ≡ w.split
    pub berths : v.berths ≡ w.berths
    pub places : v.places ≡ w.places
    pub size : length v.words ≡ length w.words
    pub limit : v.fats.limit ≡ w.fats.limit
    pub later : (q : ℕ) → p ≤ q → word_at v q ≡ word_at w q
    pub most : length v.fats.monitors ≤ length w.fats.monitors + deep_to p
    pub spare : w.fats.spare ≤ v.fats.spare + deep_to p

  module _ (p : ℕ) (here : p < length w.words) (v : WorldState) (f : Follows p v) where
    lock_now : lock_at v p ≡ lock_at w p
    lock_now = rw (f.split, f.later p (omega arith)) refl

    one_more : (b : Bool) → is_too_deep s (lock_at w p) ≡ b → deep_to (p + 1) ≡ deep_to p + (if b then 1 else 0)
    one_more b e = sum_by_more (λ x. cond (is_deep_word w.split s x) 1 0) w.words p (low_word 0) here ∙ rw e refl

    unchanged : (b : Bool) → is_too_deep s (lock_at w p) ≡ b → Follows (p + 1) v
    unchanged b e = record {
      split = f.split;
      berths = f.berths;
      places = f.places;
      size = f.size;
      limit = f.limit;
      later = λ q h. f.later q (omega arith);
      most = let m = f.most in let c = one_more b e in omega arith;
      spare = let m = f.spare in let c = one_more b e in omega arith;
    }

    bound : (n : ℕ) (t : ThreadId) → is_too_deep s (lock_at w p) ≡ true → Follows (p + 1) (inflated_for v p n (Some t))
    bound n t e = record {
      split = f.split;
      berths = f.berths;
      places = f.places;
      size = length-set v.words p (new_word v (record { 0 = p }) (Fat (length v.fats.monitors))) ∙ f.size;
      limit = f.limit;
      later = λ q h. get_or-set_other v.words p q (new_word v (record { 0 = p }) (Fat (length v.fats.monitors))) (low_word 0) (λ same. absurd (omega arith)) ∙ f.later q (omega arith);
      most = let m = f.most in let c = one_more true e in let long = length-append v.fats.monitors (record { object = record { 0 = p }; owner = Some t; holds = n } ∷ []) in omega arith;
      spare = let m = f.spare in let c = one_more true e in omega arith;
    }

    next : Follows (p + 1) (inflated_at s v p)
    next = by_test (is_too_deep s (lock_at v p)) refl
      where
        by_owner : (n : ℕ) (o : Option ThreadId) → is_too_deep s (lock_at w p) ≡ true → Follows (p + 1) (inflated_for v p n o)
        by_owner n None e = unchanged true e
        by_owner n (Some t) e = bound n t e

        by_test : (b : Bool) → is_too_deep s (lock_at v p) ≡ b → Follows (p + 1) (inflated_at s v p)
        by_test true e = rw e (by_owner (monitor_of v (lock_at v p)).count (monitor_of v (lock_at v p)).owner (rw lock_now at e))
        by_test false e = rw e (unchanged false (rw lock_now at e))

  pub follows : (p : ℕ) → p ≤ length w.words → Follows p (inflated_below s w p)
  follows zero h = record { split = refl; berths = refl; places = refl; size = refl; limit = refl; later = λ q h. refl; most = omega arith; spare = omega arith }
  follows (suc p) h = let more : p + 1 ≡ suc p = omega arith in rw more at (next p (omega arith) (inflated_below s w p) (follows p (omega arith)))

-- where the threads below berth k rest and its own does not, not all rest
pub rest_fails : (w : WorldState) (k n : ℕ) (b : Bool) → k < n → rest_below w k ≡ true → b ≡ holder_rests (shown w) (holder_of w.berths (k + 1)) → b ≡ false → false ≡ rest_below w n
rest_fails w k n b h all is fails =
    let more : k + 1 ≡ suc k = omega arith in
    let holder : holder_rests (shown w) (holder_at w.berths k) ≡ false = sym (rw more at is) ∙ fails in
    let here : rest_below w (suc k) ≡ false = rw (all, holder) refl in
    sym (rest_stops w k n h here)

-- another object's lock stays
else_kept : (s : Split) (v : WorldState) (p q : ℕ) → (q ≡ p → ⊥) → lock_at (inflated_at s v p) q ≡ lock_at v q
else_kept s v p q ne = by_test (is_too_deep s (lock_at v p)) refl
  where
    by_owner : (n : ℕ) (o : Option ThreadId) → lock_at (inflated_for v p n o) q ≡ lock_at v q
    by_owner n None = refl
    by_owner n (Some t) = rw (get_or-set_other v.words p q (new_word v (record { 0 = p }) (Fat (length v.fats.monitors))) (low_word 0) ne) refl

    by_test : (b : Bool) → is_too_deep s (lock_at v p) ≡ b → lock_at (inflated_at s v p) q ≡ lock_at v q
    by_test true e = rw e (by_owner (monitor_of v (lock_at v p)).count (monitor_of v (lock_at v p)).owner)
    by_test false e = rw e refl

module _ (s : Split) (w : WorldState) (p : ℕ) (here : p < length w.words) (v : WorldState) (is : v ≡ inflated_below s w p) where
  so_far : Follows s w p v
  so_far = subst (λ (x : WorldState). Follows s w p x) (sym is) (follows s w p (omega arith))

  -- there is a monitor for the next object that does not fit, and room for its bind
  pub room_now : length w.fats.monitors + deep_in s w ≤ w.fats.limit → deep_in s w ≤ w.fats.spare → is_too_deep s (lock_at v p) ≡ true
      → (length v.fats.monitors < v.fats.limit) × (1 ≤ v.fats.spare)
  room_now monitors spare deep =
      let all : deep_to s w (p + 1) ≤ deep_in s w = sum_by-take-le (λ x. cond (is_deep_word w.split s x) 1 0) w.words (p + 1) in
      let one : deep_to s w (p + 1) ≡ deep_to s w p + 1 = one_more s w p here v so_far true (rw (lock_now s w p here v so_far) at deep) in
      let most = so_far.most in
      let left = so_far.spare in
      let same : v.fats.limit ≡ w.fats.limit = so_far.limit in
      (omega arith, omega arith)

  pub inflated_more : (u : WorldState) → u ≡ inflated_at s v p → u ≡ inflated_below s w (p + 1)
  inflated_more u e = let more : p + 1 ≡ suc p = omega arith in rw (more, ← is) e

  pub fit_more : (u : WorldState) → u ≡ inflated_at s v p → is_too_deep s (lock_at u p) ≡ false → ((q : ℕ) → q < p → is_too_deep s (lock_at v q) ≡ false)
      → (q : ℕ) → q < p + 1 → is_too_deep s (lock_at u q) ≡ false
  fit_more u e own below q h = by_object (cases_eq q p)
    where
      by_object : (q ≡ p) ⊎ (q ≡ p → ⊥) → is_too_deep s (lock_at u q) ≡ false
      by_object (inl same) = rw same own
      by_object (inr ne) = rw e (rw (else_kept s v p q ne) (below q (omega arith)))

-- ---- whether all threads are at rest

rest_at : (w : WorldState) (n : ℕ) → rest_below w n ≡ true → (k : ℕ) → k < n → holder_rests (shown w) (holder_at w.berths k) ≡ true
rest_at w zero all k h = absurd (omega arith)
rest_at w (suc n) all k h = by_test (rest_below w n) refl (cases_eq k n) (λ e l. rest_at w n e k l)
  where
    by_test : (b : Bool) → rest_below w n ≡ b → (k ≡ n) ⊎ (k ≡ n → ⊥) → (rest_below w n ≡ true → k < n → holder_rests (shown w) (holder_at w.berths k) ≡ true)
        → holder_rests (shown w) (holder_at w.berths k) ≡ true
    by_test true e (inl same) rest = rw same (rw e at all)
    by_test true e (inr ne) rest = rest e (omega arith)
    by_test false e same rest = let never : false ≡ true = rw e at all in absurd (cc)

pub at_rest : (w : WorldState) → is_at_rest w ≡ true → IsAtRest (shown w)
at_rest w all t flag d is = by_berth (berth_of w.berths t) refl
  where
    by_berth : (o : Option ℕ) → berth_of w.berths t ≡ o → is_resting d ≡ true
    by_berth None e = let never : ◌≡◌ {A = Option Thread} None (Some (record { flag = flag; act = d })) = rw e at is in absurd (cc)
    by_berth (Some k) e =
        let there = berth_found w.berths t k e in
        let rests : holder_rests (shown w) (Some t) ≡ true = rw there.1 at (rest_at w (length w.berths) all k there.0) in
        rw is at rests

rests_held : (w : WorldState) → IsAtRest (shown w) → (o : Option ThreadId) → holder_rests (shown w) o ≡ true
rests_held w rest None = refl
rests_held w rest (Some t) = by_thread ((shown w).thread t) refl
  where
    by_thread : (x : Option Thread) → (shown w).thread t ≡ x → rests_as x ≡ true
    by_thread None e = refl
    by_thread (Some x) e = rest t x.flag x.act e

all_rest : (w : WorldState) → IsAtRest (shown w) → (n : ℕ) → rest_below w n ≡ true
all_rest w rest zero = refl
all_rest w rest (suc n) = let before = all_rest w rest n in rw before (rests_held w rest (holder_at w.berths n))

pub not_at_rest : (w : WorldState) → is_at_rest w ≡ false → IsAtRest (shown w) → ⊥
not_at_rest w moving rest = let never : true ≡ false = sym (all_rest w rest (length w.berths)) ∙ moving in cc

-- ---- what a relayout leaves

pub inflated_berths : (s : Split) (w : WorldState) → (inflated_below s w (length w.words)).berths ≡ w.berths
inflated_berths s w = (follows s w (length w.words) (omega arith)).berths

module _ (s : Split) (w : WorldState) where
  -- inflation keeps each low byte
  low_at : (v : WorldState) (p q : ℕ) → p < length v.words → low_of (word_at (inflated_at s v p) q).0 ≡ low_of (word_at v q).0
  low_at v p q here = by_test (is_too_deep s (lock_at v p)) refl
    where
      by_object : (q ≡ p) ⊎ (q ≡ p → ⊥) → low_of (get_or (set v.words p (new_word v (record { 0 = p }) (Fat (length v.fats.monitors)))) q (low_word 0)).0 ≡ low_of (word_at v q).0
      by_object (inl same) =
          rw (same, get_or-set_same v.words p (new_word v (record { 0 = p }) (Fat (length v.fats.monitors))) (low_word 0) here)
          (low_kept v.split (word_at v p).0 (Fat (length v.fats.monitors)))
      by_object (inr ne) = rw (get_or-set_other v.words p q (new_word v (record { 0 = p }) (Fat (length v.fats.monitors))) (low_word 0) ne) refl

      by_owner : (n : ℕ) (o : Option ThreadId) → low_of (word_at (inflated_for v p n o) q).0 ≡ low_of (word_at v q).0
      by_owner n None = refl
      by_owner n (Some t) = by_object (cases_eq q p)

      by_test : (b : Bool) → is_too_deep s (lock_at v p) ≡ b → low_of (word_at (inflated_at s v p) q).0 ≡ low_of (word_at v q).0
      by_test true e = rw e (by_owner (monitor_of v (lock_at v p)).count (monitor_of v (lock_at v p)).owner)
      by_test false e = rw e refl

  low_below : (p : ℕ) → p ≤ length w.words → (q : ℕ) → low_of (word_at (inflated_below s w p) q).0 ≡ low_of (word_at w q).0
  low_below zero h q = refl
  low_below (suc p) h q =
      let size : length (inflated_below s w p).words ≡ length w.words = (follows s w p (omega arith)).size in
      low_at (inflated_below s w p) p q (omega arith) ∙ low_below p (omega arith) q

pub relaid_keeps : (s : Split) (w : WorldState) → Keeps w (relaid s w)
relaid_keeps s w = record {
  objects = length-map v.words (word_in v.split s) ∙ (follows s (roomy s w) (length w.words) (omega arith)).size;
  low_bytes = λ q. rw (word_now v s q) (low_kept s (word_at v q).0 (lock_at v q) ∙ low_below s (roomy s w) (length w.words) (omega arith) q);
} where
  v : WorldState
  v = inflated_below s (roomy s w) (length w.words)

-- a call has as many steps left where the berths, the places and the number of objects stay
left_same : (w v : WorldState) (t : ThreadId) → v.berths ≡ w.berths → v.places ≡ w.places → length v.words ≡ length w.words → left_of v t ≡ left_of w t
left_same w v t berths places size = ap (λ (xs : List (Option ThreadId)). left_of_berth v (berth_of xs t)) berths ∙ by_berth (berth_of w.berths t)
  where
    by_berth : (o : Option ℕ) → left_of_berth v o ≡ left_of_berth w o
    by_berth None = refl
    by_berth (Some k) = rw (places, size) refl

pub relaid_left : (s : Split) (w : WorldState) (t : ThreadId) → left_of (relaid s w) t ≡ left_of w t
relaid_left s w t =
    let f = follows s (roomy s w) (length w.words) (omega arith) in
    left_same w (relaid s w) t f.berths f.places (relaid_keeps s w).objects

-- room for binds to come is not shown
pub spare_shows : (w : WorldState) (n : ℕ) → shown (record w { fats = with_spare w.fats n }) ≡ shown w
spare_shows w n =
    let threads : (shown v).thread ≡ (shown w).thread = fun_ext (λ u. thread_same u (berth_of w.berths u)) in
    let monitors : (shown v).monitor ≡ (shown w).monitor = fun_ext (λ q. monitor_same (lock_at w q.0)) in
    λ k. record { thread = threads k; objects = length w.words; monitor = monitors k; moment = w.fats.moment }
  where
    v : WorldState
    v = record w { fats = with_spare w.fats n }

    act_same : (p : Post) (q : Place) → act_of v.fats p q ≡ act_of w.fats p q
    act_same Out q = refl
    act_same (Entering m) q = refl
    act_same (Waiting m c d) q = refl
    act_same (Back m c y) q = refl
    act_same (Granted r) q = refl

    thread_same : (u : ThreadId) (k : Option ℕ) → thread_of v u k ≡ thread_of w u k
    thread_same u None = refl
    thread_same u (Some k) = ap (λ (d : Doing). Some (record { flag = flag_at w.fats u; act = d })) (act_same (post_at w.fats u) (place_at w k))

    monitor_same : (l : Lock) → monitor_of v l ≡ monitor_of w l
    monitor_same Free = refl
    monitor_same (Thin i c) = refl
    monitor_same (Fat m) = refl

-- what the code has found and left is what the definition says
pub relaid_exact : (s : Split) (w u v : WorldState) (deep : ℕ) → deep ≡ deep_in s w → v ≡ record w { fats = with_spare w.fats deep }
    → u ≡ respelled s (inflated_below s v (length v.words)) → u ≡ relaid s w
relaid_exact s w u v deep count room is = rw (room, count) at is

pub done_exact : (s : Split) (w u : WorldState) (deep : ℕ) → is_at_rest w ≡ true → is_same_split s w.split ≡ false → length w.berths ≤ greatest_index s
    → length w.fats.monitors + deep_in s w ≤ w.fats.limit → deep ≡ deep_in s w → u ≡ relaid s w
    → ◌≡◌ {A = AfterRelayout} (record { answer = Ok deep; after = u }) (after_relayout true w s)
done_exact s w u deep rest other few room count is =
    rw (rest, other, le-ltb (greatest_index s) (length w.berths) few, le-ltb w.fats.limit (length w.fats.monitors + deep_in s w) room, count, is) refl
