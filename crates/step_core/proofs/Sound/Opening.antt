-- The opening world is sound, and shows the opening state.
use Rattle.std.specs.Prelude.{◌≡◌, ℕ, ◌<◌, ◌≤◌, List, [], ◌∷◌, length, map, get_or, replicate, Option, None, IsSome, is_some, count_by, cond, true}
use Rattle.std.proofs.Common.{arith, refl, sym, ap, ◌∙◌, zero, suc}
use Rattle.std.proofs.Math.Path.{fun_ext}
use Rattle.std.proofs.lemmas.Bool.{lt-ltb}
use Rattle.std.proofs.lemmas.List.{length-map}
use Rattle.std.proofs.lemmas.List.Folds.{sum_by-replicate}
use Rattle.std.specs.Ordering.{nat_cmp}
use Rattle.std.specs.FinMap.{get-empty, len-empty}
use Rattle.lock_word.specs.declared.ThreadId.{ThreadId}
use Rattle.lock_word.specs.declared.Lock.TheVariants.{Free}
use Rattle.lock_word.specs.declared.Split.{Split}
use Rattle.lock_word.specs.declared.Split.TheVariants.{Wide, Deep}
use Rattle.lock_word.specs.Layout.{lock_of, greatest_index}
use Rattle.thread_index.specs.Indices.{berth_of}
use Rattle.thread_index.proofs.Berths.{berth_of-replicate, IsOneToOne-replicate}
use Rattle.fat_monitor.specs.declared.actions.Post.{Post}
use Rattle.fat_monitor.specs.FatState.{IsAttached}
use Rattle.fat_monitor.proofs.Soundness.{IsSound-opened}
use Rattle.step_core.specs.declared.places.Place.TheVariants.{Idle}
use Rattle.step_core.specs.Machine.{opening}
use Rattle.step_core.specs.World.{WorldState, opening_world, low_word, lock_at}
use Rattle.step_core.specs.Shown.{shown}
use Rattle.step_core.specs.Sound.{IsSound}

-- a word of a low byte alone
low_words : (lows : List ℕ) → ((k : ℕ) → k < length lows → get_or lows k 0 < 256) → (p : ℕ) → (get_or (map low_word lows) p (low_word 0)).0 < 256
low_words [] h p = omega arith
low_words (x ∷ xs) h zero = h 0 (omega arith)
low_words (x ∷ xs) h (suc p) = low_words xs (λ k l. h (suc k) (omega arith)) p

-- shows no lock
free_at : (split : Split) (word : ℕ) → word < 256 → lock_of split word ≡ Free
free_at Wide word h = rw (lt-ltb word 2147483648 (omega arith), lt-ltb word 65536 (omega arith)) refl
free_at Deep word h = rw (lt-ltb word 2147483648 (omega arith), lt-ltb word 1048576 (omega arith)) refl

-- no berth is taken
none_taken : (n : ℕ) → count_by {X = Option ThreadId} is_some (replicate n None) ≡ 0
none_taken n = sum_by-replicate (λ (x : Option ThreadId). cond (is_some x) 1 0) n None ∙ omega arith

-- every berth is idle
idle_at : (n k : ℕ) → get_or (replicate n Idle) k Idle ≡ Idle
idle_at zero k = refl
idle_at (suc n) zero = refl
idle_at (suc n) (suc k) = idle_at n k

length-replicate : {A : Type 0} (n : ℕ) (x : A) → length (replicate n x) ≡ n
length-replicate zero x = refl
length-replicate (suc n) x = ap suc (length-replicate n x)

module _ (lows : List ℕ) (monitors indices : ℕ) (split : Split) (bytes : (k : ℕ) → k < length lows → get_or lows k 0 < 256) where
  abbrev world : WorldState
  world = opening_world lows monitors indices split

  lock_free : (p : ℕ) → lock_at world p ≡ Free
  lock_free p = free_at split (get_or (map low_word lows) p (low_word 0)).0 (low_words lows bytes p)

  -- nobody has an index, and nobody is attached
  nobody : (t : ThreadId) → IsSome (berth_of world.berths t) → ⊥
  nobody t h = let never : is_some {T = ℕ} None ≡ true = rw (berth_of-replicate indices t) at h in absurd (cc)

  none_attached : (t : ThreadId) → IsAttached world.fats t → ⊥
  none_attached t h = let never : is_some {T = Post} None ≡ true = rw (get-empty {X = Post} nat_cmp t.0) at h in absurd (cc)

  pub opened_sound : length lows ≤ 65535 → indices ≤ greatest_index split → monitors ≤ 8388608 → IsSound world
  opened_sound many few bounded = record {
    many = rw (length-map lows low_word) many;
    berthed = length-replicate indices Idle ∙ sym size;
    few = rw size few;
    one_to_one = IsOneToOne-replicate indices;
    formed = λ p bad. let h : (get_or (map low_word lows) p (low_word 0)).0 < 256 = low_words lows bytes p in omega arith;
    words = λ p h. rw (lock_free p) tt;
    fats = IsSound-opened monitors bounded;
    published = λ m h. absurd (omega arith);
    attached = λ t h. absurd (nobody t h);
    live = λ t h. absurd (none_attached t h);
    posted = λ t k h. absurd (nobody t (rw h refl));
    counted = len-empty nat_cmp Post ∙ sym (none_taken indices);
    places = λ k h. rw (idle_at indices k) tt;
  } where
    size : length world.berths ≡ indices
    size = length-replicate indices None

  pub opened_shows : shown world ≡ opening (length lows)
  opened_shows =
      let threads : (shown world).thread ≡ (opening (length lows)).thread = fun_ext (λ t. rw (berth_of-replicate indices t) refl) in
      let monitors_free : (shown world).monitor ≡ (opening (length lows)).monitor = fun_ext (λ o. rw (lock_free o.0) refl) in
      let size : length (map low_word lows) ≡ length lows = length-map lows low_word in
      λ i. record { thread = threads i; objects = size i; monitor = monitors_free i; moment = 0 }
