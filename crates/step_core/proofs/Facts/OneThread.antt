-- What stays where a Go of one thread changes the world: shared facts about the thread at one berth.
use Rattle.std.specs.Prelude.{◌≡◌, ◌⊎◌, ℕ, ◌+◌, ◌-◌, ◌<◌, ◌≤◌, Bool, if◌then◌else◌, ◌==◌, length, Option, Some}
use Rattle.std.proofs.Common.{arith, refl, ap, sym, ◌∙◌, inl, inr, get_or-set_same, get_or-set_other, length-set}
use Rattle.std.proofs.Math.Path.{fun_ext}
use Rattle.std.proofs.lemmas.Bool.{cases_eq, cases_lt, eq-eqb, ne_eqb}
use Rattle.std.proofs.lemmas.Option.{same_Some}
use Rattle.std.proofs.lemmas.List.{get_or_past}
use Rattle.lock_word.specs.declared.ThreadId.{ThreadId}
use Rattle.lock_word.specs.declared.ObjectId.{ObjectId}
use Rattle.lock_word.specs.declared.Word.{Word}
use Rattle.lock_word.specs.declared.Lock.{Lock}
use Rattle.lock_word.specs.declared.Lock.TheVariants.{Free, Thin}
use Rattle.lock_word.specs.Layout.{lock_of, low_of, Fits, greatest_count, greatest_index}
use Rattle.lock_word.proofs.Words.{free, lock_of-word_of}
use Rattle.thread_index.specs.Indices.{berth_of}
use Rattle.thread_index.proofs.Berths.{berth_found}
use Rattle.step_core.specs.declared.machine.Doing.{Doing}
use Rattle.fat_monitor.specs.declared.actions.Post.TheVariants.{Out}
use Rattle.fat_monitor.specs.FatState.{FatState, post_of, post_at, flag_at}
use Rattle.step_core.specs.declared.places.Place.{Place}
use Rattle.step_core.specs.declared.places.Place.TheVariants.{AtPost}
use Rattle.step_core.specs.declared.steps.Did.{Did}
use Rattle.step_core.specs.Machine.{State, Thread, Monitor, held, with_monitor, Is, now_is, OwnedBy}
use Rattle.step_core.specs.World.{WorldState, place_at, word_at, lock_at, low_word}
use Rattle.step_core.specs.Shown.{shown, monitor_of, doing_of, act_of}
use Rattle.step_core.specs.Sound.{IsSound, MayShow}
use Rattle.step_core.specs.Go.{with_go, place_only, word_written, new_word}
use Rattle.step_core.proofs.Facts.PlaceFacts.{agrees_out}
use Rattle.step_core.proofs.Facts.ShownStates.{does, shown_changed, shown_kept}

-- the state is as it was where a thread is written as it is
pub now_is_same : (s : State) (t : ThreadId) (flag : Bool) (d : Doing) → Is s t flag d → now_is s t flag d ≡ s
now_is_same s t flag d h =
    ap (λ (f : ThreadId → Option Thread). record s { thread = f }) (fun_ext (λ u. at_one u (cases_eq u.0 t.0)))
  where
    at_one : (u : ThreadId) → (u.0 ≡ t.0) ⊎ (u.0 ≡ t.0 → ⊥) → (if u.0 == t.0 then Some (record { flag = flag; act = d }) else s.thread u) ≡ s.thread u
    at_one u (inl e) = rw (eq-eqb u.0 t.0 e) (sym (ap (λ (n : ℕ). s.thread (record { 0 = n })) e ∙ h))
    at_one u (inr ne) = rw (ne_eqb u.0 t.0 ne) refl

-- the lock that is written is the lock that is shown
pub lock_of-new_word : (w : WorldState) (o : ObjectId) (l : Lock) → Fits w.split l → lock_of w.split (new_word w o l).0 ≡ l
lock_of-new_word w o l fits = lock_of-word_of w.split l (low_of (word_at w o.0).0) fits (omega arith)

-- past the last object stands the free word
pub lock_past : (w : WorldState) (p : ℕ) → length w.words ≤ p → lock_at w p ≡ Free
lock_past w p h = ap (λ (x : Word). lock_of w.split x.0) (get_or_past w.words p (low_word 0) h) ∙ free w.split 0 (omega arith)

-- each object shows a lock of this world, and so does the free word past the end
pub stands_at : (w : WorldState) → IsSound w → (p : ℕ) → MayShow w p (lock_at w p)
stands_at w sound p = by_place (cases_lt p (length w.words))
  where
    by_place : (p < length w.words) ⊎ (length w.words ≤ p) → MayShow w p (lock_at w p)
    by_place (inl h) = sound.words p h
    by_place (inr h) = rw (lock_past w p h) tt

-- what a thread shows that is out of every fat action
pub act_out : (f : FatState) (t : ThreadId) (p : Place) → post_of f t ≡ Some Out → act_of f (post_at f t) p ≡ doing_of p
act_out f t p out = rw out refl

module _ (w : WorldState) (sound : IsSound w) (k : ℕ) (t : ThreadId) (berth : berth_of w.berths t ≡ Some k) where
  -- the thread has a place, and its index fits a word
  pub within : k < length w.places
  within = rw sound.berthed ((berth_found w.berths t k berth).0)

  pub index_fits : k + 1 ≤ greatest_index w.split
  index_fits = let l : k < length w.berths = (berth_found w.berths t k berth).0 in let b : length w.berths ≤ greatest_index w.split = sound.few in omega arith

  pub thin_fits : (c : ℕ) → c ≤ greatest_count w.split → Fits w.split (Thin (k + 1) c)
  thin_fits c h = (omega arith, index_fits, h)

  pub thin_stands : (q c : ℕ) → c ≤ greatest_count w.split → MayShow w q (Thin (k + 1) c)
  thin_stands q c h = let n : k + 1 - 1 ≡ k = omega arith in (omega arith, index_fits, h, rw (n, (berth_found w.berths t k berth).1) refl)

  -- a thread that is not at its post is out of every fat action
  pub out_at : (p : Place) → place_at w k ≡ p → (p ≡ AtPost → ⊥) → post_of w.fats t ≡ Some Out
  out_at p e free = agrees_out p (post_of w.fats t) free (rw e at (sound.posted t k berth))

  pub is_at : (p : Place) → place_at w k ≡ p → post_of w.fats t ≡ Some Out → Is (shown w) t (flag_at w.fats t) (doing_of p)
  is_at p e out = rw (berth, e) (ap (λ (x : Doing). Some (does (flag_at w.fats t) x)) (act_out w.fats t p out))

  -- the owner that a thin word of one's own shows
  pub mine : (c : ℕ) → monitor_of w (Thin (k + 1) c) ≡ held t (c + 1)
  mine c = let n : k + 1 - 1 ≡ k = omega arith in rw (n, (berth_found w.berths t k berth).1) refl

  -- another index is another owner
  pub other : (i c : ℕ) → (i ≡ k + 1 → ⊥) → 1 ≤ i → (monitor_of w (Thin i c)).owner ≡ Some t → ⊥
  other i c ne low e = let j : i - 1 ≡ k = same_Some (i - 1) k (sym (sound.one_to_one (i - 1) t e) ∙ berth) in ne (omega arith)

  pub owned : (o : ObjectId) (l : Lock) → lock_at w o.0 ≡ l → (monitor_of w l).owner ≡ Some t → OwnedBy (shown w) o t
  owned o l e h = rw e h

  pub not_owned : (o : ObjectId) (l : Lock) → lock_at w o.0 ≡ l → ((monitor_of w l).owner ≡ Some t → ⊥) → OwnedBy (shown w) o t → ⊥
  not_owned o l e h own = h (rw e at own)

  -- the monitors that are shown after a write of a word
  pub written : (o : ObjectId) (x : Word) (p : Place) (d : Did) (l : Lock) → o.0 < length w.words → lock_of w.split x.0 ≡ l → (q : ObjectId)
      → monitor_of (with_go w k (word_written w o x p d)) (lock_at (with_go w k (word_written w o x p d)) q.0) ≡ (if q.0 == o.0 then monitor_of w l else monitor_of w (lock_at w q.0))
  written o x p d l h e q = at_object (cases_eq q.0 o.0)
    where
      at_object : (q.0 ≡ o.0) ⊎ (q.0 ≡ o.0 → ⊥)
          → monitor_of (with_go w k (word_written w o x p d)) (lock_at (with_go w k (word_written w o x p d)) q.0) ≡ (if q.0 == o.0 then monitor_of w l else monitor_of w (lock_at w q.0))
      at_object (inl same) = rw (eq-eqb q.0 o.0 same, same, get_or-set_same w.words o.0 x (low_word 0) h, e) refl
      at_object (inr ne) = rw (ne_eqb q.0 o.0 ne, get_or-set_other w.words o.0 q.0 x (low_word 0) ne) refl

  -- the state after a write of a lock that shows this monitor
  pub shown_written : (o : ObjectId) (l : Lock) (m : Monitor) (p : Place) (d : Did) → post_of w.fats t ≡ Some Out → o.0 < length w.words → Fits w.split l → monitor_of w l ≡ m
      → shown (with_go w k (word_written w o (new_word w o l) p d)) ≡ with_monitor (now_is (shown w) t (flag_at w.fats t) (doing_of p)) o m
  shown_written o l m p d out h f e =
      rw (← e) (shown_changed w k t (word_written w o (new_word w o l) p d) (flag_at w.fats t) (doing_of p) berth within (length-set w.words o.0 (new_word w o l)) refl
      (ap (does (flag_at w.fats t)) (act_out w.fats t p out)) (λ u ne q. refl) o (monitor_of w l) (written o (new_word w o l) p d l h (lock_of-new_word w o l f)))

  -- the state after a Go that changes its place alone
  pub shown_stays : (p : Place) (d : Did) → post_of w.fats t ≡ Some Out → shown (with_go w k (place_only w p d)) ≡ now_is (shown w) t (flag_at w.fats t) (doing_of p)
  shown_stays p d out = shown_kept w k t (place_only w p d) (flag_at w.fats t) (doing_of p) berth within refl refl (ap (does (flag_at w.fats t)) (act_out w.fats t p out)) (λ u ne q. refl) (λ q. refl)

  -- a monitor that is written as it was
  pub as_it_was : (o : ObjectId) (x : Monitor) → x ≡ monitor_of w (lock_at w o.0) → (q : ObjectId)
      → (if q.0 == o.0 then x else monitor_of w (lock_at w q.0)) ≡ monitor_of w (lock_at w q.0)
  as_it_was o x e q = at_object (cases_eq q.0 o.0)
    where
      at_object : (q.0 ≡ o.0) ⊎ (q.0 ≡ o.0 → ⊥) → (if q.0 == o.0 then x else monitor_of w (lock_at w q.0)) ≡ monitor_of w (lock_at w q.0)
      at_object (inl same) = rw (eq-eqb q.0 o.0 same, same) e
      at_object (inr ne) = rw (ne_eqb q.0 o.0 ne) refl
