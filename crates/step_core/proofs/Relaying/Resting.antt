-- A world at rest: no thread is amid a call, so that every bound monitor is shown by its object, and a write of words
-- keeps the world sound where each word may stand.
use Rattle.std.specs.Prelude.{◌≡◌, ◌⊎◌, ℕ, ◌+◌, ◌<◌, ◌≤◌, Bool, true, false, List, length, Option, Some, None}
use Rattle.std.proofs.Common.{refl, ap, sym, ◌∙◌, inl, inr, subst}
use Rattle.lock_word.specs.declared.ThreadId.{ThreadId}
use Rattle.lock_word.specs.declared.Word.{Word}
use Rattle.lock_word.specs.declared.Lock.TheVariants.{Thin, Fat}
use Rattle.lock_word.specs.declared.Split.{Split}
use Rattle.lock_word.specs.Layout.{IsMalformed, greatest_index}
use Rattle.thread_index.specs.Indices.{berth_of, holder_at}
use Rattle.fat_monitor.specs.FatState.{FatState, monitor_at, post_of}
use Rattle.fat_monitor.specs.FatState as book
use Rattle.fast_path.specs.declared.calls.MonitorCall.{MonitorCall}
use Rattle.step_core.specs.declared.places.Place.{Place}
use Rattle.step_core.specs.declared.places.Place.TheVariants.{Idle, InCall, Ending, AtPost}
use Rattle.step_core.specs.declared.places.Stage.{Stage}
use Rattle.step_core.specs.declared.places.Stage.TheVariants.{Begun, Taking, Storing, Binding, Acting, Won, Bound, Inflated, Direct}
use Rattle.step_core.specs.World.{WorldState, place_at, word_at, lock_at, is_own}
use Rattle.step_core.specs.Shown.{shown, doing_of, doing_in}
use Rattle.step_core.specs.Sound.{IsSound, MayShow, Fitting, FittingStage, IsPublished, bound_by}
use Rattle.step_core.specs.Relayout.{is_resting, IsAtRest}
use Rattle.step_core.proofs.Facts.PlaceFacts.{stage_does, who_bound}
use Rattle.step_core.proofs.Facts.OneThread.{out_at, is_at}
use Rattle.step_core.proofs.Sound.Parts.{thin_owner}
use Rattle.step_core.proofs.Sound.Posts.{KeepsPosts, posts_same}

-- a thread at a stage of a call is not at rest
stage_busy : (s : Stage) → is_resting (doing_in s) ≡ true → ⊥
stage_busy = stage_does (λ d. is_resting d ≡ true → ⊥) (λ c e. cc) (λ e. cc)

module _ (w : WorldState) (sound : IsSound w) (rest : IsAtRest (shown w)) where
  -- a live thread is in no call, or at its post
  pub resting_place : (k : ℕ) (t : ThreadId) → holder_at w.berths k ≡ Some t → (p : Place) → place_at w k ≡ p → (p ≡ Idle) ⊎ (p ≡ AtPost)
  resting_place k t held p at = by_place p at
    where
      berth : berth_of w.berths t ≡ Some k
      berth = sound.one_to_one k t held

      busy : (q : Place) → place_at w k ≡ q → (q ≡ AtPost → ⊥) → (is_resting (doing_of q) ≡ true → ⊥) → ⊥
      busy q e free moving = moving (rest t (book.flag_at w.fats t) (doing_of q) (is_at w sound k t berth q e (out_at w sound k t berth q e free)))

      by_place : (q : Place) → place_at w k ≡ q → (q ≡ Idle) ⊎ (q ≡ AtPost)
      by_place Idle e = inl refl
      by_place (InCall s) e = absurd (busy (InCall s) e (λ x. cc) (stage_busy s))
      by_place (Ending n) e = absurd (busy (Ending n) e (λ x. cc) (λ x. cc))
      by_place AtPost e = inr refl

  -- nobody's index is in no thin word
  unowned : (k q n : ℕ) → holder_at w.berths k ≡ None → lock_at w q ≡ Thin (k + 1) n → ⊥
  unowned k q n none e = let some = thin_owner w sound q k n e in let never = rw none at some in cc

  -- no thread is to store a monitor that it has bound
  none_bound : (k m : ℕ) → k < length w.places → bound_by (place_at w k) ≡ Some m → ⊥
  none_bound k m there bound = by_holder (holder_at w.berths k) refl
    where
      at : (c : MonitorCall) × (won : Bool) × (place_at w k ≡ InCall (Bound c won m))
      at = who_bound (place_at w k) m bound

      by_rest : (place_at w k ≡ Idle) ⊎ (place_at w k ≡ AtPost) → ⊥
      by_rest (inl e) = let never : InCall (Bound at.0 at.1 m) ≡ Idle = sym at.2 ∙ e in cc
      by_rest (inr e) = let never : InCall (Bound at.0 at.1 m) ≡ AtPost = sym at.2 ∙ e in cc

      by_holder : (o : Option ThreadId) → holder_at w.berths k ≡ o → ⊥
      by_holder None none =
          let fit : Fitting w k (InCall (Bound at.0 at.1 m)) = subst (λ (x : Place). Fitting w k x) at.2 (sound.places k there) in
          unowned k at.0.object.0 fit.2.0 none fit.2.1
      by_holder (Some t) held = by_rest (resting_place k t held (place_at w k) refl)

  -- so each bound monitor is shown by its object
  pub shown_by : (m : ℕ) → m < length w.fats.monitors → lock_at w (monitor_at w.fats m).object.0 ≡ Fat m
  shown_by m h = by_published (sound.published m h)
    where
      by_published : IsPublished w m → lock_at w (monitor_at w.fats m).object.0 ≡ Fat m
      by_published (inl shows) = shows
      by_published (inr (j, there, bound)) = absurd (none_bound j m there bound)

  -- The words, the split and the fat state change: each fat word stays, and no word becomes a thin one of another index.
  module _ (s : Split) (xs : List Word) (g : FatState) (size : length xs ≡ length w.words) (few : length w.berths ≤ greatest_index s)
      (posts : g.threads ≡ w.fats.threads) (fats : book.IsSound g) where
    abbrev changed : WorldState
    changed = record w { split = s; words = xs; fats = g }

    module _ (fat : (q m : ℕ) → lock_at w q ≡ Fat m → lock_at changed q ≡ Fat m)
        (other : (q k : ℕ) → is_own (lock_at w q) (k + 1) ≡ false → is_own (lock_at changed q) (k + 1) ≡ false) where
      -- a place that nobody stands at fits still
      stage_fits : (k : ℕ) → holder_at w.berths k ≡ None → (p : Stage) → FittingStage w k p → FittingStage changed k p
      stage_fits k none (Begun c b) fit = rw size fit
      stage_fits k none (Taking o b) fit = rw size fit
      stage_fits k none (Storing c l) fit = absurd (unowned k c.object.0 fit.1.0 none fit.1.1)
      stage_fits k none (Binding c n) fit = absurd (unowned k c.object.0 n none fit.1)
      stage_fits k none (Acting c m) fit = (rw size fit.0, fat c.object.0 m fit.1)
      stage_fits k none (Won o) fit = absurd (unowned k o.0 0 none fit.1)
      stage_fits k none (Bound c won m) fit = absurd (unowned k c.object.0 fit.2.0 none fit.2.1)
      stage_fits k none (Inflated c m) fit = (rw size fit.0, fat c.object.0 m fit.1)
      stage_fits k none (Direct c) fit = fit

      place_fits : (k : ℕ) → holder_at w.berths k ≡ None → (p : Place) → Fitting w k p → Fitting changed k p
      place_fits k none Idle fit = fit
      place_fits k none (InCall p) fit = stage_fits k none p fit
      place_fits k none (Ending n) fit = (rw size fit.0, λ q h. other q k (fit.1 q h))
      place_fits k none AtPost fit = fit

      fits_still : (k : ℕ) → k < length w.places → (o : Option ThreadId) → holder_at w.berths k ≡ o → Fitting changed k (place_at w k)
      fits_still k h None none = place_fits k none (place_at w k) (sound.places k h)
      fits_still k h (Some t) held = by_rest (resting_place k t held (place_at w k) refl)
        where
          by_rest : (place_at w k ≡ Idle) ⊎ (place_at w k ≡ AtPost) → Fitting changed k (place_at w k)
          by_rest (inl e) = rw e tt
          by_rest (inr e) = rw e tt

      pub sound_changed : ((p : ℕ) → IsMalformed s (word_at changed p).0 → ⊥) → ((p : ℕ) → p < length w.words → MayShow changed p (lock_at changed p))
          → ((m : ℕ) → m < length g.monitors → lock_at changed (monitor_at g m).object.0 ≡ Fat m) → IsSound changed
      sound_changed formed words published = record {
        many = rw size sound.many;
        berthed = sound.berthed;
        few = few;
        one_to_one = sound.one_to_one;
        formed = formed;
        words = λ p h. words p (rw (← size) h);
        fats = fats;
        published = λ m h. inl (published m h);
        attached = λ u h. (kept.1 u).1 (sound.attached u h);
        live = λ u h. sound.live u ((kept.1 u).0 h);
        posted = λ u k h. rw (ap (λ threads. book.post_of (record w.fats { threads = threads }) u) posts) (sound.posted u k h);
        counted = kept.0 ∙ sound.counted;
        places = λ k h. fits_still k h (holder_at w.berths k) refl;
      } where
        kept : KeepsPosts w.fats (record { 0 = 0 }) g
        kept = posts_same w.fats (record { 0 = 0 }) g posts
