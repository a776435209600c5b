-- What a relayout leaves, made or refused; and what a step or a relayout leaves.
use Rattle.std.specs.Prelude.{◌≡◌, ℕ, zero, suc, ◌+◌, ◌<◌, ◌≤◌, Bool, true, false, if◌then◌else◌, not, nat_lt, ◌||◌, max, length, Ok}
use Rattle.std.proofs.Common.{arith, refl, sym, ◌∙◌, subst}
use Rattle.std.proofs.lemmas.Bool.{ltb-false}
use Rattle.lock_word.specs.declared.ThreadId.{ThreadId}
use Rattle.lock_word.specs.declared.Split.{Split}
use Rattle.lock_word.specs.Layout.{greatest_index}
use Rattle.fat_monitor.proofs.SoundSteps.{IsSound-spare}
use Rattle.step_core.specs.declared.worlds.relayout.RelayoutFault.TheVariants as fault
use Rattle.step_core.specs.declared.steps.Request.{Request}
use Rattle.step_core.specs.declared.steps.Request.TheVariants as request
use Rattle.step_core.specs.Machine.{Run}
use Rattle.step_core.specs.World.{WorldState, lock_at}
use Rattle.step_core.specs.Shown.{shown}
use Rattle.step_core.specs.Sound.{IsSound}
use Rattle.step_core.specs.Kept.{Keeps}
use Rattle.step_core.specs.Patient.{left_of}
use Rattle.step_core.specs.Requests.{world_then, moves_then}
use Rattle.step_core.specs.Relayout.{IsAtRest, is_at_rest, is_too_deep, deep_in, inflated_at, inflated_below, is_same_split, respelled, roomy, relaid, relayout_refused, after_relayout}
use Rattle.step_core.proofs.Sound.AllSteps.{step_right}
use Rattle.step_core.proofs.Relaying.Inflating.{at_sound, at_fits, at_shows}
use Rattle.step_core.proofs.Relaying.Respelling.{respelled_sound, respelled_shows}
use Rattle.step_core.proofs.Relaying.Whole.{spare_sound, spare_shows, follows, room_now, fit_more, at_rest, relaid_keeps, relaid_left}

module _ (s : Split) (w : WorldState) (sound : IsSound w) (rest : IsAtRest (shown w))
    (room : length w.fats.monitors + deep_in s w ≤ w.fats.limit) (spare : deep_in s w ≤ w.fats.spare) where
  -- what holds when the first p objects are inflated
  record Inflated (p : ℕ) (v : WorldState) : Type 0 where
    kept : IsSound v
    shows : shown v ≡ shown w
    fit : (q : ℕ) → q < p → is_too_deep s (lock_at v q) ≡ false

  inflated_so : (p : ℕ) → p ≤ length w.words → Inflated p (inflated_below s w p)
  inflated_so zero h = record { kept = sound; shows = refl; fit = λ q l. absurd (omega arith) }
  inflated_so (suc p) h =
      let before = inflated_so p (omega arith) in
      let here : p < length w.words = omega arith in
      let size : length (inflated_below s w p).words ≡ length w.words = (follows s w p (omega arith)).size in
      let inside : p < length (inflated_below s w p).words = omega arith in
      let free : is_too_deep s (lock_at (inflated_below s w p) p) ≡ true → length (inflated_below s w p).fats.monitors < (inflated_below s w p).fats.limit =
      λ e. (room_now s w p here (inflated_below s w p) refl room spare e).0 in
      let calm : IsAtRest (shown (inflated_below s w p)) = subst IsAtRest (sym before.shows) rest in
      let more : p + 1 ≡ suc p = omega arith in
      record {
        kept = at_sound (inflated_below s w p) before.kept p inside s free calm;
        shows = at_shows (inflated_below s w p) before.kept p inside s free ∙ before.shows;
        fit = rw more at (fit_more s w p here (inflated_below s w p) refl (inflated_at s (inflated_below s w p) p) refl
            (at_fits (inflated_below s w p) before.kept p inside s free) before.fit);
      }

  pub respelled_right : length w.berths ≤ greatest_index s → IsSound (respelled s (inflated_below s w (length w.words))) × (shown (respelled s (inflated_below s w (length w.words))) ≡ shown w)
  respelled_right few =
      let all = inflated_so (length w.words) (omega arith) in
      let f = follows s w (length w.words) (omega arith) in
      let calm : IsAtRest (shown (inflated_below s w (length w.words))) = subst IsAtRest (sym all.shows) rest in
      let small : length (inflated_below s w (length w.words)).berths ≤ greatest_index s = rw f.berths few in
      let fit : (p : ℕ) → p < length (inflated_below s w (length w.words)).words → is_too_deep s (lock_at (inflated_below s w (length w.words)) p) ≡ false =
      λ p h. all.fit p (rw f.size at h) in (
        respelled_sound (inflated_below s w (length w.words)) all.kept s small fit calm,
        respelled_shows (inflated_below s w (length w.words)) all.kept s small fit ∙ all.shows,
      )

-- so a world at rest that has the monitors stays sound, and shows what it showed
relaid_right : (s : Split) (w : WorldState) → IsSound w → IsAtRest (shown w) → length w.berths ≤ greatest_index s → length w.fats.monitors + deep_in s w ≤ w.fats.limit
    → IsSound (relaid s w) × (shown (relaid s w) ≡ shown w)
relaid_right s w sound rest few room =
    let v : WorldState = roomy s w in
    let same : shown (roomy s w) ≡ shown w = spare_shows w (deep_in s w) in
    let kept : IsSound (roomy s w) = spare_sound w sound (deep_in s w) (IsSound-spare w.fats (max w.fats.spare (deep_in s w)) sound.fats) in
    let right = respelled_right s (roomy s w) kept (subst IsAtRest (sym same) rest) room (omega arith) few in
    (right.0, right.1 ∙ same)

-- a relayout is made, or leaves the world as it is
relayout_cases : (w : WorldState) (room : Bool) (s : Split) (P : WorldState → Type 0) → P w
    → (IsAtRest (shown w) → length w.berths ≤ greatest_index s → length w.fats.monitors + deep_in s w ≤ w.fats.limit → P (relaid s w))
    → P (after_relayout room w s).after
relayout_cases w room s P stays goes = by_rest (is_at_rest w) refl
  where
    by_room : (b : Bool) → IsAtRest (shown w) → length w.berths ≤ greatest_index s → length w.fats.monitors + deep_in s w ≤ w.fats.limit
        → P (if b then record { answer = Ok (deep_in s w); after = relaid s w } else relayout_refused w fault.Memory).after
    by_room true rest few left = goes rest few left
    by_room false rest few left = stays

    by_left : (b : Bool) → nat_lt w.fats.limit (length w.fats.monitors + deep_in s w) ≡ b → IsAtRest (shown w) → length w.berths ≤ greatest_index s
        → P (if b then relayout_refused w fault.NoMonitor
        else (if room || not (nat_lt w.fats.spare (deep_in s w)) then record { answer = Ok (deep_in s w); after = relaid s w } else relayout_refused w fault.Memory)).after
    by_left true e rest few = stays
    by_left false e rest few = by_room (room || not (nat_lt w.fats.spare (deep_in s w))) rest few (ltb-false w.fats.limit (length w.fats.monitors + deep_in s w) e)

    by_few : (b : Bool) → nat_lt (greatest_index s) (length w.berths) ≡ b → IsAtRest (shown w)
        → P (if b then relayout_refused w fault.IndexTooWide
        else (if nat_lt w.fats.limit (length w.fats.monitors + deep_in s w) then relayout_refused w fault.NoMonitor
        else (if room || not (nat_lt w.fats.spare (deep_in s w)) then record { answer = Ok (deep_in s w); after = relaid s w } else relayout_refused w fault.Memory))).after
    by_few true e rest = stays
    by_few false e rest = by_left (nat_lt w.fats.limit (length w.fats.monitors + deep_in s w)) refl rest (ltb-false (greatest_index s) (length w.berths) e)

    by_split : (b : Bool) → IsAtRest (shown w)
        → P (if b then record { answer = Ok 0; after = w }
        else (if nat_lt (greatest_index s) (length w.berths) then relayout_refused w fault.IndexTooWide
        else (if nat_lt w.fats.limit (length w.fats.monitors + deep_in s w) then relayout_refused w fault.NoMonitor
        else (if room || not (nat_lt w.fats.spare (deep_in s w)) then record { answer = Ok (deep_in s w); after = relaid s w } else relayout_refused w fault.Memory)))).after
    by_split true rest = stays
    by_split false rest = by_few (nat_lt (greatest_index s) (length w.berths)) refl rest

    by_rest : (b : Bool) → is_at_rest w ≡ b → P (after_relayout room w s).after
    by_rest true e = rw e (by_split (is_same_split s w.split) (at_rest w e))
    by_rest false e = rw e stays

module _ (w : WorldState) (sound : IsSound w) (room : Bool) (s : Split) where
  pub relayout_sound : IsSound (after_relayout room w s).after
  relayout_sound = relayout_cases w room s IsSound sound (λ rest few left. (relaid_right s w sound rest few left).0)

  pub relayout_shows : shown (after_relayout room w s).after ≡ shown w
  relayout_shows = relayout_cases w room s (λ v. shown v ≡ shown w) refl (λ rest few left. (relaid_right s w sound rest few left).1)

  pub relayout_keeps : Keeps w (after_relayout room w s).after
  relayout_keeps = relayout_cases w room s (λ v. Keeps w v) (record { objects = refl; low_bytes = λ p. refl }) (λ rest few left. relaid_keeps s w)

  -- the calls have as many steps left
  pub relayout_left : (t : ThreadId) → left_of (after_relayout room w s).after t ≡ left_of w t
  relayout_left t = relayout_cases w room s (λ v. left_of v t ≡ left_of w t) refl (λ rest few left. relaid_left s w t)

-- A step or a relayout keeps the world sound, and its moves are a run.
pub then_right : (w : WorldState) → IsSound w → (r : Request × Bool) → IsSound (world_then w r) × Run (shown w) (moves_then w r) (shown (world_then w r))
then_right w sound (request.Step s, room) = step_right w sound room s
then_right w sound (request.Relayout split, room) = (relayout_sound w sound room split, relayout_shows w sound room split)
