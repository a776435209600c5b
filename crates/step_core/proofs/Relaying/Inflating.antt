-- An object of a world at rest is inflated: the world stays sound, and shows what it showed.
use Rattle.std.specs.Prelude.{◌≡◌, ◌⊎◌, ℕ, zero, suc, ◌+◌, ◌-◌, ◌<◌, ◌≤◌, Bool, true, false, nat_lt, List, [], ◌∷◌, length, get_or, slice_index_or, slice_set, Option, Some, None, IsSome}
use Rattle.std.proofs.Common.{arith, refl, ap, sym, ◌∙◌, subst, inl, inr, get_or-set_same, get_or-set_other, length-set, length-append}
use Rattle.std.proofs.Math.Path.{fun_ext}
use Rattle.std.proofs.lemmas.Bool.{cases_eq}
use Rattle.std.proofs.lemmas.List.{get_or_append_left, get_or_push, get_or_default}
use Rattle.lock_word.specs.declared.ThreadId.{ThreadId}
use Rattle.lock_word.specs.declared.ObjectId.{ObjectId}
use Rattle.lock_word.specs.declared.Word.{Word}
use Rattle.lock_word.specs.declared.Lock.{Lock}
use Rattle.lock_word.specs.declared.Lock.TheVariants.{Free, Thin, Fat}
use Rattle.lock_word.specs.declared.Split.{Split}
use Rattle.lock_word.specs.Layout.{Fits, IsMalformed, greatest_count, low_of}
use Rattle.lock_word.proofs.Words.{formed-word_of, greatest_count-bound}
use Rattle.thread_index.specs.Indices.{berth_of, holder_at, holder_of}
use Rattle.fat_monitor.specs.declared.monitors.Monitor as fat
use Rattle.fat_monitor.specs.FatState.{FatState, monitor_at, bound_with, unbound}
use Rattle.fat_monitor.proofs.Soundness.{IsSound-bound_with}
use Rattle.step_core.specs.Machine.{Thread}
use Rattle.step_core.specs.World.{WorldState, place_at, word_at, lock_at, low_word, is_own}
use Rattle.step_core.specs.Shown.{shown, monitor_of, thread_of}
use Rattle.step_core.specs.Sound.{IsSound, MayShow}
use Rattle.step_core.specs.Go.{new_word}
use Rattle.step_core.specs.Relayout.{IsAtRest, is_too_deep, inflated_for, inflated_at}
use Rattle.step_core.proofs.Facts.OneThread.{stands_at, lock_of-new_word}
use Rattle.step_core.proofs.Facts.ShownStates.{acts_alike}
use Rattle.step_core.proofs.Relaying.Resting.{sound_changed, shown_by}

module _ (w : WorldState) (sound : IsSound w) (p : ℕ) (here : p < length w.words) where
  -- object p, which thread t holds so often, is inflated
  module _ (i n : ℕ) (t : ThreadId) (thin : lock_at w p ≡ Thin i n) (held : holder_at w.berths (i - 1) ≡ Some t) (room : length w.fats.monitors < w.fats.limit) where
    abbrev o : ObjectId
    o = record { 0 = p }

    abbrev next : ℕ
    next = length w.fats.monitors

    abbrev words : List Word
    words = slice_set w.words p (new_word w o (Fat next))

    abbrev after : WorldState
    after = inflated_for w p (n + 1) (Some t)

    fits : Fits w.split (Fat next)
    fits = let l : w.fats.limit ≤ 8388608 = sound.fats.limit in omega arith

    pub lock_here : lock_at after p ≡ Fat next
    lock_here = rw (get_or-set_same w.words p (new_word w o (Fat next)) (low_word 0) here) (lock_of-new_word w o (Fat next) fits)

    lock_else : (q : ℕ) → (q ≡ p → ⊥) → lock_at after q ≡ lock_at w q
    lock_else q ne = rw (get_or-set_other w.words p q (new_word w o (Fat next)) (low_word 0) ne) refl

    -- the monitors that were bound stay, and the new one is the object's
    monitor_kept : (m : ℕ) → m < next → monitor_at after.fats m ≡ monitor_at w.fats m
    monitor_kept m h = get_or_append_left w.fats.monitors (record { object = o; owner = Some t; holds = n + 1 } ∷ []) unbound m h

    monitor_new : monitor_at after.fats next ≡ record { object = o; owner = Some t; holds = n + 1 }
    monitor_new = get_or_push w.fats.monitors (record { object = o; owner = Some t; holds = n + 1 }) unbound next refl

    one_more : length after.fats.monitors ≡ next + 1
    one_more = length-append w.fats.monitors (record { object = o; owner = Some t; holds = n + 1 } ∷ [])

    not_fat : (q m : ℕ) → lock_at w q ≡ Fat m → q ≡ p → ⊥
    not_fat q m e same = let never : Fat m ≡ Thin i n = sym e ∙ ap (λ (x : ℕ). lock_at w x) same ∙ thin in cc

    fat_kept : (q m : ℕ) → lock_at w q ≡ Fat m → lock_at after q ≡ Fat m
    fat_kept q m e = lock_else q (not_fat q m e) ∙ e

    own_kept : (q k : ℕ) → is_own (lock_at w q) (k + 1) ≡ false → is_own (lock_at after q) (k + 1) ≡ false
    own_kept q k h = by_object (cases_eq q p)
      where
        by_object : (q ≡ p) ⊎ (q ≡ p → ⊥) → is_own (lock_at after q) (k + 1) ≡ false
        by_object (inl e) = subst (λ (x : ℕ). is_own (lock_at after x) (k + 1) ≡ false) (sym e) (rw lock_here refl)
        by_object (inr ne) = rw (lock_else q ne) h

    formed : (q : ℕ) → IsMalformed w.split (word_at after q).0 → ⊥
    formed q = by_object (cases_eq q p)
      where
        by_object : (q ≡ p) ⊎ (q ≡ p → ⊥) → IsMalformed w.split (word_at after q).0 → ⊥
        by_object (inl e) = rw (e, get_or-set_same w.words p (new_word w o (Fat next)) (low_word 0) here) (formed-word_of w.split (Fat next) (low_of (word_at w p).0) fits (omega arith))
        by_object (inr ne) = rw (get_or-set_other w.words p q (new_word w o (Fat next)) (low_word 0) ne) (sound.formed q)

    stands : (q : ℕ) (l : Lock) → MayShow w q l → MayShow after q l
    stands q Free h = h
    stands q (Thin j c) h = h
    stands q (Fat m) h = (let b : m < next = h.0 in omega (arith, one_more), rw (monitor_kept m h.0) h.1)

    may_show : (q : ℕ) → q < length w.words → MayShow after q (lock_at after q)
    may_show q h = by_object (cases_eq q p)
      where
        new : MayShow after p (Fat next)
        new = (omega (arith, one_more), rw monitor_new refl)

        by_object : (q ≡ p) ⊎ (q ≡ p → ⊥) → MayShow after q (lock_at after q)
        by_object (inl e) = subst (λ (x : ℕ). MayShow after x (lock_at after x)) (sym e) (subst (λ (l : Lock). MayShow after p l) (sym lock_here) new)
        by_object (inr ne) = subst (λ (l : Lock). MayShow after q l) (sym (lock_else q ne)) (stands q (lock_at w q) (sound.words q h))

    bounds : (1 ≤ n + 1) × (n + 1 ≤ 65535)
    bounds =
        let may : MayShow w p (Thin i n) = rw thin at (stands_at w sound p) in
        let most : greatest_count w.split ≤ 4095 = greatest_count-bound w.split in
        let count : n ≤ greatest_count w.split = may.2 in (omega arith, omega arith)

    pub inflated_sound : IsAtRest (shown w) → IsSound after
    inflated_sound rest =
        sound_changed w sound rest w.split words after.fats (length-set w.words p (new_word w o (Fat next))) sound.few refl
        (IsSound-bound_with w.fats o t (n + 1) sound.fats room bounds.0 bounds.1) fat_kept own_kept formed may_show published
      where
        published : (m : ℕ) → m < length after.fats.monitors → lock_at after (monitor_at after.fats m).object.0 ≡ Fat m
        published m h = by_number (cases_eq m next)
          where
            by_number : (m ≡ next) ⊎ (m ≡ next → ⊥) → lock_at after (monitor_at after.fats m).object.0 ≡ Fat m
            by_number (inl e) = rw (e, monitor_new) lock_here
            by_number (inr ne) =
                let l : m < next = omega (arith, one_more) in
                rw (monitor_kept m l) (fat_kept (monitor_at w.fats m).object.0 m (shown_by w sound rest m l))

    -- each thread and each monitor is shown as it was
    pub inflated_shows : shown after ≡ shown w
    inflated_shows =
        let threads : (shown after).thread ≡ (shown w).thread = fun_ext (λ u. thread_same u (berth_of w.berths u)) in
        let monitors : (shown after).monitor ≡ (shown w).monitor = fun_ext (λ q. monitor_same q (cases_eq q.0 p)) in
        let size : length after.words ≡ length w.words = length-set w.words p (new_word w o (Fat next)) in
        λ k. record { thread = threads k; objects = size k; monitor = monitors k; moment = w.fats.moment }
      where
        thread_same : (u : ThreadId) (k : Option ℕ) → thread_of after u k ≡ thread_of w u k
        thread_same u None = refl
        thread_same u (Some k) =
            ap (λ (x : Thread). Some x)
            (acts_alike w.fats after.fats u sound.fats refl refl (λ m h. ap (λ (b : fat.Monitor). b.object) (monitor_kept m h)) (place_at w k))

        by_lock : (q : ℕ) (l : Lock) → MayShow w q l → monitor_of after l ≡ monitor_of w l
        by_lock q Free may = refl
        by_lock q (Thin j c) may = refl
        by_lock q (Fat m) may = rw (monitor_kept m may.0) refl

        monitor_same : (q : ObjectId) → (q.0 ≡ p) ⊎ (q.0 ≡ p → ⊥) → monitor_of after (lock_at after q.0) ≡ monitor_of w (lock_at w q.0)
        monitor_same q (inl e) = rw (e, lock_here, thin, monitor_new, held) refl
        monitor_same q (inr ne) = rw (lock_else q.0 ne) (by_lock q.0 (lock_at w q.0) (stands_at w sound q.0))

  -- The same in one: where the lock fits, nothing changes.
  module _ (s : Split) (room : is_too_deep s (lock_at w p) ≡ true → length w.fats.monitors < w.fats.limit) where
    pub inflated_cases : (P : WorldState → Type 0) → (is_too_deep s (lock_at w p) ≡ false → P w)
        → ((i n : ℕ) (t : ThreadId) → lock_at w p ≡ Thin i n → holder_at w.berths (i - 1) ≡ Some t → length w.fats.monitors < w.fats.limit → P (inflated_for w p (n + 1) (Some t)))
        → P (inflated_at s w p)
    inflated_cases P stays goes = by_test (is_too_deep s (lock_at w p)) refl
      where
        by_holder : (i n : ℕ) (h : Option ThreadId) → lock_at w p ≡ Thin i n → holder_at w.berths (i - 1) ≡ h → IsSome h → length w.fats.monitors < w.fats.limit
            → P (inflated_for w p (n + 1) (holder_at w.berths (i - 1)))
        by_holder i n None e held some r = absurd (cc)
        by_holder i n (Some t) e held some r = rw held (goes i n t e held r)

        by_lock : (l : Lock) → lock_at w p ≡ l → is_too_deep s l ≡ true → length w.fats.monitors < w.fats.limit
            → P (inflated_for w p (monitor_of w l).count (monitor_of w l).owner)
        by_lock Free e deep r = absurd (cc)
        by_lock (Thin i n) e deep r =
            let may : MayShow w p (Thin i n) = rw e at (stands_at w sound p) in
            by_holder i n (holder_at w.berths (i - 1)) e refl may.3 r
        by_lock (Fat m) e deep r = absurd (cc)

        by_test : (b : Bool) → is_too_deep s (lock_at w p) ≡ b → P (inflated_at s w p)
        by_test true e = rw e (by_lock (lock_at w p) refl e (room e))
        by_test false e = rw e (stays e)

    pub at_sound : IsAtRest (shown w) → IsSound (inflated_at s w p)
    at_sound rest = inflated_cases IsSound (λ e. sound) (λ i n t e held r. inflated_sound i n t e held r rest)

    pub at_shows : shown (inflated_at s w p) ≡ shown w
    at_shows = inflated_cases (λ v. shown v ≡ shown w) (λ e. refl) (λ i n t e held r. inflated_shows i n t e held r)

    -- the lock fits then
    pub at_fits : is_too_deep s (lock_at (inflated_at s w p) p) ≡ false
    at_fits = inflated_cases (λ v. is_too_deep s (lock_at v p) ≡ false) (λ e. e) (λ i n t e held r. rw (lock_here i n t e held r) refl)

-- an index is its berth plus one
holder_same : (berths : List (Option ThreadId)) (i : ℕ) → 1 ≤ i → holder_of berths i ≡ holder_at berths (i - 1)
holder_same berths zero h = absurd (omega arith)
holder_same berths (suc k) h = let same : k ≡ suc k - 1 = omega arith in ap (λ (n : ℕ). holder_at berths n) same

pub nobody_there : (berths : List (Option ThreadId)) (i : ℕ) → 1 ≤ i → IsSome (holder_at berths (i - 1)) → holder_of berths i ≡ None → ⊥
nobody_there berths i low some none = by_holder (holder_at berths (i - 1)) (sym (holder_same berths i low) ∙ none) some
  where
    by_holder : (o : Option ThreadId) → o ≡ None → IsSome o → ⊥
    by_holder None e some = cc
    by_holder (Some t) e some = cc

-- what the code leaves of a lock that does not fit
pub inflates : (w : WorldState) (s : Split) (p i n : ℕ) (t : ThreadId) (xs : List Word) (g : FatState) → lock_at w p ≡ Thin i n → 1 ≤ i → holder_of w.berths i ≡ Some t
    → nat_lt (greatest_count s) n ≡ true → xs ≡ slice_set w.words p (new_word w (record { 0 = p }) (Fat (length w.fats.monitors)))
    → g ≡ bound_with w.fats (record { 0 = p }) t (n + 1) → record w { words = xs; fats = g } ≡ inflated_at s w p
inflates w s p i n t xs g thin low held deep words fats =
    let holder : holder_at w.berths (i - 1) ≡ Some t = sym (holder_same w.berths i low) ∙ held in
    rw (words, fats, thin, deep, holder) refl

-- what a row of words has at a position that is there
pub found_word : (xs : List Word) (p : ℕ) (x : Word) → p < length xs → x ≡ get_or xs p x → slice_index_or xs p (low_word 0) ≡ x
found_word xs p x h e = get_or_default xs p (low_word 0) x h ∙ sym e
