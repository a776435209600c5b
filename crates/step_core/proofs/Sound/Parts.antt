-- What keeps the world sound: a write of a word, one monitor more, another fat state, and a new place alone.
use Rattle.std.proofs.lemmas.Option.{same_Some}
use Rattle.std.specs.Prelude.{◌≡◌, ◌≢◌, ◌⊎◌, ◌↔◌, ℕ, ◌+◌, ◌-◌, ◌<◌, ◌≤◌, Bool, false, List, [], ◌∷◌, length, set, get_or, slice_set, Some, None, IsSome}
use Rattle.std.proofs.Common.{arith, refl, ap, sym, ◌∙◌, subst, inl, inr, get_or-set_same, get_or-set_other, length-set, length-append}
use Rattle.std.proofs.lemmas.Bool.{cases_eq, ne_eqb}
use Rattle.std.proofs.lemmas.List.{get_or_append_left}
use Rattle.lock_word.specs.declared.ThreadId.{ThreadId}
use Rattle.lock_word.specs.declared.ObjectId.{ObjectId}
use Rattle.lock_word.specs.declared.Lock.{Lock}
use Rattle.lock_word.specs.declared.Lock.TheVariants.{Free, Thin, Fat}
use Rattle.lock_word.specs.Layout.{Fits, IsMalformed, low_of}
use Rattle.lock_word.proofs.Words.{formed-word_of}
use Rattle.thread_index.specs.Indices.{berth_of, holder_at}
use Rattle.thread_index.proofs.Berths.{berth_thread}
use Rattle.wait_lines.proofs.ThreadLemmas.{same_thread}
use Rattle.fat_monitor.specs.declared.monitors.Monitor as fat
use Rattle.fat_monitor.specs.declared.actions.Post.TheVariants.{Out}
use Rattle.fat_monitor.specs.FatState.{FatState, monitor_at, bound_with, unbound, post_of, thread_count, IsAttached}
use Rattle.fat_monitor.specs.FatState as book
use Rattle.fat_monitor.proofs.Soundness.{IsSound-bound_with}
use Rattle.fast_path.specs.declared.calls.MonitorCall.{MonitorCall}
use Rattle.step_core.specs.declared.places.Place.{Place}
use Rattle.step_core.specs.declared.places.Place.TheVariants.{Idle}
use Rattle.step_core.specs.declared.places.Stage.TheVariants.{Bound}
use Rattle.step_core.specs.declared.steps.Did.{Did}
use Rattle.step_core.specs.World.{WorldState, place_at, word_at, lock_at, low_word, is_own}
use Rattle.step_core.specs.Sound.{IsSound, MayShow, Fitting, FittingStage, Agrees, bound_by, IsPublished}
use Rattle.step_core.specs.Go.{AfterGo, with_go, place_only, word_written, fats_changed, new_word}
use Rattle.step_core.proofs.Facts.OneThread.{lock_of-new_word, stands_at, within}
use Rattle.step_core.proofs.Sound.Posts.{KeepsPosts, posts_same}
use Rattle.step_core.proofs.Facts.PlaceFacts.{agrees_kept, fitting_kept, bound_kept}

module _ (w : WorldState) (sound : IsSound w) where
  -- who shows a thin lock is live
  pub thin_owner : (q j n : ℕ) → lock_at w q ≡ Thin (j + 1) n → IsSome (holder_at w.berths j)
  thin_owner q j n e =
      let stands : MayShow w q (Thin (j + 1) n) = rw e at (stands_at w sound q) in
      let here : j + 1 - 1 ≡ j = omega arith in
      rw here at stands.3

  -- Another fat state: each monitor has its object still, and one with an owner whose object shows a thin word is as it was.
  module _ (g : FatState) (size : length g.monitors ≡ length w.fats.monitors) (objects : (m : ℕ) → (monitor_at g m).object ≡ (monitor_at w.fats m).object)
      (thin : (m i n : ℕ) → lock_at w (monitor_at w.fats m).object.0 ≡ Thin i n → IsSome (monitor_at w.fats m).owner → monitor_at g m ≡ monitor_at w.fats m) where
    abbrev with_fats : List Place → WorldState
    with_fats ps = record w { places = ps; fats = g }

    -- each lock stands as it did
    pub stands_changed : (ps : List Place) (q : ℕ) (l : Lock) → MayShow w q l → MayShow (with_fats ps) q l
    stands_changed ps q Free h = h
    stands_changed ps q (Thin i x) h = h
    stands_changed ps q (Fat m) h = (rw size h.0, ap (λ (o : ObjectId). o.0) (objects m) ∙ h.1)

    -- a thread that has bound a monitor and not stored it is its owner
    pub fits_changed : (ps : List Place) (j : ℕ) (p : Place) → Fitting w j p → Fitting (with_fats ps) j p
    fits_changed ps j = fitting_kept w (with_fats ps) j refl refl (λ q n e. e) (λ q m e. e) bound (λ q e. e)
      where
        bound : (c : MonitorCall) (won : Bool) (m : ℕ) → FittingStage w j (Bound c won m)
            → (m < length g.monitors) × (monitor_at g m ≡ record { object = c.object; owner = holder_at w.berths j; holds = (monitor_at w.fats m).holds })
        bound c won m fit =
            let object : (monitor_at w.fats m).object.0 ≡ c.object.0 = ap (λ (x : fat.Monitor). x.object.0) fit.2.2 in
            let owned : IsSome (monitor_at w.fats m).owner = rw fit.2.2 (thin_owner c.object.0 j fit.2.0 fit.2.1) in
            let shows : lock_at w (monitor_at w.fats m).object.0 ≡ Thin (j + 1) fit.2.0 = rw object fit.2.1 in
            let same : monitor_at g m ≡ monitor_at w.fats m = thin m (j + 1) fit.2.0 shows owned in
            let holds : (monitor_at w.fats m).holds ≡ fit.2.0 + 1 = ap (λ (x : fat.Monitor). x.holds) fit.2.2 in
            (rw size fit.1, rw holds (same ∙ fit.2.2))

    -- Where nothing but the fat state changes, and the same threads are attached and out, the world stays sound.
    pub sound_fats : book.IsSound g → thread_count g ≡ thread_count w.fats → ((u : ThreadId) → IsAttached g u ↔ IsAttached w.fats u)
        → ((u : ThreadId) → (post_of g u ≡ Some Out) ↔ (post_of w.fats u ≡ Some Out)) → IsSound (record w { fats = g })
    sound_fats fats count attached out = record {
      many = sound.many;
      berthed = sound.berthed;
      few = sound.few;
      one_to_one = sound.one_to_one;
      formed = sound.formed;
      words = λ p h. stands_changed w.places p (lock_at w p) (sound.words p h);
      fats = fats;
      published = λ m h. still_there m (sound.published m (rw (← size) h));
      attached = λ u h. (attached u).1 (sound.attached u h);
      live = λ u h. sound.live u ((attached u).0 h);
      posted = λ u k h. agrees_kept (place_at w k) (post_of w.fats u) (post_of g u) (out u) (sound.posted u k h);
      counted = count ∙ sound.counted;
      places = λ k h. fits_changed w.places k (place_at w k) (sound.places k h);
    } where
      still_there : (m : ℕ) → IsPublished w m → IsPublished (record w { fats = g }) m
      still_there m (inl shows) = inl (rw (objects m) shows)
      still_there m (inr there) = inr there

module _ (w : WorldState) (sound : IsSound w) (k : ℕ) (t : ThreadId) (berth : berth_of w.berths t ≡ Some k) where
  -- a Go keeps the world sound where it keeps its words, its fat state, its own place and the others'
  sound_gone : (a : AfterGo) → length a.words ≡ length w.words
      → ((p : ℕ) → IsMalformed w.split (word_at (with_go w k a) p).0 → ⊥)
      → ((p : ℕ) → MayShow (with_go w k a) p (lock_at (with_go w k a) p))
      → book.IsSound a.fats → KeepsPosts w.fats t a.fats → Agrees a.place (post_of a.fats t)
      → Fitting (with_go w k a) k a.place
      → ((j : ℕ) → (j ≡ k → ⊥) → Fitting w j (place_at w j) → Fitting (with_go w k a) j (place_at w j))
      → ((m : ℕ) → m < length a.fats.monitors → IsPublished (with_go w k a) m)
      → IsSound (with_go w k a)
  sound_gone a size formed words fats posts agrees own others published = record {
    many = rw size sound.many;
    berthed = length-set w.places k a.place ∙ sound.berthed;
    few = sound.few;
    one_to_one = sound.one_to_one;
    formed = formed;
    words = λ p h. words p;
    fats = fats;
    published = published;
    attached = λ u h. (posts.1 u).1 (sound.attached u h);
    live = λ u h. sound.live u ((posts.1 u).0 h);
    posted = λ u j h. at_post u j h (cases_eq j k);
    counted = posts.0 ∙ sound.counted;
    places = λ j h. at_berth j h (cases_eq j k);
  } where
    at_post : (u : ThreadId) (j : ℕ) → berth_of w.berths u ≡ Some j → (j ≡ k) ⊎ (j ≡ k → ⊥) → Agrees (get_or (set w.places k a.place) j Idle) (post_of a.fats u)
    at_post u j h (inl e) =
        let same : u ≡ t = same_thread t u (berth_thread w.berths t u k berth (rw e at h)) in
        rw (e, get_or-set_same w.places k a.place Idle (within w sound k t berth), same) agrees
    at_post u j h (inr ne) =
        let other : u ≢ t = λ same. ne (same_Some j k (sym h ∙ ap (λ (x : ThreadId). berth_of w.berths x) same ∙ berth)) in
        rw (get_or-set_other w.places k j a.place Idle ne)
        (agrees_kept (place_at w j) (post_of w.fats u) (post_of a.fats u) (posts.2 u other) (sound.posted u j h))

    at_berth : (j : ℕ) → j < length (set w.places k a.place) → (j ≡ k) ⊎ (j ≡ k → ⊥) → Fitting (with_go w k a) j (get_or (set w.places k a.place) j Idle)
    at_berth j h (inl e) =
        let l : k < length w.places = omega (arith, length-set w.places k a.place) in
        rw (e, get_or-set_same w.places k a.place Idle l) own
    at_berth j h (inr ne) =
        let l : j < length w.places = omega (arith, length-set w.places k a.place) in
        rw (get_or-set_other w.places k j a.place Idle ne) (others j ne (sound.places j l))

  -- a bound monitor stays published where fat words stay, its object stays, and its own thread stores it
  still_published : (a : AfterGo) (m : ℕ) → IsPublished w m
      → ((q : ℕ) → lock_at w q ≡ Fat m → lock_at (with_go w k a) q ≡ Fat m)
      → (monitor_at a.fats m).object.0 ≡ (monitor_at w.fats m).object.0
      → (bound_by (place_at w k) ≡ Some m → IsPublished (with_go w k a) m)
      → IsPublished (with_go w k a) m
  still_published a m (inl shows) fat object own = inl (rw object (fat (monitor_at w.fats m).object.0 shows))
  still_published a m (inr (j, there, bound)) fat object own = by_berth (cases_eq j k)
    where
      by_berth : (j ≡ k) ⊎ (j ≡ k → ⊥) → IsPublished (with_go w k a) m
      by_berth (inl e) = own (rw e at bound)
      by_berth (inr ne) = inr (j, rw (length-set w.places k a.place) there, rw (get_or-set_other w.places k j a.place Idle ne) bound)

  -- a thread that has bound nothing leaves nothing unpublished
  no_own : (a : AfterGo) (m : ℕ) → bound_by (place_at w k) ≡ None → bound_by (place_at w k) ≡ Some m → IsPublished (with_go w k a) m
  no_own a m none some = let never : None ≡ Some m = sym none ∙ some in absurd (cc)

  -- where only the place changes
  pub sound_stays : (p : Place) (d : Did) → bound_by (place_at w k) ≡ None → Agrees p (post_of w.fats t) → Fitting w k p → IsSound (with_go w k (place_only w p d))
  sound_stays p d none agrees fit =
      sound_gone (place_only w p d) refl sound.formed (stands_at w sound) sound.fats (posts_same w.fats t w.fats refl) agrees fit (λ j ne h. h)
      (λ m h. still_published (place_only w p d) m (sound.published m h) (λ q e. e) refl (no_own (place_only w p d) m none))

  -- a lock that this thread may overwrite
  abbrev pub Mine : Lock → Type 0
  Mine Free = Unit {0}
  Mine (Thin i n) = i ≡ k + 1
  Mine (Fat m) = ⊥

  -- no lock of another thread's
  abbrev pub NotAnothers : Lock → Type 0
  NotAnothers Free = Unit {0}
  NotAnothers (Thin i n) = i ≡ k + 1
  NotAnothers (Fat m) = Unit {0}

  not_own : (l : Lock) → NotAnothers l → (j : ℕ) → (j ≡ k → ⊥) → is_own l (j + 1) ≡ false
  not_own Free h j ne = refl
  not_own (Thin i n) h j ne = ne_eqb i (j + 1) (λ e. ne (omega arith))
  not_own (Fat m) h j ne = refl

  -- a write of a word that was free or one's own
  module _ (o : ObjectId) (l : Lock) (inside : o.0 < length w.words) (fits : Fits w.split l) (old : Mine (lock_at w o.0)) (new : NotAnothers l) where
    abbrev after : Place → Did → AfterGo
    after p d = word_written w o (new_word w o l) p d

    pub lock_there : (p : Place) (d : Did) → lock_at (with_go w k (after p d)) o.0 ≡ l
    lock_there p d = rw (get_or-set_same w.words o.0 (new_word w o l) (low_word 0) inside) (lock_of-new_word w o l fits)

    lock_elsewhere : (p : Place) (d : Did) (q : ℕ) → (q ≡ o.0 → ⊥) → lock_at (with_go w k (after p d)) q ≡ lock_at w q
    lock_elsewhere p d q ne = rw (get_or-set_other w.words o.0 q (new_word w o l) (low_word 0) ne) refl

    lock_kept : (p : Place) (d : Did) (q : ℕ) → (Mine (lock_at w q) → ⊥) → lock_at (with_go w k (after p d)) q ≡ lock_at w q
    lock_kept p d q h = lock_elsewhere p d q (λ e. h (rw e old))

    -- another thread's thin word stays
    thin_kept : (p : Place) (d : Did) (j : ℕ) → (j ≡ k → ⊥) → (q n : ℕ) → lock_at w q ≡ Thin (j + 1) n → lock_at (with_go w k (after p d)) q ≡ Thin (j + 1) n
    thin_kept p d j ne q n e = lock_kept p d q (λ h. ne (let same : j + 1 ≡ k + 1 = rw e at h in omega arith)) ∙ e

    -- and so does a fat word
    fat_kept : (p : Place) (d : Did) (q m : ℕ) → lock_at w q ≡ Fat m → lock_at (with_go w k (after p d)) q ≡ Fat m
    fat_kept p d q m e = lock_kept p d q (λ h. let never : ⊥ = rw e at h in never) ∙ e

    -- a word that another thread may end beside stays so
    ending_kept : (p : Place) (d : Did) (j : ℕ) → (j ≡ k → ⊥) → (q : ℕ) → is_own (lock_at w q) (j + 1) ≡ false → (q ≡ o.0) ⊎ (q ≡ o.0 → ⊥)
        → is_own (lock_at (with_go w k (after p d)) q) (j + 1) ≡ false
    ending_kept p d j ne q h (inl e) = subst (λ (x : ℕ). is_own (lock_at (with_go w k (after p d)) x) (j + 1) ≡ false) (sym e) (rw (lock_there p d) (not_own l new j ne))
    ending_kept p d j ne q h (inr other) = rw (lock_elsewhere p d q other) h

    others_kept : (p : Place) (d : Did) (j : ℕ) → (j ≡ k → ⊥) → (x : Place) → Fitting w j x → Fitting (with_go w k (after p d)) j x
    others_kept p d j ne =
        fitting_kept w (with_go w k (after p d)) j refl (length-set w.words o.0 (new_word w o l)) (thin_kept p d j ne) (fat_kept p d) (bound_kept w j)
        (λ q h. ending_kept p d j ne q h (cases_eq q o.0))

    -- a write keeps the world sound, where it publishes what the thread has bound
    pub sound_writes : (p : Place) (d : Did) → ((m : ℕ) → bound_by (place_at w k) ≡ Some m → IsPublished (with_go w k (after p d)) m)
        → Agrees p (post_of w.fats t) → MayShow w o.0 l → Fitting (with_go w k (after p d)) k p → IsSound (with_go w k (after p d))
    sound_writes p d own agrees stands fit =
        sound_gone (after p d) (length-set w.words o.0 (new_word w o l)) formed words sound.fats (posts_same w.fats t w.fats refl) agrees fit (λ j ne h. others_kept p d j ne (place_at w j) h)
        (λ m h. still_published (after p d) m (sound.published m h) (λ q e. fat_kept p d q m e) refl (own m))
      where
        formed : (q : ℕ) → IsMalformed w.split (get_or (set w.words o.0 (new_word w o l)) q (low_word 0)).0 → ⊥
        formed q = by_object (cases_eq q o.0)
          where
            by_object : (q ≡ o.0) ⊎ (q ≡ o.0 → ⊥) → IsMalformed w.split (get_or (set w.words o.0 (new_word w o l)) q (low_word 0)).0 → ⊥
            by_object (inl e) = rw (e, get_or-set_same w.words o.0 (new_word w o l) (low_word 0) inside) (formed-word_of w.split l (low_of (word_at w o.0).0) fits (omega arith))
            by_object (inr ne) = rw (get_or-set_other w.words o.0 q (new_word w o l) (low_word 0) ne) (sound.formed q)

        words : (q : ℕ) → MayShow (with_go w k (after p d)) q (lock_at (with_go w k (after p d)) q)
        words q = by_object (cases_eq q o.0)
          where
            by_object : (q ≡ o.0) ⊎ (q ≡ o.0 → ⊥) → MayShow (with_go w k (after p d)) q (lock_at (with_go w k (after p d)) q)
            by_object (inl e) = subst (λ (x : ℕ). MayShow w x (lock_at (with_go w k (after p d)) x)) (sym e) (subst (λ (x : Lock). MayShow w o.0 x) (sym (lock_there p d)) stands)
            by_object (inr ne) = subst (λ (x : Lock). MayShow w q x) (sym (lock_elsewhere p d q ne)) (stands_at w sound q)

    -- and a thread that has bound nothing publishes nothing
    pub sound_stores : (p : Place) (d : Did) → bound_by (place_at w k) ≡ None → Agrees p (post_of w.fats t) → MayShow w o.0 l
        → Fitting (with_go w k (after p d)) k p → IsSound (with_go w k (after p d))
    sound_stores p d none agrees stands fit = sound_writes p d (λ m some. no_own (after p d) m none some) agrees stands fit

  -- one monitor more
  module _ (o : ObjectId) (n : ℕ) (low : 1 ≤ n) (high : n ≤ 65535) (room : length w.fats.monitors < w.fats.limit) where
    abbrev bound : Place → Did → AfterGo
    bound p d = fats_changed w (bound_with w.fats o t n) p d

    monitor_kept : (m : ℕ) → m < length w.fats.monitors → monitor_at (bound_with w.fats o t n) m ≡ monitor_at w.fats m
    monitor_kept m h = get_or_append_left w.fats.monitors (record { object = o; owner = Some t; holds = n } ∷ []) unbound m h

    more : (m : ℕ) → m < length w.fats.monitors → m < length (bound_with w.fats o t n).monitors
    more m h = omega (arith, length-append w.fats.monitors (record { object = o; owner = Some t; holds = n } ∷ []))

    stands_bound : (p : Place) (d : Did) (q : ℕ) (l : Lock) → MayShow w q l → MayShow (with_go w k (bound p d)) q l
    stands_bound p d q Free h = h
    stands_bound p d q (Thin i c) h = h
    stands_bound p d q (Fat m) h = (more m h.0, rw (monitor_kept m h.0) h.1)

    fits_bound : (p : Place) (d : Did) (j : ℕ) (x : Place) → Fitting w j x → Fitting (with_go w k (bound p d)) j x
    fits_bound p d j = fitting_kept w (with_go w k (bound p d)) j refl refl (λ q n e. e) (λ q m e. e) still (λ q e. e)
      where
        still : (c : MonitorCall) (won : Bool) (m : ℕ) → FittingStage w j (Bound c won m)
            → (m < length (bound_with w.fats o t n).monitors)
            × (monitor_at (bound_with w.fats o t n) m ≡ record { object = c.object; owner = holder_at w.berths j; holds = (monitor_at w.fats m).holds })
        still c won m fit = let kept = bound_kept w j c won m fit in (more m fit.1, monitor_kept m fit.1 ∙ kept.1)

    -- the new monitor is the thread's to publish
    bound_published : (p : Place) (d : Did) → bound_by (place_at w k) ≡ None → bound_by p ≡ Some (length w.fats.monitors)
        → (m : ℕ) → m < length (bound_with w.fats o t n).monitors → (m ≡ length w.fats.monitors) ⊎ (m ≡ length w.fats.monitors → ⊥)
        → IsPublished (with_go w k (bound p d)) m
    bound_published p d none own m h (inl e) =
        let there : k < length w.places = within w sound k t berth in
        inr (k, rw (length-set w.places k p) there, rw (get_or-set_same w.places k p Idle there, e) own)
    bound_published p d none own m h (inr ne) =
        let l : m < length w.fats.monitors = omega (arith, length-append w.fats.monitors (record { object = o; owner = Some t; holds = n } ∷ [])) in
        still_published (bound p d) m (sound.published m l) (λ q e. e) (ap (λ (b : fat.Monitor). b.object.0) (monitor_kept m l)) (no_own (bound p d) m none)

    pub sound_bound : (p : Place) (d : Did) → bound_by (place_at w k) ≡ None → bound_by p ≡ Some (length w.fats.monitors)
        → Agrees p (post_of w.fats t) → Fitting (with_go w k (bound p d)) k p → IsSound (with_go w k (bound p d))
    sound_bound p d none own agrees fit =
        sound_gone (bound p d) refl sound.formed (λ q. stands_bound p d q (lock_at w q) (stands_at w sound q))
        (IsSound-bound_with w.fats o t n sound.fats room low high) (posts_same w.fats t (bound_with w.fats o t n) refl) agrees fit (λ j ne h. fits_bound p d j (place_at w j) h)
        (λ m h. bound_published p d none own m h (cases_eq m (length w.fats.monitors)))

  -- another fat state, and a place in the call that goes with it
  module _ (g : FatState) (size : length g.monitors ≡ length w.fats.monitors) (objects : (m : ℕ) → (monitor_at g m).object ≡ (monitor_at w.fats m).object)
      (thin : (m i n : ℕ) → lock_at w (monitor_at w.fats m).object.0 ≡ Thin i n → IsSome (monitor_at w.fats m).owner → monitor_at g m ≡ monitor_at w.fats m)
      (fats : book.IsSound g) (posts : KeepsPosts w.fats t g) where
    abbrev changed : Place → Did → AfterGo
    changed p d = fats_changed w g p d

    pub sound_changed : (p : Place) (d : Did) → bound_by (place_at w k) ≡ None → Agrees p (post_of g t) → Fitting (with_go w k (changed p d)) k p
        → IsSound (with_go w k (changed p d))
    sound_changed p d none agrees fit =
        sound_gone (changed p d) refl sound.formed (λ q. stands_changed w sound g size objects thin (slice_set w.places k p) q (lock_at w q) (stands_at w sound q)) fats posts agrees fit
        (λ j ne h. fits_changed w sound g size objects thin (slice_set w.places k p) j (place_at w j) h)
        (λ m h. let l : m < length w.fats.monitors = omega (arith, size) in
        still_published (changed p d) m (sound.published m l) (λ q e. e) (ap (λ (o : ObjectId). o.0) (objects m)) (no_own (changed p d) m none))
