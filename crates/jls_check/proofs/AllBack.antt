-- What is left where every thread leaves the wait set of an object.
use Rattle.std.specs.Prelude.{◌≡◌, ◌⊎◌, get_or, slice_set, ℕ, ◌+◌, ◌^◌, ◌<◌, ◌≤◌, ◌==◌, Bool, true, false, if◌then◌else◌, cond, List, [], ◌∷◌, length, map as list_map, count_by, Option, Some, None, IsSome}
use Rattle.std.specs.Map.{values_of}
use Rattle.std.specs.Option.{option_map}
use Rattle.std.specs.FinMap as map
use Rattle.std.specs.FinMap.{get-entries}
use Rattle.std.proofs.Common.{refl, ap, sym, ◌∙◌, inl, inr, subst, arith}
use Rattle.std.proofs.Math.Path.{fun_ext}
use Rattle.std.proofs.lemmas.Bool.{cases_eq, cases_lt, eq-eqb, ne_eqb}
use Rattle.std.proofs.lemmas.List.{length-set, get_or_past, get_or_default}
use Rattle.std.proofs.lemmas.List.Sums.{sum_by-cons}
use Rattle.std.proofs.lemmas.Option.{same_Some}
use Rattle.lock_word.specs.declared.ThreadId.{ThreadId}
use Rattle.lock_word.specs.declared.ObjectId.{ObjectId}
use Rattle.fat_monitor.specs.declared.actions.Reply.TheVariants.{Ended}
use Rattle.fat_monitor.specs.declared.actions.Why.TheVariants as why
use Rattle.step_core.specs.declared.machine.Doing.{Doing}
use Rattle.step_core.specs.declared.machine.Doing.TheVariants.{Idle, Wants, Waits, Back, Has}
use Rattle.step_core.specs.Machine.{Thread, waits_on, after_notify_all, all_notified, ActExists}
use Rattle.jls_check.specs.declared.threads.Live.{Live}
use Rattle.jls_check.specs.declared.threads.ThreadRecord.{ThreadRecord}
use Rattle.jls_check.specs.declared.monitors.ObjectRecord.{ObjectRecord}
use Rattle.jls_check.specs.LiveThreads.{LiveThreads, live_in, live_of, owned_in, owned_of, does_wait, some_waits, waiting_count, notified_record, all_back}
use Rattle.jls_check.specs.Monitors.{untouched, kept_at, waiting_in, with_waiting}
use Rattle.jls_check.specs.MachineState.{MachineState, state, thread_of, monitor_of, IsSound}
use Rattle.jls_check.specs.Taking.{all_left}
use Rattle.jls_check.proofs.Counts.{one, none_passes}
use Rattle.jls_check.proofs.LiveMaps.{get-all_back, entries-all_back}
use Rattle.jls_check.proofs.Kept.{held-with_waiting, waiting-with_waiting, owned-with_waiting}
use Rattle.jls_check.proofs.Guards.{flipped, never}
use Rattle.jls_check.proofs.Soundness.{nobody_counted}
use Rattle.jls_check.proofs.States.{same_state}

-- ---- one thread

-- a thread waits on an object then, where it waited on it and it is another one
waits_then : (o p : ObjectId) (d : Doing) → waits_on (after_notify_all o d) p ≡ (if p.0 == o.0 then false else waits_on d p)
waits_then o p (Waits q n d) = at (cases_eq q.0 o.0) (cases_eq p.0 o.0)
  where
    at : (q.0 ≡ o.0) ⊎ (q.0 ≡ o.0 → ⊥) → (p.0 ≡ o.0) ⊎ (p.0 ≡ o.0 → ⊥)
        → waits_on (if q.0 == o.0 then Back q n why.Notified else Waits q n d) p ≡ (if p.0 == o.0 then false else q.0 == p.0)
    at (inl same) (inl here) = rw (eq-eqb q.0 o.0 same, eq-eqb p.0 o.0 here) refl
    at (inl same) (inr there) = rw (eq-eqb q.0 o.0 same, ne_eqb p.0 o.0 there, ne_eqb q.0 p.0 (λ e. there (sym e ∙ same))) refl
    at (inr other) (inl here) = rw (ne_eqb q.0 o.0 other, eq-eqb p.0 o.0 here, ne_eqb q.0 p.0 (λ e. other (e ∙ here))) refl
    at (inr other) (inr there) = rw (ne_eqb q.0 o.0 other, ne_eqb p.0 o.0 there) refl
waits_then o p Idle = by (p.0 == o.0)
  where
    by : (b : Bool) → false ≡ (if b then false else false)
    by true = refl
    by false = refl
waits_then o p (Wants c) = by (p.0 == o.0)
  where
    by : (b : Bool) → false ≡ (if b then false else false)
    by true = refl
    by false = refl
waits_then o p (Back q n w) = by (p.0 == o.0)
  where
    by : (b : Bool) → false ≡ (if b then false else false)
    by true = refl
    by false = refl
waits_then o p (Has r) = by (p.0 == o.0)
  where
    by : (b : Bool) → false ≡ (if b then false else false)
    by true = refl
    by false = refl

still_there : (n : ℕ) (o : ObjectId) (b : Bool) (p : ObjectId) (m : ℕ) (d : Option ℕ) → p.0 < n → ActExists n (if b then Back p m why.Notified else Waits p m d)
still_there n o true p m d h = h
still_there n o false p m d h = h

back_exists : (n : ℕ) (o : ObjectId) (d : Doing) → ActExists n d → ActExists n (after_notify_all o d)
back_exists n o Idle h = h
back_exists n o (Wants c) h = h
back_exists n o (Waits p m d) h = still_there n o (p.0 == o.0) p m d h
back_exists n o (Back p m w) h = h
back_exists n o (Has r) h = h

-- who did not end has not ended
not_ended : (o : ObjectId) (d : Doing) → after_notify_all o d ≡ Has Ended → d ≡ Has Ended
not_ended o (Waits p m d) e = by (p.0 == o.0) e
  where
    by : (b : Bool) → (if b then Back p m why.Notified else Waits p m d) ≡ Has Ended → Waits p m d ≡ Has Ended
    by true e = absurd (cc)
    by false e = e
not_ended o Idle e = e
not_ended o (Wants c) e = e
not_ended o (Back p m w) e = e
not_ended o (Has r) e = e

-- who does not wait does the same
pub unmoved : (o : ObjectId) (d : Doing) → waits_on d o ≡ false → after_notify_all o d ≡ d
unmoved o (Waits p m d) e = ap (λ b. if b then Back p m why.Notified else Waits p m d) e
unmoved o Idle e = refl
unmoved o (Wants c) e = refl
unmoved o (Back p m w) e = refl
unmoved o (Has r) e = refl

-- ---- counted

listed_then : (o p : ObjectId) (es : List (ℕ × ThreadRecord))
    → count_by (does_wait p) (values_of (list_map (λ e. (e.0, notified_record o e.1)) es)) ≡ (if p.0 == o.0 then 0 else count_by (does_wait p) (values_of es))
listed_then o p [] = by (p.0 == o.0)
  where
    by : (b : Bool) → ◌≡◌ {A = ℕ} 0 (if b then 0 else 0)
    by true = refl
    by false = refl
listed_then o p (e ∷ es) =
    sum_by-cons (one (does_wait p)) (notified_record o e.1) (values_of (list_map (λ x. (x.0, notified_record o x.1)) es))
    ∙ by (p.0 == o.0) (one (does_wait p) (notified_record o e.1)) (count_by (does_wait p) (values_of (list_map (λ x. (x.0, notified_record o x.1)) es)))
    (ap (λ (b : Bool). cond b 1 0) (waits_then o p e.1.live.act)) (listed_then o p es)
  where
    by : (b : Bool) (m n : ℕ) → m ≡ cond (if b then false else does_wait p e.1) 1 0 → n ≡ (if b then 0 else count_by (does_wait p) (values_of es))
        → m + n ≡ (if b then 0 else count_by (does_wait p) (values_of (e ∷ es)))
    by true m n here rest = omega (arith, here, rest)
    by false m n here rest = let whole = sum_by-cons (one (does_wait p)) e.1 (values_of es) in omega (arith, here, rest)

waiting-all_back : (l : LiveThreads) (o p : ObjectId) → waiting_count (all_back l o) p ≡ (if p.0 == o.0 then 0 else waiting_count l p)
waiting-all_back l o p = ap (λ es. count_by (does_wait p) (values_of es)) (entries-all_back l o) ∙ listed_then o p (map.entries l)

owned-all_back : (l : LiveThreads) (o : ObjectId) (t : ThreadId) → owned_of (all_back l o) t ≡ owned_of l t
owned-all_back l o t = ap owned_in (get-all_back l o t.0) ∙ by (map.get l t.0)
  where
    by : (x : Option ThreadRecord) → owned_in (option_map (notified_record o) x) ≡ owned_in x
    by None = refl
    by (Some r) = refl

abbrev notified_live : ObjectId → Live → Live
notified_live o x = record { flag = x.flag; act = after_notify_all o x.act }

live_mapped : (l : LiveThreads) (o : ObjectId) (t : ThreadId) → live_of (all_back l o) t ≡ option_map (notified_live o) (live_of l t)
live_mapped l o t = ap live_in (get-all_back l o t.0) ∙ by (map.get l t.0)
  where
    by : (x : Option ThreadRecord) → live_in (option_map (notified_record o) x) ≡ option_map (notified_live o) (live_in x)
    by None = refl
    by (Some r) = refl

-- ---- all of it

module _ (v : MachineState) (o : ObjectId) (sound : IsSound v) where
  abbrev pub emptied : MachineState
  emptied = record v { threads = all_back v.threads o; objects = with_waiting v.objects o 0 }

  -- an object on which some wait exists
  pub counted_there : (waiting_in v.objects o == 0) ≡ false → o.0 < length v.objects
  counted_there some = by (cases_lt o.0 (length v.objects))
    where
      by : (o.0 < length v.objects) ⊎ (length v.objects ≤ o.0) → o.0 < length v.objects
      by (inl less) = less
      by (inr past) = never (waiting_in v.objects o == 0) (eq-eqb (waiting_in v.objects o) 0 (ap (λ (r : ObjectRecord). r.waiting) (get_or_past v.objects o.0 untouched past))) some

  exist_emptied : (t : ThreadId) (x : Live) → live_of (all_back v.threads o) t ≡ Some x → ActExists (length v.objects) x.act
  exist_emptied t x e = by (live_of v.threads t) refl (sym (live_mapped v.threads o t) ∙ e)
    where
      by : (y : Option Live) → live_of v.threads t ≡ y → option_map (notified_live o) y ≡ Some x → ActExists (length v.objects) x.act
      by None h e = absurd (cc)
      by (Some y) h e = subst (λ (z : Live). ActExists (length v.objects) z.act) (same_Some (notified_live o y) x e) (back_exists (length v.objects) o y.act (sound.exist t y h))

  ended_emptied : (t : ThreadId) (f : Bool) → live_of (all_back v.threads o) t ≡ Some (record { flag = f; act = Has Ended }) → owned_of v.threads t ≡ 0
  ended_emptied t f e = by (live_of v.threads t) refl (sym (live_mapped v.threads o t) ∙ e)
    where
      by : (y : Option Live) → live_of v.threads t ≡ y → option_map (notified_live o) y ≡ Some (record { flag = f; act = Has Ended }) → owned_of v.threads t ≡ 0
      by None h e = absurd (cc)
      by (Some y) h e =
          let act = not_ended o y.act (ap (λ (z : Live). z.act) (same_Some (notified_live o y) (record { flag = f; act = Has Ended }) e)) in
          sound.ended t y.flag (h ∙ ap (λ (d : Doing). let z : Live = record { flag = y.flag; act = d } in Some z) act)

  waiting_emptied : o.0 < length v.objects → (p : ObjectId) → waiting_in (with_waiting v.objects o 0) p ≡ waiting_count (all_back v.threads o) p
  waiting_emptied there p =
      waiting-with_waiting v.objects o 0 p there ∙ ap (λ n. if p.0 == o.0 then 0 else n) (sound.waiting p) ∙ sym (waiting-all_back v.threads o p)

  pub emptied_sound : o.0 < length v.objects → IsSound emptied
  emptied_sound there =
      let long = length-set v.objects o.0 (record { held = (kept_at v.objects o).held; waiting = 0 }) in
      record {
        few = subst (λ n. n < 2 ^ 32) (sym long) sound.few;
        exist = λ t x e. subst (λ n. ActExists n x.act) (sym long) (exist_emptied t x e);
        ended = λ t f e. owned-all_back v.threads o t ∙ ended_emptied t f e;
        waiting = waiting_emptied there;
        owned = λ t. owned-all_back v.threads o t ∙ sound.owned t ∙ sym (owned-with_waiting v.objects o 0 t there);
      }

  pub all_left_sound : IsSound (all_left v o)
  all_left_sound = by (waiting_in v.objects o == 0) refl
    where
      by : (b : Bool) → (waiting_in v.objects o == 0) ≡ b → IsSound (if b then v else emptied)
      by true e = sound
      by false e = emptied_sound (counted_there e)

  state-emptied : state emptied ≡ all_notified (state v) o
  state-emptied =
      same_state (state v) (fun_ext (λ t. ap (option_map thread_of) (live_mapped v.threads o t) ∙ twice (live_of v.threads t)))
      (fun_ext (λ p. ap monitor_of (held-with_waiting v.objects o 0 p))) (length-set v.objects o.0 (record { held = (kept_at v.objects o).held; waiting = 0 }))
    where
      twice : (y : Option Live) → option_map thread_of (option_map (notified_live o) y) ≡ option_map (λ (x : Thread). let z : Thread = record { flag = x.flag; act = after_notify_all o x.act } in z) (option_map thread_of y)
      twice None = refl
      twice (Some y) = refl

  state-unmoved : some_waits v.threads o ≡ false → state v ≡ all_notified (state v) o
  state-unmoved none = ap (λ (f : ThreadId → Option Thread). record (state v) { thread = f }) (fun_ext (λ t. at t (map.get v.threads t.0) refl))
    where
      at : (t : ThreadId) (y : Option ThreadRecord) → map.get v.threads t.0 ≡ y
          → option_map thread_of (live_in y) ≡ option_map (λ (x : Thread). let z : Thread = record { flag = x.flag; act = after_notify_all o x.act } in z) (option_map thread_of (live_in y))
      at t None e = refl
      at t (Some r) e =
          let idle = none_passes (does_wait o) t.0 (map.entries v.threads) r none (sym (get-entries v.threads t.0) ∙ e) in
          ap (λ (d : Doing). let z : Thread = record { flag = r.live.flag; act = d } in Some z) (sym (unmoved o r.live.act idle))

  pub state-all_left : state (all_left v o) ≡ all_notified (state v) o
  state-all_left = by (waiting_in v.objects o == 0) refl
    where
      by : (b : Bool) → (waiting_in v.objects o == 0) ≡ b → state (if b then v else emptied) ≡ all_notified (state v) o
      by true e = state-unmoved (flipped (some_waits v.threads o) (sym (nobody_counted v sound o) ∙ e))
      by false e = state-emptied

-- the same, of the record that was read
pub emptied_sound_as : (v : MachineState) (o : ObjectId) → IsSound v → (waiting_in v.objects o == 0) ≡ false → (q : ObjectRecord) → q ≡ get_or v.objects o.0 q
    → (l : LiveThreads) → l ≡ all_back v.threads o → IsSound (record v { threads = l; objects = slice_set v.objects o.0 (record { held = q.held; waiting = 0 }) })
emptied_sound_as v o sound some q f l k =
    subst IsSound (λ i. record v { threads = sym k i; objects = slice_set v.objects o.0 (record { held = held_there i; waiting = 0 }) }) (emptied_sound v o sound there)
  where
    there : o.0 < length v.objects
    there = counted_there v o sound some

    held_there : (kept_at v.objects o).held ≡ q.held
    held_there = sym (ap (λ (x : ObjectRecord). x.held) (f ∙ get_or_default v.objects o.0 q untouched there))

-- who was live is live
pub lives_all_left : (v w : MachineState) (o : ObjectId) (t : ThreadId) → w ≡ all_left v o → IsSome (live_of v.threads t) → IsSome (live_of w.threads t)
lives_all_left v w o t e h = rw (e) (by (waiting_in v.objects o == 0))
  where
    mapped : (y : Option Live) → IsSome y → IsSome (option_map (notified_live o) y)
    mapped None h = absurd (cc)
    mapped (Some y) h = refl

    by : (b : Bool) → IsSome (live_of (if b then v else record v { threads = all_back v.threads o; objects = with_waiting v.objects o 0 }).threads t)
    by true = h
    by false = rw (live_mapped v.threads o t) (mapped (live_of v.threads t) h)
