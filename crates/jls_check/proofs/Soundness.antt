-- What holds of all that a checker knows holds after each change of it: what acts name exists, and both counts are
-- those of the shown state.
use Rattle.std.specs.Prelude.{◌≡◌, ◌⊎◌, ℕ, ◌+◌, ◌^◌, ◌<◌, ◌≤◌, ◌==◌, nat_lt, Bool, true, false, not, if◌then◌else◌, cond, MatchOption, length, List, replicate, get_or, slice_set, zero, suc, Option, Some, None, IsSome, is_some}
use Rattle.std.specs.FinMap as map
use Rattle.std.specs.FinMap.{get-empty}
use Rattle.std.specs.Ordering.{nat_cmp}
use Rattle.std.proofs.Common.{refl, ap, sym, ◌∙◌, inl, inr, subst, arith}
use Rattle.std.proofs.lemmas.Bool.{cases_eq, eq-eqb, ne_eqb, eqb-true, ltb-true}
use Rattle.std.proofs.lemmas.List.{length-set, length-replicate, get_or_default}
use Rattle.std.proofs.lemmas.List.Sums.{sum_by-set, count_by-le-length}
use Rattle.std.proofs.lemmas.Option.{same_Some}
use Rattle.lock_word.specs.declared.ThreadId.{ThreadId}
use Rattle.lock_word.specs.declared.ObjectId.{ObjectId}
use Rattle.fat_monitor.specs.declared.actions.Reply.TheVariants.{Ended}
use Rattle.step_core.specs.declared.machine.Doing.{Doing}
use Rattle.step_core.specs.declared.machine.Doing.TheVariants.{Idle, Wants, Waits, Back, Has}
use Rattle.step_core.specs.Machine.{waits_on, ActExists, after_interrupt}
use Rattle.fat_monitor.proofs.PostMaps.{get-remove_by}
use Rattle.jls_check.specs.declared.threads.Live.{Live}
use Rattle.jls_check.specs.declared.threads.ThreadRecord.{ThreadRecord}
use Rattle.jls_check.specs.declared.monitors.Held.{Held}
use Rattle.jls_check.specs.declared.monitors.ObjectRecord.{ObjectRecord}
use Rattle.jls_check.specs.LiveThreads.{LiveThreads, live_in, live_of, with_live, owned_in, owned_of, without_live, owning_one_less, owning_one_more, does_wait, some_waits, waiting_count}
use Rattle.jls_check.specs.Monitors.{untouched, kept_at, waiting_in, HasWaiter, CanCountOneMore, is_owned_by, has_owner, owns_one, owned_count}
use Rattle.jls_check.specs.MachineState.{MachineState, put, with_held, held_at, left_by, IsSound, MayOwn}
use Rattle.jls_check.proofs.Counts.{one, one_in, count-insert, count-remove, count-empty, count-le, count-has, count-none}
use Rattle.jls_check.proofs.Kept.{live-with_live, owned-with_live, live-owning_one_less, waiting-owning_one_less, waiting-owning_one_more, owned-owning_one_less, owned-owning_one_more, mine, waiting-with_monitor_held, owned-left, owned-joined, waiting-left, waiting-joined}
use Rattle.jls_check.proofs.States.{live-with_held, length-left_by, length-put, written, live-written, all_untouched}

-- ---- what the counts say

module _ (v : MachineState) (sound : IsSound v) where
  -- who waits is counted
  pub waiter_there : (t : ThreadId) (x : Live) → live_of v.threads t ≡ Some x → HasWaiter v.objects x.act
  waiter_there t x e = by (map.get v.threads t.0) refl e
    where
      on : (r : ThreadRecord) → map.get v.threads t.0 ≡ Some r → (d : Doing) → r.live.act ≡ d → HasWaiter v.objects d
      on r h (Waits o n d) k =
          let counted = count-remove (does_wait o) v.threads t.0 r h in
          let it : one (does_wait o) r ≡ 1 = ap (λ (b : Bool). cond b 1 0) (ap (λ (a : Doing). waits_on a o) k ∙ eq-eqb o.0 o.0 refl) in
          let kept = sound.waiting o in
          let one_waits : 0 < waiting_in v.objects o = omega arith in
          (subst (λ (d : Doing). ActExists (length v.objects) d) k (sound.exist t r.live (ap live_in h)), one_waits)
      on r h Idle k = tt
      on r h (Wants c) k = tt
      on r h (Back o n w) k = tt
      on r h (Has q) k = tt

      by : (y : Option ThreadRecord) → map.get v.threads t.0 ≡ y → live_in y ≡ Some x → HasWaiter v.objects x.act
      by None h e = absurd (cc)
      by (Some r) h e = subst (λ (z : Live). HasWaiter v.objects z.act) (same_Some r.live x e) (on r h r.live.act refl)

  -- who owns an object is known to
  pub owner_there : (o : ObjectId) → o.0 < length v.objects → MatchOption (held_at v o).owner (Unit {0}) (λ t. 1 ≤ owned_of v.threads t)
  owner_there o there = by (held_at v o).owner refl
    where
      by : (a : Option ThreadId) → (held_at v o).owner ≡ a → MatchOption a (Unit {0}) (λ t. 1 ≤ owned_of v.threads t)
      by None e = tt
      by (Some t) e =
          let has : has_owner t (kept_at v.objects o) ≡ true = ap (λ (q : Option ThreadId). is_owned_by q t) e ∙ eq-eqb t.0 t.0 refl in
          let counted = count-has (has_owner t) v.objects o.0 untouched there refl has in
          let kept = sound.owned t in
          omega arith

  -- there are fewer than a number of 32 bits
  pub owner_there_as : (o : ObjectId) → o.0 < length v.objects → (r : ObjectRecord) → r ≡ get_or v.objects o.0 r → MatchOption r.held.owner (Unit {0}) (λ t. 1 ≤ owned_of v.threads t)
  owner_there_as o there r e =
      subst (λ (x : ObjectRecord). MatchOption x.held.owner (Unit {0}) (λ t. 1 ≤ owned_of v.threads t)) (sym (e ∙ get_or_default v.objects o.0 r untouched there)) (owner_there o there)

  pub few_owned : (a : Option ThreadId) (t : ThreadId) → MatchOption a (Unit {0}) (λ u. 1 ≤ owned_of v.threads u) → owned_of (owning_one_less v.threads a) t < 2 ^ 32
  few_owned a t h =
      let less = owned-owning_one_less v.threads a t h in
      let kept = sound.owned t in
      let le = count_by-le-length (has_owner t) v.objects in
      let few = sound.few in
      omega arith

  -- nobody waits exactly where the count is 0
  pub nobody_counted : (o : ObjectId) → (waiting_in v.objects o == 0) ≡ not (some_waits v.threads o)
  nobody_counted o = ap (λ n. n == 0) (sound.waiting o) ∙ count-none (does_wait o) (map.values v.threads)

  none_owned : (t : ThreadId) → (owned_of v.threads t == 0) ≡ not (owns_one v.objects t)
  none_owned t = ap (λ n. n == 0) (sound.owned t) ∙ count-none (has_owner t) v.objects

-- one, where the thread did wait on the object
abbrev before : Option Live → ObjectId → ℕ
before None o = 0
before (Some x) o = cond (waits_on x.act o) 1 0

before-is : (o : ObjectId) (y : Option ThreadRecord) → one_in (does_wait o) y ≡ before (live_in y) o
before-is o None = refl
before-is o (Some r) = refl

-- a thread owns an object exactly where its count is not 0
pub some_owned : (v : MachineState) → IsSound v → (t : ThreadId) → not (owned_of v.threads t == 0) ≡ owns_one v.objects t
some_owned v sound t = ap not (none_owned v sound t) ∙ twice (owns_one v.objects t)
  where
    twice : (b : Bool) → not (not b) ≡ b
    twice true = refl
    twice false = refl

pub owns_nothing : (v : MachineState) → IsSound v → (t : ThreadId) → owns_one v.objects t ≡ false → owned_of v.threads t ≡ 0
owns_nothing v sound t e = eqb-true (owned_of v.threads t) 0 (none_owned v sound t ∙ ap not e)

-- where a thread waited, it is counted
pub waited_there : (v : MachineState) (t : ThreadId) → IsSound v → MatchOption (live_of v.threads t) (Unit {0}) (λ x. HasWaiter v.objects x.act)
waited_there v t sound = by (live_of v.threads t) refl
  where
    by : (y : Option Live) → live_of v.threads t ≡ y → MatchOption y (Unit {0}) (λ x. HasWaiter v.objects x.act)
    by None e = tt
    by (Some x) e = waiter_there v sound t x e

-- ---- a thread with another flag and act

module _ (v : MachineState) (t : ThreadId) (sound : IsSound v) where
  abbrev was : Option Live
  was = live_of v.threads t

  waiting-left_by : (o : ObjectId) → waiting_in (left_by v.objects was) o + before was o ≡ waiting_in v.objects o
  waiting-left_by o = by (live_of v.threads t) refl
    where
      by : (y : Option Live) → live_of v.threads t ≡ y → waiting_in (left_by v.objects y) o + before y o ≡ waiting_in v.objects o
      by None e = omega arith
      by (Some x) e = waiting-left v.objects x.act o (sound.exist t x e) (waiter_there v sound t x e)

  owned-left_by : (u : ThreadId) → owned_count (left_by v.objects was) u ≡ owned_count v.objects u
  owned-left_by u = by (live_of v.threads t) refl
    where
      by : (y : Option Live) → live_of v.threads t ≡ y → owned_count (left_by v.objects y) u ≡ owned_count v.objects u
      by None e = refl
      by (Some x) e = owned-left v.objects x.act u (sound.exist t x e)

  -- there is room to count one more
  pub room_there : map.len v.threads < 2 ^ 63 → (act : Doing) → ActExists (length v.objects) act → CanCountOneMore (left_by v.objects (live_of v.threads t)) act
  room_there few (Waits o n d) there =
      let less = waiting-left_by o in
      let kept = sound.waiting o in
      let le = count-le (does_wait o) v.threads in
      let room : waiting_in (left_by v.objects (live_of v.threads t)) o < 2 ^ 63 = omega (arith, few) in
      (subst (λ n. o.0 < n) (sym (length-left_by v.objects (live_of v.threads t))) there, room)
  room_there few Idle there = tt
  room_there few (Wants c) there = tt
  room_there few (Back o n w) there = tt
  room_there few (Has r) there = tt

  module _ (flag : Bool) (act : Doing) (there : ActExists (length v.objects) act) (ends : act ≡ Has Ended → owned_of v.threads t ≡ 0) where
    exist_put : (u : ThreadId) (x : Live) → live_of (put v t flag act).threads u ≡ Some x → ActExists (length v.objects) x.act
    exist_put u x e = by (u.0 == t.0) (sym (live-with_live v.threads t (record { flag = flag; act = act }) u) ∙ e)
      where
        by : (b : Bool) → (if b then Some (record { flag = flag; act = act }) else live_of v.threads u) ≡ Some x → ActExists (length v.objects) x.act
        by true h = subst (λ (y : Live). ActExists (length v.objects) y.act) (same_Some (record { flag = flag; act = act }) x h) there
        by false h = sound.exist u x h

    ended_put : (u : ThreadId) (f : Bool) → live_of (put v t flag act).threads u ≡ Some (record { flag = f; act = Has Ended }) → owned_of v.threads u ≡ 0
    ended_put u f e = by (cases_eq u.0 t.0) (sym (live-with_live v.threads t (record { flag = flag; act = act }) u) ∙ e)
      where
        by : (u.0 ≡ t.0) ⊎ (u.0 ≡ t.0 → ⊥) → (if u.0 == t.0 then Some (record { flag = flag; act = act }) else live_of v.threads u) ≡ Some (record { flag = f; act = Has Ended })
            → owned_of v.threads u ≡ 0
        by (inl same) h =
            let mine : Some (record { flag = flag; act = act }) ≡ Some (record { flag = f; act = Has Ended }) = rw (eq-eqb u.0 t.0 same) at h in
            ap (λ (k : ℕ). owned_in (map.get v.threads k)) same
            ∙ ends (ap (λ (y : Live). y.act) (same_Some (record { flag = flag; act = act }) (record { flag = f; act = Has Ended }) mine))
        by (inr other) h = let its : live_of v.threads u ≡ Some (record { flag = f; act = Has Ended }) = rw (ne_eqb u.0 t.0 other) at h in sound.ended u f its

    there_left : ActExists (length (left_by v.objects was)) act
    there_left = subst (λ n. ActExists n act) (sym (length-left_by v.objects (live_of v.threads t))) there

    waiting_put : (o : ObjectId) → waiting_in (put v t flag act).objects o ≡ waiting_count (put v t flag act).threads o
    waiting_put o =
        let inserted = count-insert (does_wait o) v.threads t.0 (record { live = record { flag = flag; act = act }; owned = owned_of v.threads t }) in
        let old = before-is o (map.get v.threads t.0) in
        let less = waiting-left_by o in
        let more = waiting-joined (left_by v.objects (live_of v.threads t)) act o there_left in
        let kept = sound.waiting o in
        omega arith

    owned_put : (u : ThreadId) → owned_of (put v t flag act).threads u ≡ owned_count (put v t flag act).objects u
    owned_put u =
        owned-with_live v.threads t (record { flag = flag; act = act }) u ∙ sound.owned u ∙ sym (owned-left_by u)
        ∙ sym (owned-joined (left_by v.objects (live_of v.threads t)) act u there_left)

    pub put_sound : IsSound (put v t flag act)
    put_sound = record {
      few = subst (λ n. n < 2 ^ 32) (sym (length-put v t flag act)) sound.few;
      exist = λ u x e. subst (λ n. ActExists n x.act) (sym (length-put v t flag act)) (exist_put u x e);
      ended = λ u f e. owned-with_live v.threads t (record { flag = flag; act = act }) u ∙ ended_put u f e;
      waiting = waiting_put;
      owned = owned_put;
    }

-- the same, of the objects that count the waits
pub put_sound_as : (v : MachineState) (t : ThreadId) → IsSound v → (flag : Bool) (act : Doing) → ActExists (length v.objects) act → (act ≡ Has Ended → owned_of v.threads t ≡ 0)
    → (os : List ObjectRecord) → os ≡ (put v t flag act).objects → IsSound (record (put v t flag act) { objects = os })
put_sound_as v t sound flag act there ends os e = subst (λ (qs : List ObjectRecord). IsSound (record (put v t flag act) { objects = qs })) (sym e) (put_sound v t sound flag act there ends)

-- an interrupt ends no thread
pub interrupted_ends : (v : MachineState) (t : ThreadId) (x : Live) → IsSound v → live_of v.threads t ≡ Some x → after_interrupt x.act ≡ Has Ended → owned_of v.threads t ≡ 0
interrupted_ends v t x sound e ends = sound.ended t x.flag (e ∙ ap (λ (d : Doing). let y : Live = record { flag = x.flag; act = d } in Some y) (by x.act ends))
  where
    by : (d : Doing) → after_interrupt d ≡ Has Ended → d ≡ Has Ended
    by (Waits o n d) k = absurd (cc)
    by Idle k = k
    by (Wants c) k = k
    by (Back o n w) k = k
    by (Has r) k = k

-- ---- a thread that is live no longer

pub without_sound : (v : MachineState) (t : ThreadId) (flag : Bool) → IsSound v → live_of v.threads t ≡ Some (record { flag = flag; act = Has Ended })
    → IsSound (record v { threads = without_live v.threads t })
without_sound v t flag sound ends = record {
  few = sound.few;
  exist = λ u x e. sound.exist u x (found u x e);
  ended = λ u f e. owned_without u ∙ sound.ended u f (found u (record { flag = f; act = Has Ended }) e);
  waiting = waiting_without;
  owned = λ u. owned_without u ∙ sound.owned u;
}
  where
    found : (u : ThreadId) (x : Live) → live_of (without_live v.threads t) u ≡ Some x → live_of v.threads u ≡ Some x
    found u x e = by (u.0 == t.0) (sym (ap live_in (get-remove_by v.threads t.0 u.0)) ∙ e)
      where
        by : (b : Bool) → live_in (if b then None else map.get v.threads u.0) ≡ Some x → live_of v.threads u ≡ Some x
        by true h = absurd (cc)
        by false h = h

    owned_without : (u : ThreadId) → owned_of (without_live v.threads t) u ≡ owned_of v.threads u
    owned_without u = ap owned_in (get-remove_by v.threads t.0 u.0) ∙ by (cases_eq u.0 t.0)
      where
        by : (u.0 ≡ t.0) ⊎ (u.0 ≡ t.0 → ⊥) → owned_in (if u.0 == t.0 then None else map.get v.threads u.0) ≡ owned_of v.threads u
        by (inl same) = rw (eq-eqb u.0 t.0 same) (sym (ap (λ (k : ℕ). owned_in (map.get v.threads k)) same ∙ sound.ended t flag ends))
        by (inr other) = rw (ne_eqb u.0 t.0 other) refl

    waiting_without : (o : ObjectId) → waiting_in v.objects o ≡ waiting_count (without_live v.threads t) o
    waiting_without o = sound.waiting o ∙ sym (by (map.get v.threads t.0) refl ends)
      where
        by : (y : Option ThreadRecord) → map.get v.threads t.0 ≡ y → live_in y ≡ Some (record { flag = flag; act = Has Ended })
            → waiting_count (without_live v.threads t) o ≡ waiting_count v.threads o
        by None h e = absurd (cc)
        by (Some r) h e =
            let counted = count-remove (does_wait o) v.threads t.0 r h in
            let it : one (does_wait o) r ≡ 0 = ap (λ (b : Bool). cond b 1 0) (ap (λ (z : Live). waits_on z.act o) (same_Some r.live (record { flag = flag; act = Has Ended }) e)) in
            omega arith

-- ---- a monitor with another owner or count

module _ (v : MachineState) (o : ObjectId) (h : Held) (sound : IsSound v) (may : MatchOption h.owner (Unit {0}) (λ t. MayOwn v.threads t)) where
  -- the new owner is live, after the old one has lost the object too
  new_lives : MatchOption h.owner (Unit {0}) (λ t. IsSome (live_of (owning_one_less v.threads (held_at v o).owner) t))
  new_lives = by h.owner may
    where
      by : (a : Option ThreadId) → MatchOption a (Unit {0}) (λ t. MayOwn v.threads t) → MatchOption a (Unit {0}) (λ t. IsSome (live_of (owning_one_less v.threads (held_at v o).owner) t))
      by None m = tt
      by (Some t) m = rw (live-owning_one_less v.threads (held_at v o).owner t, m.1) refl

  -- and has not ended
  not_mine : (u : ThreadId) (f : Bool) → live_of v.threads u ≡ Some (record { flag = f; act = Has Ended }) → mine h.owner u ≡ 0
  not_mine u f e = by h.owner may
    where
      at : (t : ThreadId) → MayOwn v.threads t → (t.0 ≡ u.0) ⊎ (t.0 ≡ u.0 → ⊥) → mine (Some t) u ≡ 0
      at t m (inl same) =
          absurd (m.2 (ap (λ (y : Live). y.act) (same_Some m.0 (record { flag = f; act = Has Ended }) (sym m.1 ∙ ap (λ (k : ℕ). live_in (map.get v.threads k)) same ∙ e))))
      at t m (inr other) = ap (λ (b : Bool). cond b 1 0) (ne_eqb t.0 u.0 other)

      by : (a : Option ThreadId) → MatchOption a (Unit {0}) (λ t. MayOwn v.threads t) → mine a u ≡ 0
      by None m = refl
      by (Some t) m = at t m (cases_eq t.0 u.0)

  module _ (there : o.0 < length v.objects) where
    owned_change : (u : ThreadId) → owned_of (written v o h).threads u + mine (held_at v o).owner u ≡ owned_of v.threads u + mine h.owner u
    owned_change u =
        let less = owned-owning_one_less v.threads (held_at v o).owner u (owner_there v sound o there) in
        let more = owned-owning_one_more (owning_one_less v.threads (held_at v o).owner) h.owner u new_lives in
        omega arith

    ended_written : (u : ThreadId) (f : Bool) → live_of (written v o h).threads u ≡ Some (record { flag = f; act = Has Ended }) → owned_of (written v o h).threads u ≡ 0
    ended_written u f e =
        let was = sym (live-written v o h u) ∙ e in
        let none = sound.ended u f was in
        let out = not_mine u f was in
        let change = owned_change u in
        omega arith

    owned_written : (u : ThreadId) → owned_of (written v o h).threads u ≡ owned_count (written v o h).objects u
    owned_written u =
        let change = owned_change u in
        let kept = sound.owned u in
        let set = sum_by-set (λ (r : ObjectRecord). cond (has_owner u r) 1 0) v.objects o.0 (record { held = h; waiting = waiting_in v.objects o }) untouched there in
        omega arith

    pub written_sound : IsSound (written v o h)
    written_sound =
        let long = length-set v.objects o.0 (record { held = h; waiting = waiting_in v.objects o }) in
        record {
          few = subst (λ n. n < 2 ^ 32) (sym long) sound.few;
          exist = λ u x e. subst (λ n. ActExists n x.act) (sym long) (sound.exist u x (sym (live-written v o h u) ∙ e));
          ended = ended_written;
          waiting = λ p. waiting-with_monitor_held v.objects o h p ∙ sound.waiting p ∙ sym (waiting-owning_one_more (owning_one_less v.threads (held_at v o).owner) h.owner p ∙ waiting-owning_one_less v.threads (held_at v o).owner p);
          owned = owned_written;
        }

  pub held_sound : IsSound (with_held v o h)
  held_sound = by (nat_lt o.0 (length v.objects)) refl
    where
      by : (b : Bool) → nat_lt o.0 (length v.objects) ≡ b → IsSound (if b then written v o h else v)
      by true e = written_sound (ltb-true o.0 (length v.objects) e)
      by false e = sound

-- the old owner has lost the object, and whoever gains it owns fewer than a number of 32 bits
pub few_gained : (v : MachineState) (o : ObjectId) (a : Option ThreadId) → IsSound v → o.0 < length v.objects
    → MatchOption a (Unit {0}) (λ t. owned_of (owning_one_less v.threads (held_at v o).owner) t < 2 ^ 32)
few_gained v o None sound there = tt
few_gained v o (Some t) sound there = few_owned v sound (held_at v o).owner t (owner_there v sound o there)

-- the same, of the records that were read and written
pub few_gained_as : (v : MachineState) (o : ObjectId) (a : Option ThreadId) → IsSound v → o.0 < length v.objects → (r : ObjectRecord) → r ≡ get_or v.objects o.0 r
    → (l : LiveThreads) → l ≡ owning_one_less v.threads r.held.owner → MatchOption a (Unit {0}) (λ t. owned_of l t < 2 ^ 32)
few_gained_as v o a sound there r e l k =
    subst (λ (m : LiveThreads). MatchOption a (Unit {0}) (λ t. owned_of m t < 2 ^ 32))
    (sym (k ∙ ap (λ (x : ObjectRecord). owning_one_less v.threads x.held.owner) (e ∙ get_or_default v.objects o.0 r untouched there))) (few_gained v o a sound there)

pub written_sound_as : (v : MachineState) (o : ObjectId) (h : Held) → IsSound v → MatchOption h.owner (Unit {0}) (λ t. MayOwn v.threads t) → o.0 < length v.objects
    → (r q : ObjectRecord) → r ≡ get_or v.objects o.0 r → q ≡ get_or v.objects o.0 q → (l : LiveThreads) → l ≡ owning_one_more (owning_one_less v.threads r.held.owner) h.owner
    → IsSound (record v { threads = l; objects = slice_set v.objects o.0 (record { held = h; waiting = q.waiting }) })
written_sound_as v o h sound may there r q e f l k =
    subst IsSound (λ i. record v { threads = threads i; objects = slice_set v.objects o.0 (record { held = h; waiting = waits_there i }) }) (written_sound v o h sound may there)
  where
    threads : owning_one_more (owning_one_less v.threads (held_at v o).owner) h.owner ≡ l
    threads = sym (k ∙ ap (λ (x : ObjectRecord). owning_one_more (owning_one_less v.threads x.held.owner) h.owner) (e ∙ get_or_default v.objects o.0 r untouched there))

    waits_there : waiting_in v.objects o ≡ q.waiting
    waits_there = sym (ap (λ (x : ObjectRecord). x.waiting) (f ∙ get_or_default v.objects o.0 q untouched there))

-- ---- before all moves

pub opening_sound : (objects : List ObjectRecord) (n : ℕ) → objects ≡ replicate n untouched → n < 2 ^ 32 → IsSound (record { threads = map.empty; objects = objects; moment = 0 })
opening_sound objects n e few = record {
  few = subst (λ k. k < 2 ^ 32) (sym (ap length e ∙ length-replicate n untouched)) few;
  exist = λ t x h. absurd (nobody t x h);
  ended = λ t f h. absurd (nobody t (record { flag = f; act = Has Ended }) h);
  waiting = λ o. ap (λ (os : List ObjectRecord). waiting_in os o) e ∙ ap (λ (r : ObjectRecord). r.waiting) (all_untouched n o.0) ∙ sym (count-empty (does_wait o));
  owned = λ t. ap owned_in (get-empty nat_cmp t.0) ∙ sym (ap (λ (os : List ObjectRecord). owned_count os t) e ∙ none_there t n);
}
  where
    nobody : (t : ThreadId) (x : Live) → live_of map.empty t ≡ Some x → ⊥
    nobody t x h = never (sym (ap live_in (get-empty nat_cmp t.0)) ∙ h)
      where
        never : None ≡ Some x → ⊥
        never e = cc

    none_there : (t : ThreadId) (k : ℕ) → owned_count (replicate k untouched) t ≡ 0
    none_there t k = eqb-true (owned_count (replicate k untouched) t) 0 (count-none (has_owner t) (replicate k untouched) ∙ ap not (no_owner k))
      where
        no_owner : (k : ℕ) → owns_one (replicate k untouched) t ≡ false
        no_owner zero = refl
        no_owner (suc k) = no_owner k

pub attach_sound : (v : MachineState) (t : ThreadId) → IsSound v → live_of v.threads t ≡ None
    → IsSound (record v { threads = with_live v.threads t (record { flag = false; act = Idle }) })
attach_sound v t sound none = subst IsSound (ap (λ (x : Option Live). record v { threads = with_live v.threads t (record { flag = false; act = Idle }); objects = left_by v.objects x }) none)
    (put_sound v t sound false Idle tt (λ e. absurd (cc)))

-- who was live is live, after the owner of an object has changed
pub lives_held : (v w : MachineState) (o : ObjectId) (h : Held) (t : ThreadId) → w ≡ with_held v o h → IsSome (live_of v.threads t) → IsSome (live_of w.threads t)
lives_held v w o h t e live = rw (e, live-with_held v o h t) live

-- and after another thread does something else
pub lives_put : (v w : MachineState) (u : ThreadId) (flag : Bool) (act : Doing) (t : ThreadId) → w ≡ put v u flag act → IsSome (live_of v.threads t) → IsSome (live_of w.threads t)
lives_put v w u flag act t e live = rw (e, live-with_live v.threads u (record { flag = flag; act = act }) t) (by (t.0 == u.0))
  where
    by : (b : Bool) → IsSome (if b then Some (record { flag = flag; act = act }) else live_of v.threads t)
    by true = refl
    by false = live

pub nobody_lives : (x : Option Live) → is_some x ≡ false → x ≡ None
nobody_lives None e = refl
nobody_lives (Some y) e = absurd (cc)
