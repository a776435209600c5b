-- What a write of one thread, or of one object, leaves of what is kept of each.
use Rattle.std.specs.Prelude.{◌≡◌, ◌⊎◌, ℕ, ◌+◌, ◌-◌, ◌<◌, ◌≤◌, ◌==◌, Bool, true, false, if◌then◌else◌, cond, MatchOption, List, [], ◌∷◌, zero, suc, length, get_or, slice_set, Option, Some, None, IsSome}
use Rattle.std.specs.FinMap as map
use Rattle.std.proofs.Common.{refl, ap, sym, ◌∙◌, inl, inr, arith, get_or-set_same, get_or-set_other}
use Rattle.std.proofs.lemmas.Bool.{cases_eq, eq-eqb, ne_eqb}
use Rattle.std.proofs.lemmas.List.{length-set}
use Rattle.lock_word.specs.declared.ThreadId.{ThreadId}
use Rattle.lock_word.specs.declared.ObjectId.{ObjectId}
use Rattle.step_core.specs.declared.machine.Doing.{Doing}
use Rattle.step_core.specs.declared.machine.Doing.TheVariants.{Idle, Wants, Waits, Back, Has}
use Rattle.step_core.specs.Machine.{waits_on, ActExists}
use Rattle.fat_monitor.proofs.PostMaps.{get-insert_by}
use Rattle.jls_check.specs.declared.threads.Live.{Live}
use Rattle.jls_check.specs.declared.threads.ThreadRecord.{ThreadRecord}
use Rattle.jls_check.specs.declared.monitors.Held.{Held}
use Rattle.jls_check.specs.declared.monitors.ObjectRecord.{ObjectRecord}
use Rattle.jls_check.specs.LiveThreads.{LiveThreads, live_in, live_of, owned_in, owned_of, with_live, with_owned_in, with_owned, owning_one_less, owning_one_more, does_wait, waiting_count}
use Rattle.jls_check.specs.Monitors.{untouched, kept_at, waiting_in, with_waiting, with_monitor_held, left, joined, HasWaiter, is_owned_by, has_owner, owned_count}
use Rattle.jls_check.proofs.Counts.{count-same, count-set}

-- ---- threads

module _ (l : LiveThreads) (t : ThreadId) where
  pub live-with_live : (x : Live) (u : ThreadId) → live_of (with_live l t x) u ≡ (if u.0 == t.0 then Some x else live_of l u)
  live-with_live x u = ap live_in (get-insert_by l t.0 (record { live = x; owned = owned_of l t }) u.0) ∙ by (u.0 == t.0)
    where
      by : (b : Bool) → live_in (if b then Some (record { live = x; owned = owned_of l t }) else map.get l u.0) ≡ (if b then Some x else live_of l u)
      by true = refl
      by false = refl

  pub owned-with_live : (x : Live) (u : ThreadId) → owned_of (with_live l t x) u ≡ owned_of l u
  owned-with_live x u = ap owned_in (get-insert_by l t.0 (record { live = x; owned = owned_of l t }) u.0) ∙ by (cases_eq u.0 t.0)
    where
      by : (u.0 ≡ t.0) ⊎ (u.0 ≡ t.0 → ⊥) → owned_in (if u.0 == t.0 then Some (record { live = x; owned = owned_of l t }) else map.get l u.0) ≡ owned_of l u
      by (inl same) = rw (eq-eqb u.0 t.0 same, same) refl
      by (inr other) = rw (ne_eqb u.0 t.0 other) refl

  module _ (n : ℕ) where
    pub live-with_owned : (u : ThreadId) → live_of (with_owned l t n) u ≡ live_of l u
    live-with_owned u = by (map.get l t.0) refl (cases_eq u.0 t.0)
      where
        by : (x : Option ThreadRecord) → map.get l t.0 ≡ x → (u.0 ≡ t.0) ⊎ (u.0 ≡ t.0 → ⊥) → live_of (with_owned_in l t n x) u ≡ live_of l u
        by None e h = refl
        by (Some r) e (inl same) = rw (get-insert_by l t.0 (record { live = r.live; owned = n }) u.0, eq-eqb u.0 t.0 same, same, e) refl
        by (Some r) e (inr other) = rw (get-insert_by l t.0 (record { live = r.live; owned = n }) u.0, ne_eqb u.0 t.0 other) refl

    pub owned-with_owned : IsSome (live_of l t) → (u : ThreadId) → owned_of (with_owned l t n) u ≡ (if u.0 == t.0 then n else owned_of l u)
    owned-with_owned live u = by (map.get l t.0) live
      where
        at : (b : Bool) (r : ThreadRecord) → owned_in (if b then Some r else map.get l u.0) ≡ (if b then r.owned else owned_of l u)
        at true r = refl
        at false r = refl

        by : (x : Option ThreadRecord) → IsSome (live_in x) → owned_of (with_owned_in l t n x) u ≡ (if u.0 == t.0 then n else owned_of l u)
        by None h = absurd (cc)
        by (Some r) h = ap owned_in (get-insert_by l t.0 (record { live = r.live; owned = n }) u.0) ∙ at (u.0 == t.0) (record { live = r.live; owned = n })

    pub waiting-with_owned : (o : ObjectId) → waiting_count (with_owned l t n) o ≡ waiting_count l o
    waiting-with_owned o = by (map.get l t.0) refl
      where
        by : (x : Option ThreadRecord) → map.get l t.0 ≡ x → waiting_count (with_owned_in l t n x) o ≡ waiting_count l o
        by None e = refl
        by (Some r) e = count-same (does_wait o) l t.0 r (record { live = r.live; owned = n }) e refl

-- a thread that is not live owns nothing
pub none_owned : (l : LiveThreads) (t : ThreadId) → live_of l t ≡ None → owned_of l t ≡ 0
none_owned l t e = by (map.get l t.0) e
  where
    by : (x : Option ThreadRecord) → live_in x ≡ None → owned_in x ≡ 0
    by None h = refl
    by (Some r) h = absurd (cc)

-- one, where this is the owner
abbrev pub mine : Option ThreadId → ThreadId → ℕ
mine a u = cond (is_owned_by a u) 1 0

module _ (l : LiveThreads) where
  pub live-owning_one_less : (a : Option ThreadId) (u : ThreadId) → live_of (owning_one_less l a) u ≡ live_of l u
  live-owning_one_less None u = refl
  live-owning_one_less (Some t) u = live-with_owned l t (owned_of l t - 1) u

  pub live-owning_one_more : (a : Option ThreadId) (u : ThreadId) → live_of (owning_one_more l a) u ≡ live_of l u
  live-owning_one_more None u = refl
  live-owning_one_more (Some t) u = live-with_owned l t (owned_of l t + 1) u

  pub waiting-owning_one_less : (a : Option ThreadId) (o : ObjectId) → waiting_count (owning_one_less l a) o ≡ waiting_count l o
  waiting-owning_one_less None o = refl
  waiting-owning_one_less (Some t) o = waiting-with_owned l t (owned_of l t - 1) o

  pub waiting-owning_one_more : (a : Option ThreadId) (o : ObjectId) → waiting_count (owning_one_more l a) o ≡ waiting_count l o
  waiting-owning_one_more None o = refl
  waiting-owning_one_more (Some t) o = waiting-with_owned l t (owned_of l t + 1) o

  -- who owns something is live
  pub owner_lives : (t : ThreadId) → 1 ≤ owned_of l t → IsSome (live_of l t)
  owner_lives t some = by (map.get l t.0) some
    where
      by : (x : Option ThreadRecord) → 1 ≤ owned_in x → IsSome (live_in x)
      by None h = absurd (omega (arith, h))
      by (Some r) h = refl

  pub owned-owning_one_less : (a : Option ThreadId) (u : ThreadId) → MatchOption a (Unit {0}) (λ t. 1 ≤ owned_of l t) → owned_of (owning_one_less l a) u + mine a u ≡ owned_of l u
  owned-owning_one_less None u h = omega arith
  owned-owning_one_less (Some t) u h = at (cases_eq u.0 t.0)
    where
      changed : owned_of (owning_one_less l (Some t)) u ≡ (if u.0 == t.0 then owned_of l t - 1 else owned_of l u)
      changed = owned-with_owned l t (owned_of l t - 1) (owner_lives t h) u

      at : (u.0 ≡ t.0) ⊎ (u.0 ≡ t.0 → ⊥) → owned_of (owning_one_less l (Some t)) u + mine (Some t) u ≡ owned_of l u
      at (inl same) =
          let less : owned_of (owning_one_less l (Some t)) u ≡ owned_of l t - 1 = rw (eq-eqb u.0 t.0 same) at changed in
          let me : mine (Some t) u ≡ 1 = ap (λ (b : Bool). cond b 1 0) (eq-eqb t.0 u.0 (sym same)) in
          let one : owned_of l u ≡ owned_of l t = ap (λ (k : ℕ). owned_in (map.get l k)) same in
          omega (arith, h)
      at (inr other) =
          let kept : owned_of (owning_one_less l (Some t)) u ≡ owned_of l u = rw (ne_eqb u.0 t.0 other) at changed in
          let me : mine (Some t) u ≡ 0 = ap (λ (b : Bool). cond b 1 0) (ne_eqb t.0 u.0 (λ e. other (sym e))) in
          omega arith

  pub owned-owning_one_more : (a : Option ThreadId) (u : ThreadId) → MatchOption a (Unit {0}) (λ t. IsSome (live_of l t)) → owned_of (owning_one_more l a) u ≡ owned_of l u + mine a u
  owned-owning_one_more None u h = omega arith
  owned-owning_one_more (Some t) u h = at (cases_eq u.0 t.0)
    where
      changed : owned_of (owning_one_more l (Some t)) u ≡ (if u.0 == t.0 then owned_of l t + 1 else owned_of l u)
      changed = owned-with_owned l t (owned_of l t + 1) h u

      at : (u.0 ≡ t.0) ⊎ (u.0 ≡ t.0 → ⊥) → owned_of (owning_one_more l (Some t)) u ≡ owned_of l u + mine (Some t) u
      at (inl same) =
          let more : owned_of (owning_one_more l (Some t)) u ≡ owned_of l t + 1 = rw (eq-eqb u.0 t.0 same) at changed in
          let me : mine (Some t) u ≡ 1 = ap (λ (b : Bool). cond b 1 0) (eq-eqb t.0 u.0 (sym same)) in
          let one : owned_of l u ≡ owned_of l t = ap (λ (k : ℕ). owned_in (map.get l k)) same in
          omega arith
      at (inr other) =
          let kept : owned_of (owning_one_more l (Some t)) u ≡ owned_of l u = rw (ne_eqb u.0 t.0 other) at changed in
          let me : mine (Some t) u ≡ 0 = ap (λ (b : Bool). cond b 1 0) (ne_eqb t.0 u.0 (λ e. other (sym e))) in
          omega arith

-- ---- objects

-- a write that keeps the monitor keeps it everywhere
held-set : (os : List ObjectRecord) (k n q : ℕ)
    → (get_or (slice_set os k (record { held = (get_or os k untouched).held; waiting = n })) q untouched).held ≡ (get_or os q untouched).held
held-set [] k n q = refl
held-set (r ∷ os) zero n zero = refl
held-set (r ∷ os) zero n (suc q) = refl
held-set (r ∷ os) (suc k) n zero = refl
held-set (r ∷ os) (suc k) n (suc q) = held-set os k n q

-- and so with the count
waiting-set : (os : List ObjectRecord) (k : ℕ) (h : Held) (q : ℕ)
    → (get_or (slice_set os k (record { held = h; waiting = (get_or os k untouched).waiting })) q untouched).waiting ≡ (get_or os q untouched).waiting
waiting-set [] k h q = refl
waiting-set (r ∷ os) zero h zero = refl
waiting-set (r ∷ os) zero h (suc q) = refl
waiting-set (r ∷ os) (suc k) h zero = refl
waiting-set (r ∷ os) (suc k) h (suc q) = waiting-set os k h q

module _ (os : List ObjectRecord) where
  pub held-with_waiting : (o : ObjectId) (n : ℕ) (p : ObjectId) → (kept_at (with_waiting os o n) p).held ≡ (kept_at os p).held
  held-with_waiting o n p = held-set os o.0 n p.0

  pub waiting-with_monitor_held : (o : ObjectId) (h : Held) (p : ObjectId) → waiting_in (with_monitor_held os o h) p ≡ waiting_in os p
  waiting-with_monitor_held o h p = waiting-set os o.0 h p.0

  pub waiting-with_waiting : (o : ObjectId) (n : ℕ) (p : ObjectId) → o.0 < length os → waiting_in (with_waiting os o n) p ≡ (if p.0 == o.0 then n else waiting_in os p)
  waiting-with_waiting o n p there = at (cases_eq p.0 o.0)
    where
      new : ObjectRecord
      new = record { held = (kept_at os o).held; waiting = n }

      at : (p.0 ≡ o.0) ⊎ (p.0 ≡ o.0 → ⊥) → waiting_in (with_waiting os o n) p ≡ (if p.0 == o.0 then n else waiting_in os p)
      at (inl same) =
          rw (eq-eqb p.0 o.0 same) (ap (λ (k : ℕ). (get_or (with_waiting os o n) k untouched).waiting) same
          ∙ ap (λ (r : ObjectRecord). r.waiting) (get_or-set_same os o.0 new untouched there))
      at (inr other) = rw (ne_eqb p.0 o.0 other) (ap (λ (r : ObjectRecord). r.waiting) (get_or-set_other os o.0 p.0 new untouched other))

  pub owned-with_waiting : (o : ObjectId) (n : ℕ) (t : ThreadId) → o.0 < length os → owned_count (with_waiting os o n) t ≡ owned_count os t
  owned-with_waiting o n t there = count-set (has_owner t) os o.0 (record { held = (kept_at os o).held; waiting = n }) untouched refl there

  pub length-left : (act : Doing) → length (left os act) ≡ length os
  length-left (Waits o n d) = length-set os o.0 (record { held = (kept_at os o).held; waiting = waiting_in os o - 1 })
  length-left Idle = refl
  length-left (Wants c) = refl
  length-left (Back o n w) = refl
  length-left (Has r) = refl

  pub length-joined : (act : Doing) → length (joined os act) ≡ length os
  length-joined (Waits o n d) = length-set os o.0 (record { held = (kept_at os o).held; waiting = waiting_in os o + 1 })
  length-joined Idle = refl
  length-joined (Wants c) = refl
  length-joined (Back o n w) = refl
  length-joined (Has r) = refl

  pub held-left : (act : Doing) (p : ObjectId) → (kept_at (left os act) p).held ≡ (kept_at os p).held
  held-left (Waits o n d) p = held-with_waiting o (waiting_in os o - 1) p
  held-left Idle p = refl
  held-left (Wants c) p = refl
  held-left (Back o n w) p = refl
  held-left (Has r) p = refl

  pub held-joined : (act : Doing) (p : ObjectId) → (kept_at (joined os act) p).held ≡ (kept_at os p).held
  held-joined (Waits o n d) p = held-with_waiting o (waiting_in os o + 1) p
  held-joined Idle p = refl
  held-joined (Wants c) p = refl
  held-joined (Back o n w) p = refl
  held-joined (Has r) p = refl

  pub owned-left : (act : Doing) (t : ThreadId) → ActExists (length os) act → owned_count (left os act) t ≡ owned_count os t
  owned-left (Waits o n d) t there = owned-with_waiting o (waiting_in os o - 1) t there
  owned-left Idle t there = refl
  owned-left (Wants c) t there = refl
  owned-left (Back o n w) t there = refl
  owned-left (Has r) t there = refl

  pub owned-joined : (act : Doing) (t : ThreadId) → ActExists (length os) act → owned_count (joined os act) t ≡ owned_count os t
  owned-joined (Waits o n d) t there = owned-with_waiting o (waiting_in os o + 1) t there
  owned-joined Idle t there = refl
  owned-joined (Wants c) t there = refl
  owned-joined (Back o n w) t there = refl
  owned-joined (Has r) t there = refl

  -- one, where this act waits on the object
  abbrev pub waits : Doing → ObjectId → ℕ
  waits act p = cond (waits_on act p) 1 0

  pub waiting-left : (act : Doing) (p : ObjectId) → ActExists (length os) act → HasWaiter os act → waiting_in (left os act) p + waits act p ≡ waiting_in os p
  waiting-left (Waits o n d) p there some = at (cases_eq p.0 o.0)
    where
      less : waiting_in (left os (Waits o n d)) p ≡ (if p.0 == o.0 then waiting_in os o - 1 else waiting_in os p)
      less = waiting-with_waiting o (waiting_in os o - 1) p there

      at : (p.0 ≡ o.0) ⊎ (p.0 ≡ o.0 → ⊥) → waiting_in (left os (Waits o n d)) p + waits (Waits o n d) p ≡ waiting_in os p
      at (inl same) =
          let it : waiting_in (left os (Waits o n d)) p ≡ waiting_in os o - 1 = rw (eq-eqb p.0 o.0 same) at less in
          let me : waits (Waits o n d) p ≡ 1 = ap (λ (b : Bool). cond b 1 0) (eq-eqb o.0 p.0 (sym same)) in
          let here : waiting_in os p ≡ waiting_in os o = ap (λ (k : ℕ). (get_or os k untouched).waiting) same in
          let more = some.1 in
          omega (arith, more)
      at (inr other) =
          let it : waiting_in (left os (Waits o n d)) p ≡ waiting_in os p = rw (ne_eqb p.0 o.0 other) at less in
          let me : waits (Waits o n d) p ≡ 0 = ap (λ (b : Bool). cond b 1 0) (ne_eqb o.0 p.0 (λ e. other (sym e))) in
          omega arith
  waiting-left Idle p there some = omega arith
  waiting-left (Wants c) p there some = omega arith
  waiting-left (Back o n w) p there some = omega arith
  waiting-left (Has r) p there some = omega arith

  pub waiting-joined : (act : Doing) (p : ObjectId) → ActExists (length os) act → waiting_in (joined os act) p ≡ waiting_in os p + waits act p
  waiting-joined (Waits o n d) p there = at (cases_eq p.0 o.0)
    where
      more : waiting_in (joined os (Waits o n d)) p ≡ (if p.0 == o.0 then waiting_in os o + 1 else waiting_in os p)
      more = waiting-with_waiting o (waiting_in os o + 1) p there

      at : (p.0 ≡ o.0) ⊎ (p.0 ≡ o.0 → ⊥) → waiting_in (joined os (Waits o n d)) p ≡ waiting_in os p + waits (Waits o n d) p
      at (inl same) =
          let it : waiting_in (joined os (Waits o n d)) p ≡ waiting_in os o + 1 = rw (eq-eqb p.0 o.0 same) at more in
          let me : waits (Waits o n d) p ≡ 1 = ap (λ (b : Bool). cond b 1 0) (eq-eqb o.0 p.0 (sym same)) in
          let here : waiting_in os p ≡ waiting_in os o = ap (λ (k : ℕ). (get_or os k untouched).waiting) same in
          omega arith
      at (inr other) =
          let it : waiting_in (joined os (Waits o n d)) p ≡ waiting_in os p = rw (ne_eqb p.0 o.0 other) at more in
          let me : waits (Waits o n d) p ≡ 0 = ap (λ (b : Bool). cond b 1 0) (ne_eqb o.0 p.0 (λ e. other (sym e))) in
          omega arith
  waiting-joined Idle p there = omega arith
  waiting-joined (Wants c) p there = omega arith
  waiting-joined (Back o n w) p there = omega arith
  waiting-joined (Has r) p there = omega arith
