-- A thread that goes from one call to the next is written as any other change of what it does.
use Rattle.std.specs.Prelude.{◌≡◌, ◌⊎◌, ◌==◌, ◌<◌, ℕ, MatchOption, Bool, true, false, if◌then◌else◌, Option, Some, None, is_some, Result, Ok, Err, List, length}
use Rattle.std.specs.FinMap as map
use Rattle.std.specs.FinMap.{same_map, nat_cmp-IsAntisymmetric}
use Rattle.std.specs.Cmp.{nat_cmp_total}
use Rattle.std.proofs.Common.{refl, ap, sym, ◌∙◌, subst, inl, inr}
use Rattle.std.proofs.lemmas.Bool.{cases_eq, eq-eqb, ne_eqb, ltb-true}
use Rattle.std.proofs.lemmas.Option.{same_Some}
use Rattle.fat_monitor.proofs.PostMaps.{get-insert_by}
use Rattle.lock_word.specs.declared.ThreadId.{ThreadId}
use Rattle.lock_word.specs.declared.ObjectId.{ObjectId}
use Rattle.fat_monitor.specs.declared.actions.Reply.{Reply}
use Rattle.fat_monitor.specs.declared.actions.Reply.TheVariants as reply
use Rattle.fast_path.specs.declared.calls.Call.{Call}
use Rattle.fast_path.specs.Calls.{object_of}
use Rattle.step_core.specs.declared.machine.Doing.{Doing}
use Rattle.step_core.specs.declared.machine.Doing.TheVariants.{Idle, Wants, Waits, Back, Has}
use Rattle.jls_check.specs.declared.faults.MoveFault.{MoveFault}
use Rattle.jls_check.specs.declared.faults.MoveFault.TheVariants.{Broken}
use Rattle.jls_check.specs.declared.threads.CallEdge.{CallEdge}
use Rattle.jls_check.specs.declared.threads.CallEdge.TheVariants.{Begins, Returns}
use Rattle.jls_check.specs.declared.threads.ThreadRecord.{ThreadRecord}
use Rattle.jls_check.specs.declared.monitors.ObjectRecord.{ObjectRecord}
use Rattle.jls_check.specs.LiveThreads.{LiveThreads, live_in, owned_in, live_of}
use Rattle.jls_check.specs.Monitors.{left, joined}
use Rattle.jls_check.specs.MachineState.{MachineState, left_by, put, IsSound}
use Rattle.step_core.specs.Machine.{Exists}
use Rattle.jls_check.specs.Taking.{AfterMove, taken, make_call, make_call_at, make_call_from, exists_below, return_with, return_at, after_return, has_reply}
use Rattle.jls_check.specs.CallEdges.{after_edge, with_act, edge_of, edge_in, crossed, crossed_in, crossed_record}
use Rattle.jls_check.proofs.Judged.{has_it}
use Rattle.jls_check.proofs.Soundness.{put_sound}

-- such a change of a thread that is in no wait set and goes into none
pub as_put : (v : MachineState) (t : ThreadId) (r : ThreadRecord) → map.get v.threads t.0 ≡ Some r → (d : Doing)
    → left v.objects r.live.act ≡ v.objects → joined v.objects d ≡ v.objects
    → record v { threads = map.insert v.threads t.0 (with_act r d) } ≡ put v t r.live.flag d
as_put v t r e d leaves joins = λ i. record v {
  threads = map.insert v.threads t.0 (record { live = record { flag = r.live.flag; act = d }; owned = owned_in (sym e i) });
  objects = objects i;
}
  where
    objects : v.objects ≡ joined (left_by v.objects (live_of v.threads t)) d
    objects = sym (ap (λ (x : Option ThreadRecord). joined (left_by v.objects (live_in x)) d) e ∙ ap (λ (os : List ObjectRecord). joined os d) leaves ∙ joins)

-- what is there already may be written once more
written_again : (l : LiveThreads) (k : ℕ) (r : ThreadRecord) → map.get l k ≡ Some r → map.insert l k r ≡ l
written_again l k r e = same_map nat_cmp_total nat_cmp-IsAntisymmetric _ _ (λ q. get-insert_by l k r q ∙ by q (cases_eq q k))
  where
    by : (q : ℕ) → (q ≡ k) ⊎ (q ≡ k → ⊥) → (if q == k then Some r else map.get l q) ≡ map.get l q
    by q (inl is) = rw (eq-eqb q k is) (sym (ap (map.get l) is ∙ e))
    by q (inr other) = rw (ne_eqb q k other) refl

refused : (v : MachineState) (t : ThreadId) (r : ThreadRecord) → map.get v.threads t.0 ≡ Some r → record v { threads = map.insert v.threads t.0 r } ≡ v
refused v t r e = λ i. record v { threads = written_again v.threads t.0 r e i }

abbrev answered : Bool → Result (Unit {0}) MoveFault
answered b = if b then Ok tt else Err Broken

abbrev after : MachineState → ThreadId → CallEdge → Option ThreadRecord → AfterMove
after v t u x = record { answer = answered (is_some (edge_in u x)); after = record v { threads = crossed_in v.threads t u x } }

module _ (v : MachineState) (t : ThreadId) where
  abbrev outcome : CallEdge → ThreadRecord → Option Doing → AfterMove
  outcome u r x = record { answer = answered (is_some x); after = record v { threads = map.insert v.threads t.0 (crossed_record r x) } }

  no_edge : (u : CallEdge) (r : ThreadRecord) → map.get v.threads t.0 ≡ Some r → after_edge u r.live.act ≡ None → after v t u (Some r) ≡ taken v None
  no_edge u r e k = ap (outcome u r) k ∙ ap (λ (w : MachineState). taken w None) (refused v t r e)

  one_edge : (u : CallEdge) (r : ThreadRecord) → map.get v.threads t.0 ≡ Some r → (d : Doing) → after_edge u r.live.act ≡ Some d
      → left v.objects r.live.act ≡ v.objects → joined v.objects d ≡ v.objects → after v t u (Some r) ≡ taken v (Some (put v t r.live.flag d))
  one_edge u r e d k leaves joins = ap (outcome u r) k ∙ ap (λ (w : MachineState). taken v (Some w)) (as_put v t r e d leaves joins)

  begun_is : (c : Call) → exists_below (length v.objects) (object_of c) ≡ true → after v t (Begins c) (map.get v.threads t.0) ≡ taken v (make_call v t c)
  begun_is c there = by (map.get v.threads t.0) refl
    where
      told : (r : ThreadRecord) (a : Doing) → r.live.act ≡ a → taken v (make_call_from v t c r.live.flag a) ≡ taken v (make_call_at v t c (Some r.live))
      told r a k = ap (λ (x : Doing). taken v (make_call_from v t c r.live.flag x)) (sym k)

      on : (r : ThreadRecord) → map.get v.threads t.0 ≡ Some r → (a : Doing) → r.live.act ≡ a
          → after v t (Begins c) (Some r) ≡ taken v (make_call_at v t c (Some r.live))
      on r e Idle k =
          one_edge (Begins c) r e (Wants c) (ap (after_edge (Begins c)) k) (ap (left v.objects) k) refl
          ∙ ap (λ (b : Bool). taken v (if b then Some (put v t r.live.flag (Wants c)) else None)) (sym there) ∙ told r Idle k
      on r e (Wants b) k = no_edge (Begins c) r e (ap (after_edge (Begins c)) k) ∙ told r (Wants b) k
      on r e (Waits o n d) k = no_edge (Begins c) r e (ap (after_edge (Begins c)) k) ∙ told r (Waits o n d) k
      on r e (Back o n w) k = no_edge (Begins c) r e (ap (after_edge (Begins c)) k) ∙ told r (Back o n w) k
      on r e (Has q) k = no_edge (Begins c) r e (ap (after_edge (Begins c)) k) ∙ told r (Has q) k

      by : (x : Option ThreadRecord) → map.get v.threads t.0 ≡ x → after v t (Begins c) x ≡ taken v (make_call_at v t c (live_in x))
      by None e = refl
      by (Some r) e = on r e r.live.act refl

  stays : (p : Reply) → (p ≡ reply.Ended → ⊥) → (flag : Bool) → after_return v t flag p ≡ put v t flag Idle
  stays reply.Ended n flag = absurd (n refl)
  stays reply.Entered n flag = refl
  stays reply.Exited n flag = refl
  stays reply.WaitOver n flag = refl
  stays reply.Interrupted n flag = refl
  stays reply.Notified n flag = refl
  stays reply.Yes n flag = refl
  stays reply.No n flag = refl
  stays reply.Done n flag = refl
  stays reply.IllegalMonitorState n flag = refl
  stays reply.IllegalArgument n flag = refl
  stays (reply.Refused why) n flag = refl

  finished_is : (q : Reply) → (q ≡ reply.Ended → ⊥) → after v t (Returns q) (map.get v.threads t.0) ≡ taken v (return_with v t q)
  finished_is q other = by (map.get v.threads t.0) refl
    where
      told : (r : ThreadRecord) (b : Bool) → has_reply r.live.act q ≡ b → taken v (if b then Some (after_return v t r.live.flag q) else None) ≡ taken v (return_at v t q (Some r.live))
      told r b k = ap (λ (x : Bool). taken v (if x then Some (after_return v t r.live.flag q) else None)) (sym k)

      on : (r : ThreadRecord) → map.get v.threads t.0 ≡ Some r → (b : Bool) → has_reply r.live.act q ≡ b
          → after v t (Returns q) (Some r) ≡ taken v (return_at v t q (Some r.live))
      on r e true k =
          one_edge (Returns q) r e Idle (ap (λ (b : Bool). if b then Some Idle else None) k) (ap (left v.objects) (has_it r.live.act q k)) refl
          ∙ ap (λ (w : MachineState). taken v (Some w)) (sym (stays q other r.live.flag)) ∙ told r true k
      on r e false k = no_edge (Returns q) r e (ap (λ (b : Bool). if b then Some Idle else None) k) ∙ told r false k

      by : (x : Option ThreadRecord) → map.get v.threads t.0 ≡ x → after v t (Returns q) x ≡ taken v (return_at v t q (live_in x))
      by None e = refl
      by (Some r) e = on r e (has_reply r.live.act q) refl

  crossed_as : (u : CallEdge) (b : Bool) (l : LiveThreads) → b ≡ is_some (edge_of v.threads t u) → l ≡ crossed v.threads t u
      → (let a : AfterMove = record { answer = answered b; after = record v { threads = l } } in a) ≡ after v t u (map.get v.threads t.0)
  crossed_as u b l p q = λ i. record { answer = answered (p i); after = record v { threads = q i } }

  -- the answer and the state then are those of the row
  pub begun_as : (c : Call) → exists_below (length v.objects) (object_of c) ≡ true → (b : Bool) (l : LiveThreads)
      → b ≡ is_some (edge_of v.threads t (Begins c)) → l ≡ crossed v.threads t (Begins c)
      → (let a : AfterMove = record { answer = answered b; after = record v { threads = l } } in a) ≡ taken v (make_call v t c)
  begun_as c there b l p q = crossed_as (Begins c) b l p q ∙ begun_is c there

  pub finished_as : (r : Reply) → (r ≡ reply.Ended → ⊥) → (b : Bool) (l : LiveThreads)
      → b ≡ is_some (edge_of v.threads t (Returns r)) → l ≡ crossed v.threads t (Returns r)
      → (let a : AfterMove = record { answer = answered b; after = record v { threads = l } } in a) ≡ taken v (return_with v t r)
  finished_as r other b l p q = crossed_as (Returns r) b l p q ∙ finished_is r other

-- the object that a call names is there
named : (n : ℕ) (c : Call) → exists_below n (object_of c) ≡ true → Exists n c
named n c e = by (object_of c) e
  where
    by : (o : Option ObjectId) → exists_below n o ≡ true → MatchOption o (Unit {0}) (λ p. p.0 < n)
    by None e = tt
    by (Some o) e = ltb-true o.0 n e

-- ---- what holds of all that a checker knows holds then

module _ (v : MachineState) (t : ThreadId) (sound : IsSound v) where
  crossed_sound : (u : CallEdge) → ((r : ThreadRecord) → map.get v.threads t.0 ≡ Some r → (d : Doing) → after_edge u r.live.act ≡ Some d → IsSound (record v { threads = map.insert v.threads t.0 (with_act r d) }))
      → IsSound (record v { threads = crossed v.threads t u })
  crossed_sound u f = by (map.get v.threads t.0) refl
    where
      on : (r : ThreadRecord) → map.get v.threads t.0 ≡ Some r → (x : Option Doing) → after_edge u r.live.act ≡ x → IsSound (record v { threads = map.insert v.threads t.0 (crossed_record r x) })
      on r e None k = subst IsSound (sym (refused v t r e)) sound
      on r e (Some d) k = f r e d k

      by : (x : Option ThreadRecord) → map.get v.threads t.0 ≡ x → IsSound (record v { threads = crossed_in v.threads t u x })
      by None e = sound
      by (Some r) e = on r e (after_edge u r.live.act) refl

  pub begun_sound_as : (c : Call) → exists_below (length v.objects) (object_of c) ≡ true → (l : LiveThreads) → l ≡ crossed v.threads t (Begins c) → IsSound (record v { threads = l })
  begun_sound_as c there l e = subst (λ (m : LiveThreads). IsSound (record v { threads = m })) (sym e) (crossed_sound (Begins c) (λ r h d k. by r h d r.live.act refl k))
    where
      by : (r : ThreadRecord) → map.get v.threads t.0 ≡ Some r → (d a : Doing) → r.live.act ≡ a → after_edge (Begins c) a ≡ Some d → IsSound (record v { threads = map.insert v.threads t.0 (with_act r d) })
      by r h d Idle q k =
          subst (λ (x : Doing). IsSound (record v { threads = map.insert v.threads t.0 (with_act r x) })) (same_Some (Wants c) d k)
          (subst IsSound (sym (as_put v t r h (Wants c) (ap (left v.objects) q) refl)) (put_sound v t sound r.live.flag (Wants c) (named (length v.objects) c there) (λ x. absurd (cc))))
      by r h d (Wants b) q k = absurd (cc)
      by r h d (Waits o n m) q k = absurd (cc)
      by r h d (Back o n w) q k = absurd (cc)
      by r h d (Has p) q k = absurd (cc)

  pub finished_sound_as : (q : Reply) → (l : LiveThreads) → l ≡ crossed v.threads t (Returns q) → IsSound (record v { threads = l })
  finished_sound_as q l e = subst (λ (m : LiveThreads). IsSound (record v { threads = m })) (sym e) (crossed_sound (Returns q) (λ r h d k. by r h d (has_reply r.live.act q) refl k))
    where
      by : (r : ThreadRecord) → map.get v.threads t.0 ≡ Some r → (d : Doing) (b : Bool) → has_reply r.live.act q ≡ b → (if b then Some Idle else None) ≡ Some d → IsSound (record v { threads = map.insert v.threads t.0 (with_act r d) })
      by r h d true has k =
          subst (λ (x : Doing). IsSound (record v { threads = map.insert v.threads t.0 (with_act r x) })) (same_Some Idle d k)
          (subst IsSound (sym (as_put v t r h Idle (ap (left v.objects) (has_it r.live.act q has)) refl)) (put_sound v t sound r.live.flag Idle tt (λ x. absurd (cc))))
      by r h d false has k = absurd (cc)
