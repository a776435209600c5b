-- A cycle of owners stays: no move of the machine lets one of its threads go on.
use Rattle.std.specs.Prelude.{◌≡◌, ◌⊎◌, ℕ, ◌+◌, ◌==◌, Bool, true, false, List, [], ◌∷◌, Option, Some, None, if◌then◌else◌, IfOk}
use Rattle.std.specs.List.{AllByRecursion, Contains}
use Rattle.std.proofs.Common.{refl, inl, inr, sym, ap, subst, ◌∙◌}
use Rattle.std.proofs.lemmas.Bool.{cases_eq, eq-eqb, ne_eqb}
use Rattle.std.proofs.lemmas.Option.{same_Some}
use Rattle.std.proofs.lemmas.List.Elements.{All-contains, All-from_recursion}
use Rattle.lock_word.specs.declared.ThreadId.{ThreadId}
use Rattle.lock_word.specs.declared.ObjectId.{ObjectId}
use Rattle.fat_monitor.specs.declared.actions.Cause.{Cause}
use Rattle.fat_monitor.specs.declared.actions.Cause.TheVariants as cause
use Rattle.fat_monitor.specs.declared.actions.Reply.{Reply}
use Rattle.fat_monitor.specs.declared.actions.Reply.TheVariants as reply
use Rattle.fast_path.specs.declared.calls.Call.{Call}
use Rattle.fast_path.specs.declared.calls.Call.TheVariants as call
use Rattle.step_core.specs.declared.machine.Doing.{Doing}
use Rattle.step_core.specs.declared.machine.Doing.TheVariants.{Idle, Wants, Waits, Back, Has}
use Rattle.step_core.specs.declared.machine.Move.{Move}
use Rattle.step_core.specs.declared.machine.Move.TheVariants as move
use Rattle.step_core.specs.declared.steps.Did.{Did}
use Rattle.step_core.specs.declared.steps.Request.{Request}
use Rattle.step_core.specs.declared.steps.Request.TheVariants as request
use Rattle.step_core.specs.declared.steps.Step.{Step}
use Rattle.step_core.specs.declared.steps.Step.TheVariants as step
use Rattle.step_core.specs.Machine.{State, Thread, Monitor, Steps, Run, Is, Calls, OwnedBy, Unowned, now_is, free, held, owner_only, IsAnswer, MayRefuse, after_notify_all, after_interrupt, with_interrupt}
use Rattle.step_core.specs.Cycles.{object_entered, object_wanted, wanted_by, other_than, owner_but, next, LeadsThrough, IsCycle}
use Rattle.step_core.specs.World.{WorldState}
use Rattle.step_core.specs.Shown.{shown}
use Rattle.step_core.specs.Sound.{IsSound}
use Rattle.step_core.specs.Step.{step_of, moves_made, moves_of}
use Rattle.step_core.specs.Requests.{world_then, moves_then, world_after}
use Rattle.step_core.specs.Labels.{EndsWith, HasLabels}
use Rattle.step_core.specs.Lasting.{Returns, NotReturns, NeverReturns}
use Rattle.lock_word.specs.declared.Split.{Split}
use Rattle.step_core.specs.Laws.{AreWithinLimits, reached}
use Rattle.step_core.proofs.Sound.AllSteps.{step_right}
use Rattle.step_core.proofs.Relaying.Requests.{then_right}
use Rattle.step_core.proofs.Clauses.Labels.{step_labels}
use Rattle.step_core.proofs.Clauses.Lasting.{run_split}
use Rattle.step_core.proofs.Lists.Reached.{reached_sound}

-- ---- acts that want no object

only_enters_not : (c : Call) (o : ObjectId) → owner_only c ≡ Some o → object_entered c ≡ None
only_enters_not (call.Enter p) o e = absurd (cc)
only_enters_not (call.Exit p) o e = refl
only_enters_not (call.Wait p millis nanos) o e = refl
only_enters_not (call.Notify p) o e = refl
only_enters_not (call.NotifyAll p) o e = refl
only_enters_not (call.Holds p) o e = refl
only_enters_not (call.Interrupt u) o e = refl
only_enters_not call.Interrupted o e = refl
only_enters_not (call.IsInterrupted u) o e = refl
only_enters_not call.End o e = refl

asked_enters_not : (s : State) (t : ThreadId) (c : Call) (answer : Bool) → IsAnswer s t c answer → object_entered c ≡ None
asked_enters_not s t (call.Enter p) answer h = absurd h
asked_enters_not s t (call.Exit p) answer h = refl
asked_enters_not s t (call.Wait p millis nanos) answer h = refl
asked_enters_not s t (call.Notify p) answer h = refl
asked_enters_not s t (call.NotifyAll p) answer h = refl
asked_enters_not s t (call.Holds p) answer h = refl
asked_enters_not s t (call.Interrupt u) answer h = refl
asked_enters_not s t call.Interrupted answer h = refl
asked_enters_not s t (call.IsInterrupted u) answer h = refl
asked_enters_not s t call.End answer h = refl

-- an enter is refused to the owner alone
enter_refused : (s : State) (t : ThreadId) (p : ObjectId) (x : Cause) → MayRefuse s t (call.Enter p) x → OwnedBy s p t
enter_refused s t p cause.NoMonitor h = h
enter_refused s t p cause.Memory h = h
enter_refused s t p cause.TooDeep h = h.0
enter_refused s t p cause.StillOwner h = absurd h
enter_refused s t p cause.NoThread h = absurd h

refused_owns : (s : State) (t : ThreadId) (c : Call) (x : Cause) (o : ObjectId) → MayRefuse s t c x → object_entered c ≡ Some o → OwnedBy s o t
refused_owns s t (call.Enter p) x o h e = subst (λ (q : ObjectId). OwnedBy s q t) (same_Some p o e) (enter_refused s t p x h)
refused_owns s t (call.Exit p) x o h e = absurd (cc)
refused_owns s t (call.Wait p millis nanos) x o h e = absurd (cc)
refused_owns s t (call.Notify p) x o h e = absurd (cc)
refused_owns s t (call.NotifyAll p) x o h e = absurd (cc)
refused_owns s t (call.Holds p) x o h e = absurd (cc)
refused_owns s t (call.Interrupt u) x o h e = absurd (cc)
refused_owns s t call.Interrupted x o h e = absurd (cc)
refused_owns s t (call.IsInterrupted u) x o h e = absurd (cc)
refused_owns s t call.End x o h e = absurd (cc)

-- taking all out of a wait set leaves a thread that wants an object
woken_same : (p o : ObjectId) (d : Doing) → object_wanted d ≡ Some o → after_notify_all p d ≡ d
woken_same p o Idle e = absurd (cc)
woken_same p o (Wants c) e = refl
woken_same p o (Waits q n d) e = absurd (cc)
woken_same p o (Back q n w) e = refl
woken_same p o (Has r) e = absurd (cc)

-- and so does an interrupt
stirred_same : (o : ObjectId) (d : Doing) → object_wanted d ≡ Some o → after_interrupt d ≡ d
stirred_same o Idle e = absurd (cc)
stirred_same o (Wants c) e = refl
stirred_same o (Waits q n d) e = absurd (cc)
stirred_same o (Back q n w) e = refl
stirred_same o (Has r) e = absurd (cc)

-- ---- a thread that wants an object which another owns does so still

abbrev DoesStill : State → ThreadId → Doing → Type 0
DoesStill s u d = (flag : Bool) × Is s u flag d

module _ (s : State) (u v : ThreadId) (flag : Bool) (d : Doing) (o : ObjectId) (is : Is s u flag d) (wants : object_wanted d ≡ Some o) (owned : OwnedBy s o v) (apart : v.0 ≡ u.0 → ⊥) where
  does_same : (t : ThreadId) (f : Bool) (x : Doing) → Is s t f x → u.0 ≡ t.0 → x ≡ d
  does_same t f x h same =
      ap (λ (y : Thread). y.act)
      (same_Some (record { flag = f; act = x }) (record { flag = flag; act = d }) (sym h ∙ ap (λ n. s.thread (record { 0 = n })) (sym same) ∙ is))

  -- whoever wants nothing is another thread
  others : (t : ThreadId) (f : Bool) (x : Doing) → Is s t f x → object_wanted x ≡ None → u.0 ≡ t.0 → ⊥
  others t f x h none same =
      let never : ◌≡◌ {A = Option ObjectId} (Some o) None = sym wants ∙ ap object_wanted (sym (does_same t f x h same)) ∙ none in absurd (cc)

  -- and so is whoever owns what it wants,
  owners : (t : ThreadId) (f : Bool) (x : Doing) → Is s t f x → ((p : ObjectId) → object_wanted x ≡ Some p → OwnedBy s p t) → u.0 ≡ t.0 → ⊥
  owners t f x h owns same =
      let mine : OwnedBy s o t = owns o (ap object_wanted (does_same t f x h same) ∙ wants) in
      apart (ap (λ (y : ThreadId). y.0) (same_Some v t (sym owned ∙ mine)) ∙ sym same)

  -- or wants what nobody owns.
  loose : (t : ThreadId) (f : Bool) (x : Doing) (p : ObjectId) → Is s t f x → object_wanted x ≡ Some p → Unowned s p → u.0 ≡ t.0 → ⊥
  loose t f x p h wanted_too none same =
      let here : p ≡ o = same_Some p o (sym wanted_too ∙ ap object_wanted (does_same t f x h same) ∙ wants) in
      let never : ◌≡◌ {A = Option ThreadId} None (Some v) = sym none ∙ ap (λ (q : ObjectId). (s.monitor q).owner) here ∙ owned in absurd (cc)

  kept : (t : ThreadId) (f : Bool) (x : Doing) → (u.0 ≡ t.0 → ⊥) → Is (now_is s t f x) u flag d
  kept t f x other = rw (ne_eqb u.0 t.0 other) is

  locker : (t : ThreadId) (f : Bool) (p : ObjectId) → Calls s t f (call.Enter p) → Unowned s p ⊎ OwnedBy s p t → u.0 ≡ t.0 → ⊥
  locker t f p calls (inl none) same = loose t f (Wants (call.Enter p)) p calls refl none same
  locker t f p calls (inr mine) same = owners t f (Wants (call.Enter p)) calls (λ q e. subst (λ (y : ObjectId). OwnedBy s y t) (same_Some p q e) mine) same

  returned : (t : ThreadId) (f : Bool) (r : Reply) (s' : State) → Is s t f (Has r) → s' ≡ now_is s t f Idle → DoesStill s' u d
  returned t f r s' has e = (flag, rw e (kept t f Idle (others t f (Has r) has refl)))

  pub act_stays : (m : Move) (s' : State) → Steps s m s' → DoesStill s' u d
  act_stays (move.Attach t) s' (none, e) = (flag, rw e (kept t false Idle fresh))
    where
      fresh : u.0 ≡ t.0 → ⊥
      fresh same = let never : ◌≡◌ {A = Option Thread} (Some (record { flag = flag; act = d })) None = sym is ∙ ap (λ n. s.thread (record { 0 = n })) same ∙ none in absurd (cc)
  act_stays (move.Call t c) s' (f, idle, there, e) = (flag, rw e (kept t f (Wants c) (others t f Idle idle refl)))
  act_stays (move.Return t reply.Ended) s' (f, has, e) = (flag, rw (e, ne_eqb u.0 t.0 (others t f (Has reply.Ended) has refl)) is)
  act_stays (move.Return t reply.Entered) s' (f, has, e) = returned t f reply.Entered s' has e
  act_stays (move.Return t reply.Exited) s' (f, has, e) = returned t f reply.Exited s' has e
  act_stays (move.Return t reply.WaitOver) s' (f, has, e) = returned t f reply.WaitOver s' has e
  act_stays (move.Return t reply.Interrupted) s' (f, has, e) = returned t f reply.Interrupted s' has e
  act_stays (move.Return t reply.Done) s' (f, has, e) = returned t f reply.Done s' has e
  act_stays (move.Return t reply.Notified) s' (f, has, e) = returned t f reply.Notified s' has e
  act_stays (move.Return t reply.Yes) s' (f, has, e) = returned t f reply.Yes s' has e
  act_stays (move.Return t reply.No) s' (f, has, e) = returned t f reply.No s' has e
  act_stays (move.Return t reply.IllegalMonitorState) s' (f, has, e) = returned t f reply.IllegalMonitorState s' has e
  act_stays (move.Return t reply.IllegalArgument) s' (f, has, e) = returned t f reply.IllegalArgument s' has e
  act_stays (move.Return t (reply.Refused x)) s' (f, has, e) = returned t f (reply.Refused x) s' has e
  act_stays (move.Lock t) s' (f, p, calls, may, few, e) = (flag, rw e (kept t f (Has reply.Entered) (locker t f p calls may)))
  act_stays (move.Unlock t) s' (f, p, n, calls, mine, e) = (flag, rw e (kept t f (Has reply.Exited) (others t f (Wants (call.Exit p)) calls refl)))
  act_stays (move.Illegal t) s' (f, c, p, calls, only, other, e) =
      (flag, rw e (kept t f (Has reply.IllegalMonitorState) (others t f (Wants c) calls (only_enters_not c p only))))
  act_stays (move.BadArgument t) s' (f, p, millis, nanos, calls, mine, bad, e) =
      (flag, rw e (kept t f (Has reply.IllegalArgument) (others t f (Wants (call.Wait p millis nanos)) calls refl)))
  act_stays (move.Early t) s' (p, millis, nanos, calls, mine, good, e) =
      (flag, rw e (kept t false (Has reply.Interrupted) (others t true (Wants (call.Wait p millis nanos)) calls refl)))
  act_stays (move.Wait t) s' (p, millis, nanos, calls, mine, good, e) =
      (flag, rw e (kept t false _ (others t false (Wants (call.Wait p millis nanos)) calls refl)))
  act_stays (move.Notify t (Some w)) s' (f, p, calls, mine, g, n, over, waits, e) =
      (flag, rw (e, ne_eqb u.0 w.0 (others w g (Waits p n over) waits refl)) (kept t f (Has reply.Notified) (others t f (Wants (call.Notify p)) calls refl)))
  act_stays (move.Notify t None) s' (f, p, calls, mine, nobody, e) =
      (flag, rw e (kept t f (Has reply.Notified) (others t f (Wants (call.Notify p)) calls refl)))
  act_stays (move.NotifyAll t) s' (f, p, calls, mine, e) =
      (flag, rw (e, ne_eqb u.0 t.0 (others t f (Wants (call.NotifyAll p)) calls refl), is) (ap (λ (x : Doing). Some (record { flag = flag; act = x })) (woken_same p o d wants)))
  act_stays (move.Interrupt t) s' (f, w, x, calls, live, e) = by_thread (cases_eq u.0 w.0)
    where
      caller : u.0 ≡ t.0 → ⊥
      caller = others t f (Wants (call.Interrupt w)) calls refl

      by_thread : (u.0 ≡ w.0) ⊎ (u.0 ≡ w.0 → ⊥) → DoesStill s' u d
      by_thread (inl same) =
          let one : ◌≡◌ {A = Thread} (record { flag = flag; act = d }) x = same_Some (record { flag = flag; act = d }) x (sym is ∙ ap (λ n. s.thread (record { 0 = n })) same ∙ live) in (
            true,
            rw (e, ne_eqb u.0 t.0 caller, eq-eqb u.0 w.0 same)
                (ap (λ (y : Thread). Some (with_interrupt y)) (sym one) ∙ ap (λ (y : Doing). Some (record { flag = true; act = y })) (stirred_same o d wants)),
          )
      by_thread (inr other) = (flag, rw (e, ne_eqb u.0 t.0 caller, ne_eqb u.0 w.0 other) is)
  act_stays (move.TestClear t) s' (f, calls, e) = (flag, rw e (kept t false _ (others t f (Wants call.Interrupted) calls refl)))
  act_stays (move.Expire t) s' (f, p, n, over, waits, due, e) = (flag, rw e (kept t f _ (others t f (Waits p n (Some over)) waits refl)))
  act_stays (move.Spurious t) s' (f, p, n, over, waits, e) = (flag, rw e (kept t f _ (others t f (Waits p n over) waits refl)))
  act_stays (move.Relock t) s' (f, p, n, w, back, none, e) = (flag, rw (e, ne_eqb u.0 t.0 (loose t f (Back p n w) p back refl none)) is)
  act_stays (move.Ask t) s' (f, answer, c, calls, is_answer, e) =
      (flag, rw e (kept t f _ (others t f (Wants c) calls (asked_enters_not s t c answer is_answer))))
  act_stays (move.Refuse t x) s' (f, c, calls, may, e) =
      (flag, rw e (kept t f (Has (reply.Refused x)) (owners t f (Wants c) calls (λ q wanted_too. refused_owns s t c x q may wanted_too))))
  act_stays (move.End t) s' (f, calls, owns_none, e) = (flag, rw e (kept t f (Has reply.Ended) (others t f (Wants call.End) calls refl)))
  act_stays (move.Time now) s' (later, e) = (flag, rw e is)

-- ---- a thread that wants an object owns what it owned

module _ (s : State) (v : ThreadId) (flag : Bool) (d : Doing) (o p : ObjectId) (is : Is s v flag d) (wants : object_wanted d ≡ Some p) (owned : OwnedBy s o v) where
  -- whoever wants nothing owns another object
  not_owner : (t : ThreadId) (f : Bool) (x : Doing) (q : ObjectId) → Is s t f x → object_wanted x ≡ None → OwnedBy s q t → o.0 ≡ q.0 → ⊥
  not_owner t f x q h none mine same =
      let one : v ≡ t = same_Some v t (sym owned ∙ ap (λ n. (s.monitor (record { 0 = n })).owner) same ∙ mine) in
      let acts : x ≡ d = ap (λ (y : Thread). y.act) (same_Some (record { flag = f; act = x }) (record { flag = flag; act = d }) (sym h ∙ ap s.thread (sym one) ∙ is)) in
      let never : ◌≡◌ {A = Option ObjectId} (Some p) None = sym wants ∙ ap object_wanted (sym acts) ∙ none in absurd (cc)

  other_object : (q : ObjectId) (m : Monitor) (s' : State) → s'.monitor o ≡ (if o.0 == q.0 then m else s.monitor o) → (o.0 ≡ q.0 → ⊥) → OwnedBy s' o v
  other_object q m s' e other =
      let same : s'.monitor o ≡ s.monitor o = rw (ne_eqb o.0 q.0 other) at e in ap (λ (y : Monitor). y.owner) same ∙ owned

  locked : (t : ThreadId) (q : ObjectId) (n : ℕ) (s' : State) → s'.monitor o ≡ (if o.0 == q.0 then held t n else s.monitor o) → Unowned s q ⊎ OwnedBy s q t
      → (o.0 ≡ q.0) ⊎ (o.0 ≡ q.0 → ⊥) → OwnedBy s' o v
  locked t q n s' e may (inr other) = other_object q (held t n) s' e other
  locked t q n s' e (inl none) (inl same) =
      let never : ◌≡◌ {A = Option ThreadId} None (Some v) = sym none ∙ ap (λ n. (s.monitor (record { 0 = n })).owner) (sym same) ∙ owned in absurd (cc)
  locked t q n s' e (inr mine) (inl same) =
      let now : s'.monitor o ≡ held t n = rw (eq-eqb o.0 q.0 same) at e in
      ap (λ (y : Monitor). y.owner) now ∙ sym mine ∙ ap (λ n. (s.monitor (record { 0 = n })).owner) (sym same) ∙ owned

  pub owner_stays : (m : Move) (s' : State) → Steps s m s' → OwnedBy s' o v
  owner_stays (move.Attach t) s' (none, e) = rw e owned
  owner_stays (move.Call t c) s' (f, idle, there, e) = rw e owned
  owner_stays (move.Return t reply.Ended) s' (f, has, e) = rw e owned
  owner_stays (move.Return t reply.Entered) s' (f, has, e) = rw e owned
  owner_stays (move.Return t reply.Exited) s' (f, has, e) = rw e owned
  owner_stays (move.Return t reply.WaitOver) s' (f, has, e) = rw e owned
  owner_stays (move.Return t reply.Interrupted) s' (f, has, e) = rw e owned
  owner_stays (move.Return t reply.Done) s' (f, has, e) = rw e owned
  owner_stays (move.Return t reply.Notified) s' (f, has, e) = rw e owned
  owner_stays (move.Return t reply.Yes) s' (f, has, e) = rw e owned
  owner_stays (move.Return t reply.No) s' (f, has, e) = rw e owned
  owner_stays (move.Return t reply.IllegalMonitorState) s' (f, has, e) = rw e owned
  owner_stays (move.Return t reply.IllegalArgument) s' (f, has, e) = rw e owned
  owner_stays (move.Return t (reply.Refused x)) s' (f, has, e) = rw e owned
  owner_stays (move.Lock t) s' (f, q, calls, may, few, e) = locked t q ((s.monitor q).count + 1) s' (rw e refl) may (cases_eq o.0 q.0)
  owner_stays (move.Unlock t) s' (f, q, n, calls, mine, e) =
      other_object q (if n == 0 then free else held t n) s' (rw e refl) (not_owner t f (Wants (call.Exit q)) q calls refl (ap (λ (y : Monitor). y.owner) mine))
  owner_stays (move.Illegal t) s' (f, c, q, calls, only, other, e) = rw e owned
  owner_stays (move.BadArgument t) s' (f, q, millis, nanos, calls, mine, bad, e) = rw e owned
  owner_stays (move.Early t) s' (q, millis, nanos, calls, mine, good, e) = rw e owned
  owner_stays (move.Wait t) s' (q, millis, nanos, calls, mine, good, e) =
      other_object q free s' (rw e refl) (not_owner t false (Wants (call.Wait q millis nanos)) q calls refl mine)
  owner_stays (move.Notify t (Some w)) s' (f, q, calls, mine, g, n, over, waits, e) = rw e owned
  owner_stays (move.Notify t None) s' (f, q, calls, mine, nobody, e) = rw e owned
  owner_stays (move.NotifyAll t) s' (f, q, calls, mine, e) = rw e owned
  owner_stays (move.Interrupt t) s' (f, w, x, calls, live, e) = rw e owned
  owner_stays (move.TestClear t) s' (f, calls, e) = rw e owned
  owner_stays (move.Expire t) s' (f, q, n, over, waits, due, e) = rw e owned
  owner_stays (move.Spurious t) s' (f, q, n, over, waits, e) = rw e owned
  owner_stays (move.Relock t) s' (f, q, n, w, back, none, e) = locked t q n s' (rw e refl) (inl none) (cases_eq o.0 q.0)
  owner_stays (move.Ask t) s' (f, answer, c, calls, is_answer, e) = rw e owned
  owner_stays (move.Refuse t x) s' (f, c, calls, may, e) = rw e owned
  owner_stays (move.End t) s' (f, calls, owns_none, e) = rw e owned
  owner_stays (move.Time now) s' (later, e) = rw e owned

-- ---- so the next of a thread stays

-- what it says that u is the next of t
record Behind (s : State) (t u : ThreadId) : Type 0 where
  flag : Bool
  act : Doing
  object : ObjectId
  is : Is s t flag act
  wants : object_wanted act ≡ Some object
  owned : OwnedBy s object u
  apart : u.0 ≡ t.0 → ⊥

other_parts : (t u : ThreadId) (x : Option ThreadId) → other_than t x ≡ Some u → (x ≡ Some u) × (u.0 ≡ t.0 → ⊥)
other_parts t u None e = absurd (cc)
other_parts t u (Some v) e = by_number (cases_eq v.0 t.0)
  where
    by_number : (v.0 ≡ t.0) ⊎ (v.0 ≡ t.0 → ⊥) → (◌≡◌ {A = Option ThreadId} (Some v) (Some u)) × (u.0 ≡ t.0 → ⊥)
    by_number (inl same) = let never : ◌≡◌ {A = Option ThreadId} None (Some u) = rw (eq-eqb v.0 t.0 same) at e in absurd (cc)
    by_number (inr other) =
        let found : ◌≡◌ {A = Option ThreadId} (Some v) (Some u) = rw (ne_eqb v.0 t.0 other) at e in
        (found, λ same. other (ap (λ (y : ThreadId). y.0) (same_Some v u found) ∙ same))

behind : (s : State) (t u : ThreadId) → next s t ≡ Some u → Behind s t u
behind s t u e = by_thread (s.thread t) refl e
  where
    by_object : (x : Thread) → s.thread t ≡ Some x → (o : Option ObjectId) → object_wanted x.act ≡ o → owner_but s t o ≡ Some u → Behind s t u
    by_object x there None wants e = absurd (cc)
    by_object x there (Some o) wants e =
        let parts = other_parts t u (s.monitor o).owner e in
        record { flag = x.flag; act = x.act; object = o; is = there; wants = wants; owned = parts.0; apart = parts.1 }

    by_thread : (x : Option Thread) → s.thread t ≡ x → owner_but s t (wanted_by x) ≡ Some u → Behind s t u
    by_thread None there e = absurd (cc)
    by_thread (Some x) there e = by_object x there (object_wanted x.act) refl e

next_from : (s : State) (t u : ThreadId) → Behind s t u → next s t ≡ Some u
next_from s t u b = rw (b.is, b.wants, b.owned, ne_eqb u.0 t.0 b.apart) refl

abbrev HasNext : State → ThreadId → Type 0
HasNext s t = (u : ThreadId) × (next s t ≡ Some u)

next_stays : (s s' : State) (m : Move) (t u : ThreadId) → Steps s m s' → next s t ≡ Some u → HasNext s u → next s' t ≡ Some u
next_stays s s' m t u one e more =
    let b = behind s t u e in
    let c = behind s u more.0 more.1 in
    let still = act_stays s t u b.flag b.act b.object b.is b.wants b.owned b.apart m s' one in
    next_from s' t u (record {
      flag = still.0;
      act = b.act;
      object = b.object;
      is = still.1;
      wants = b.wants;
      owned = owner_stays s u c.flag c.act b.object c.object c.is c.wants b.owned m s' one;
      apart = b.apart;
    })

-- ---- and so does a cycle

leads_first : (s : State) (t b : ThreadId) (ts : List ThreadId) → LeadsThrough (next s) t ts b → HasNext s t
leads_first s t b [] l = (b, l)
leads_first s t b (u ∷ us) l = (u, l.0)

leads_stay : (s s' : State) (m : Move) (t b : ThreadId) (ts : List ThreadId) → Steps s m s' → HasNext s b → LeadsThrough (next s) t ts b → LeadsThrough (next s') t ts b
leads_stay s s' m t b [] one more l = next_stays s s' m t b one l more
leads_stay s s' m t b (u ∷ us) one more l = (next_stays s s' m t u one l.0 (leads_first s u b us l.1), leads_stay s s' m u b us one more l.1)

pub cycle_stays : (s s' : State) (m : Move) (c : List ThreadId) → IsCycle s c → Steps s m s' → IsCycle s' c
cycle_stays s s' m [] is one = absurd is
cycle_stays s s' m (t ∷ ts) is one = (leads_stay s s' m t t ts one (leads_first s t t ts is.0) is.0, is.1, is.2)

pub cycle_lasts : (s s' : State) (ms : List Move) (c : List ThreadId) → IsCycle s c → Run s ms s' → IsCycle s' c
cycle_lasts s s' [] c is run = rw run is
cycle_lasts s s' (m ∷ ms) c is (mid, one, rest) = cycle_lasts mid s' ms c (cycle_stays s mid m c is one) rest

-- none of its threads has a reply

leads_all : (s : State) (t b : ThreadId) (ts : List ThreadId) → LeadsThrough (next s) t ts b → AllByRecursion (HasNext s) (t ∷ ts)
leads_all s t b [] l = ((b, l), tt)
leads_all s t b (u ∷ us) l = ((u, l.0), leads_all s u b us l.1)

all_wait : (s : State) (c : List ThreadId) (t : ThreadId) → IsCycle s c → Contains c t → HasNext s t
all_wait s [] t is in' = absurd is
all_wait s (u ∷ us) t is in' = All-contains (HasNext s) (u ∷ us) t (All-from_recursion (HasNext s) (u ∷ us) (leads_all s u u us is.0)) in'

waits_on_owner : (s : State) (t : ThreadId) (flag : Bool) (r : Reply) → HasNext s t → Is s t flag (Has r) → ⊥
waits_on_owner s t flag r more has =
    let never : ◌≡◌ {A = Option ThreadId} None (Some more.0) = sym (ap (λ (x : Option Thread). owner_but s t (wanted_by x)) has) ∙ more.1 in absurd (cc)

has_reply : (s s' : State) (t : ThreadId) (r : Reply) → Steps s (move.Return t r) s' → (flag : Bool) × Is s t flag (Has r)
has_reply s s' t reply.Ended (f, has, e) = (f, has)
has_reply s s' t reply.Entered (f, has, e) = (f, has)
has_reply s s' t reply.Exited (f, has, e) = (f, has)
has_reply s s' t reply.WaitOver (f, has, e) = (f, has)
has_reply s s' t reply.Interrupted (f, has, e) = (f, has)
has_reply s s' t reply.Done (f, has, e) = (f, has)
has_reply s s' t reply.Notified (f, has, e) = (f, has)
has_reply s s' t reply.Yes (f, has, e) = (f, has)
has_reply s s' t reply.No (f, has, e) = (f, has)
has_reply s s' t reply.IllegalMonitorState (f, has, e) = (f, has)
has_reply s s' t reply.IllegalArgument (f, has, e) = (f, has)
has_reply s s' t (reply.Refused x) (f, has, e) = (f, has)

pub none_returns : (s s' : State) (c : List ThreadId) (t : ThreadId) (r : Reply) → IsCycle s c → Contains c t → Steps s (move.Return t r) s' → ⊥
none_returns s s' c t r is in' one = let (f, has) = has_reply s s' t r one in waits_on_owner s t f r (all_wait s c t is in') has

-- ---- over steps of a world

pub cycle_kept : (w : WorldState) → IsSound w → (c : List ThreadId) (rs : List (Request × Bool)) → IsCycle (shown w) c → IsCycle (shown (world_after w rs)) c
cycle_kept w sound c [] is = is
cycle_kept w sound c (r ∷ rs) is =
    let right = then_right w sound r in
    cycle_kept (world_then w r) right.0 c rs (cycle_lasts (shown w) (shown (world_then w r)) (moves_then w r) c is right.1)

module _ (s s' : State) (c : List ThreadId) (u : ThreadId) (r : Reply) (is : IsCycle s c) (in' : Contains c u) where
  ends_not : (t : ThreadId) (ms : List Move) → t.0 ≡ u.0 → EndsWith t ms (Some r) → Run s ms s' → ⊥
  ends_not t ms same (inner, e, plain) run =
      let parts = run_split s inner (move.Return t r) s' (subst (λ xs. Run s xs s') e run) in
      none_returns parts.0 s' c u r (cycle_lasts s parts.0 inner c is parts.1) in' (subst (λ n. Steps parts.0 (move.Return (record { 0 = n }) r) s') same parts.2)

  step_returns_not : (did : Step) (d : Did) → HasLabels did d → Run s (moves_made d.moves) s' → Returns did d.reply u r → ⊥
  step_returns_not (step.Attach t) d h run back = back
  step_returns_not (step.Begin t x) d h run back = back
  step_returns_not (step.Go t) d h run back = ends_not t (moves_made d.moves) back.0 (subst (EndsWith t (moves_made d.moves)) back.1 h) run
  step_returns_not (step.Expire t) d h run back = back
  step_returns_not (step.Spurious t) d h run back = back
  step_returns_not (step.Tick now) d h run back = back

then_returns_not : (w : WorldState) → IsSound w → (c : List ThreadId) (u : ThreadId) (r : Reply) (q : Request × Bool) → IsCycle (shown w) c → Contains c u → NotReturns w u r q
then_returns_not w sound c u r (request.Step s, room) is in' =
    λ d e. step_returns_not (shown w) (shown (step_of room w s).after) c u r is in' s d
    (subst (λ a. IfOk a (HasLabels s)) e (step_labels w sound room s)) (subst (λ a. Run (shown w) (moves_of a) (shown (step_of room w s).after)) e (step_right w sound room s).1)
then_returns_not w sound c u r (request.Relayout split, room) is in' = tt

pub never_returns : (w : WorldState) → IsSound w → (c : List ThreadId) (u : ThreadId) (r : Reply) (qs : List (Request × Bool)) → IsCycle (shown w) c → Contains c u → NeverReturns w u r qs
never_returns w sound c u r [] is in' = tt
never_returns w sound c u r (q ∷ qs) is in' =
    (then_returns_not w sound c u r q is in', never_returns (world_then w q) (then_right w sound q).0 c u r qs (cycle_kept w sound c (q ∷ []) is) in')

module _ (lows : List ℕ) (monitors indices : ℕ) (split : Split) (steps : List (Request × Bool)) (limits : AreWithinLimits lows monitors indices split) where
  pub reached_cycle : (c : List ThreadId) (more : List (Request × Bool)) → IsCycle (shown (reached lows monitors indices split steps)) c
      → IsCycle (shown (world_after (reached lows monitors indices split steps) more)) c
  reached_cycle c more is = cycle_kept (reached lows monitors indices split steps) (reached_sound lows monitors indices split steps limits) c more is

  pub reached_silent : (c : List ThreadId) (u : ThreadId) (r : Reply) (more : List (Request × Bool)) → IsCycle (shown (reached lows monitors indices split steps)) c → Contains c u
      → NeverReturns (reached lows monitors indices split steps) u r more
  reached_silent c u r more is in' = never_returns (reached lows monitors indices split steps) (reached_sound lows monitors indices split steps limits) c u r more is in'

-- what holds of a cycle, by one move, by a run, and by a list of steps
pub ruleset cycle_laws = (cycle_stays, none_returns, cycle_lasts, reached_silent)
