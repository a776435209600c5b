-- A thread that is not live becomes live by its attach alone.
use Rattle.std.proofs.Common.{◌≡◌, ◌⊎◌, inl, inr, ℕ, Bool, true, false, ◌==◌, List, [], ◌∷◌, ◌++◌, Option, Some, None, refl, sym, ap, ◌∙◌, subst}
use Rattle.std.proofs.lemmas.Bool.{eqb-true}
use Rattle.std.proofs.lemmas.Grind.{flat_map-append}
use Rattle.std.specs.Prelude.{cond}
use Rattle.std.specs.List.{flat_map}
use Rattle.std.specs.Option.{option_map}
use Rattle.lock_word.specs.declared.ThreadId.{ThreadId}
use Rattle.fat_monitor.specs.declared.actions.Reply.TheVariants as reply
use Rattle.step_core.specs.declared.machine.Move.{Move}
use Rattle.step_core.specs.declared.machine.Move.TheVariants as move
use Rattle.step_core.specs.Machine.{State, Thread, Steps, Run, opening}
use Rattle.step_core.specs.Step.{moves_made}
use Rattle.owner_cycles.specs.Rows.{IsIn}
use Rattle.owner_cycles.proofs.Berths.{ascend_increasing}
use Rattle.owner_cycles.proofs.Positions.{in_contains, in_map}
use Rattle.owner_cycles.proofs.Walks.{contains_in, in_left, in_right}
use Rattle.pictures.specs.declared.columns.Column.{Column}
use Rattle.pictures.specs.Marks.{moves_in}
use Rattle.pictures.specs.Pictures.{all_attached, all_live, all_moves, attached, AreAllLive, AreInOrder, lane_numbers, live_number, threads_numbered}

-- ---- one move

-- a thread that is live is not the one that is not
differs : (s : State) (t u : ThreadId) (x : Thread) → s.thread t ≡ Some x → s.thread u ≡ None → (u.0 == t.0) ≡ true → ⊥
differs s t u x live dead e = no (sym live ∙ ap (λ (n : ℕ). s.thread (record { 0 = n })) (sym (eqb-true u.0 t.0 e)) ∙ dead)
  where
    no : Some x ≡ None → ⊥
    no h = cc

cond_dead : (b : Bool) (y z : Option Thread) → (b ≡ true → ⊥) → z ≡ None → cond b y z ≡ None
cond_dead true y z n e = absurd (n refl)
cond_dead false y z n e = e

-- the state with another record of t
one : (s s' : State) (t u : ThreadId) (x : Thread) (y : Option Thread) → s.thread t ≡ Some x → s'.thread u ≡ cond (u.0 == t.0) y (s.thread u) → s.thread u ≡ None
    → s'.thread u ≡ None
one s s' t u x y live e dead = e ∙ cond_dead (u.0 == t.0) y (s.thread u) (differs s t u x live dead) dead

attach_born : (s s' : State) (t u : ThreadId) → (b : Bool) → (u.0 == t.0) ≡ b → (y : Option Thread) → s'.thread u ≡ cond b y (s.thread u) → s.thread u ≡ None
    → (s'.thread u ≡ None) ⊎ IsIn u.0 (t.0 ∷ [])
attach_born s s' t u true same y e dead = inr (inl (eqb-true u.0 t.0 same))
attach_born s s' t u false same y e dead = inl (e ∙ dead)

pub seen : (s s' : State) (u : ThreadId) → s' ≡ s → s'.thread u ≡ s.thread u
seen s s' u e = ap (λ (k : State). k.thread u) e

pub born : (s s' : State) (m : Move) (u : ThreadId) → Steps s m s' → s.thread u ≡ None → (s'.thread u ≡ None) ⊎ IsIn u.0 (attached (Some m))
born s s' (move.Attach t) u p dead = attach_born s s' t u (u.0 == t.0) refl _ (seen _ _ u p.1) dead
born s s' (move.Call t c) u p dead = inl (one s s' t u _ _ p.1 (seen _ _ u p.3) dead)
born s s' (move.Return t reply.Ended) u p dead = inl (one s s' t u _ _ p.1 (seen _ _ u p.2) dead)
born s s' (move.Return t reply.Entered) u p dead = inl (one s s' t u _ _ p.1 (seen _ _ u p.2) dead)
born s s' (move.Return t reply.Exited) u p dead = inl (one s s' t u _ _ p.1 (seen _ _ u p.2) dead)
born s s' (move.Return t reply.WaitOver) u p dead = inl (one s s' t u _ _ p.1 (seen _ _ u p.2) dead)
born s s' (move.Return t reply.Interrupted) u p dead = inl (one s s' t u _ _ p.1 (seen _ _ u p.2) dead)
born s s' (move.Return t reply.Notified) u p dead = inl (one s s' t u _ _ p.1 (seen _ _ u p.2) dead)
born s s' (move.Return t reply.Yes) u p dead = inl (one s s' t u _ _ p.1 (seen _ _ u p.2) dead)
born s s' (move.Return t reply.No) u p dead = inl (one s s' t u _ _ p.1 (seen _ _ u p.2) dead)
born s s' (move.Return t reply.Done) u p dead = inl (one s s' t u _ _ p.1 (seen _ _ u p.2) dead)
born s s' (move.Return t reply.IllegalMonitorState) u p dead = inl (one s s' t u _ _ p.1 (seen _ _ u p.2) dead)
born s s' (move.Return t reply.IllegalArgument) u p dead = inl (one s s' t u _ _ p.1 (seen _ _ u p.2) dead)
born s s' (move.Return t (reply.Refused c)) u p dead = inl (one s s' t u _ _ p.1 (seen _ _ u p.2) dead)
born s s' (move.Lock t) u p dead = inl (one s s' t u _ _ p.2 (seen _ _ u p.5) dead)
born s s' (move.Unlock t) u p dead = inl (one s s' t u _ _ p.3 (seen _ _ u p.5) dead)
born s s' (move.Illegal t) u p dead = inl (one s s' t u _ _ p.3 (seen _ _ u p.6) dead)
born s s' (move.BadArgument t) u p dead = inl (one s s' t u _ _ p.4 (seen _ _ u p.7) dead)
born s s' (move.Early t) u p dead = inl (one s s' t u _ _ p.3 (seen _ _ u p.6) dead)
born s s' (move.Wait t) u p dead = inl (one s s' t u _ _ p.3 (seen _ _ u p.6) dead)
born s s' (move.Notify t (Some v)) u p dead =
    inl (seen _ _ u p.8 ∙ cond_dead (u.0 == v.0) _ _ (differs s v u _ p.7 dead) (cond_dead (u.0 == t.0) _ _ (differs s t u _ p.2 dead) dead))
born s s' (move.Notify t None) u p dead = inl (one s s' t u _ _ p.2 (seen _ _ u p.5) dead)
born s s' (move.NotifyAll t) u p dead =
    inl (seen _ _ u p.4 ∙ cond_dead (u.0 == t.0) _ _ (differs s t u _ p.2 dead) (ap (option_map _) dead))
born s s' (move.Interrupt t) u p dead =
    inl (seen _ _ u p.5 ∙ cond_dead (u.0 == t.0) _ _ (differs s t u _ p.3 dead) (cond_dead (u.0 == p.1.0) _ _ (differs s p.1 u _ p.4 dead) dead))
born s s' (move.TestClear t) u p dead = inl (one s s' t u _ _ p.1 (seen _ _ u p.2) dead)
born s s' (move.Expire t) u p dead = inl (one s s' t u _ _ p.4 (seen _ _ u p.6) dead)
born s s' (move.Spurious t) u p dead = inl (one s s' t u _ _ p.4 (seen _ _ u p.5) dead)
born s s' (move.Relock t) u p dead = inl (one s s' t u _ _ p.4 (seen _ _ u p.6) dead)
born s s' (move.Ask t) u p dead = inl (one s s' t u _ _ p.3 (seen _ _ u p.5) dead)
born s s' (move.Refuse t cause) u p dead = inl (one s s' t u _ _ p.2 (seen _ _ u p.4) dead)
born s s' (move.Time now) u p dead = inl (seen _ _ u p.1 ∙ dead)
born s s' (move.End t) u p dead = inl (one s s' t u _ _ p.1 (seen _ _ u p.3) dead)

-- ---- runs

abbrev attached_by : List Move → List ℕ
attached_by ms = flat_map (λ m. attached (Some m)) ms

-- live or not, a thread is live behind a move only where it was or is attached
by_move : (s mid : State) (m : Move) (u : ThreadId) (x y : Option Thread) → s.thread u ≡ x → mid.thread u ≡ y → Steps s m mid
    → (mid.thread u ≡ None) ⊎ (((z : Thread) × (s.thread u ≡ Some z)) ⊎ IsIn u.0 (attached (Some m)))
by_move s mid m u (Some z) y here there step = inr (inl (z, here))
by_move s mid m u None y here there step = sort (born s mid m u step here)
  where
    sort : (mid.thread u ≡ None) ⊎ IsIn u.0 (attached (Some m)) → (mid.thread u ≡ None) ⊎ (((z : Thread) × (s.thread u ≡ Some z)) ⊎ IsIn u.0 (attached (Some m)))
    sort (inl e) = inl e
    sort (inr i) = inr (inr i)

pub live_from : (ms : List Move) (s s' : State) (u : ThreadId) (x : Thread) → Run s ms s' → s'.thread u ≡ Some x
    → ((z : Thread) × (s.thread u ≡ Some z)) ⊎ IsIn u.0 (attached_by ms)
live_from [] s s' u x run live = inl (x, ap (λ (k : State). k.thread u) (sym run) ∙ live)
live_from (m ∷ ms) s s' u x run live = first (live_from ms run.0 s' u x run.2 live)
  where
    some_is : (z : Thread) → Some z ≡ None → ⊥
    some_is z e = cc

    second : (z : Thread) → run.0.thread u ≡ Some z → (run.0.thread u ≡ None) ⊎ (((w : Thread) × (s.thread u ≡ Some w)) ⊎ IsIn u.0 (attached (Some m)))
        → ((w : Thread) × (s.thread u ≡ Some w)) ⊎ IsIn u.0 (attached (Some m) ++ attached_by ms)
    second z here (inl dead) = absurd (some_is z (sym here ∙ dead))
    second z here (inr (inl was)) = inl was
    second z here (inr (inr i)) = inr (in_left u.0 (attached (Some m)) (attached_by ms) i)

    first : ((z : Thread) × (run.0.thread u ≡ Some z)) ⊎ IsIn u.0 (attached_by ms) → ((w : Thread) × (s.thread u ≡ Some w)) ⊎ IsIn u.0 (attached (Some m) ++ attached_by ms)
    first (inl z) = second z.0 z.1 (by_move s run.0 m u (s.thread u) (run.0.thread u) refl refl run.1)
    first (inr i) = inr (in_right u.0 (attached (Some m)) (attached_by ms) i)

-- ---- columns

attached_made : (ms : List (Option Move)) → attached_by (moves_made ms) ≡ flat_map attached ms
attached_made [] = refl
attached_made (None ∷ ms) = attached_made ms
attached_made (Some m ∷ ms) = ap (λ l. attached (Some m) ++ l) (attached_made ms)

pub attached_in_columns : (cs : List Column) → attached_by (all_moves cs) ≡ all_attached cs
attached_in_columns [] = refl
attached_in_columns (c ∷ cs) =
    flat_map-append (λ m. attached (Some m)) (moves_in c) (all_moves cs)
    ∙ ap (λ l. l ++ attached_by (all_moves cs)) (attached_made c.moves) ∙ ap (λ l. flat_map attached c.moves ++ l) (attached_in_columns cs)

-- ---- all live threads have lanes

live_in : (s : State) (n : ℕ) (z : Thread) (numbers : List ℕ) → s.thread (record { 0 = n }) ≡ Some z → IsIn n numbers → IsIn n (all_live s numbers)
live_in s n z [] live i = absurd i
live_in s n z (m ∷ ms) live (inl e) =
    in_left n (live_number m (s.thread (record { 0 = m }))) (all_live s ms)
    (subst (λ k. IsIn n (live_number k (s.thread (record { 0 = k })))) e (subst (λ o. IsIn n (live_number n o)) (sym live) (inl refl)))
live_in s n z (m ∷ ms) live (inr i) = in_right n (live_number m (s.thread (record { 0 = m }))) (all_live s ms) (live_in s n z ms live i)

pub all_have_lanes : (objects : ℕ) (front cs : List Column) (start end : State) (numbers : List ℕ) → AreInOrder (lane_numbers start front cs) numbers
    → Run (opening objects) (all_moves front) start → Run start (all_moves cs) end → AreAllLive end (threads_numbered numbers)
all_have_lanes objects front cs start end numbers order reached run = record {
  rising = ascend_increasing numbers order.rises;
  all = λ t live. in_map (λ (m : ℕ). record { 0 = m }) t.0 numbers
      (in_contains numbers t.0 (order.keeps t.0 (contains_in t.0 (lane_numbers start front cs) (drawn t (live_from (all_moves cs) start end t live.0 run live.1)))));
}
  where
    no : (z : Thread) → None ≡ Some z → ⊥
    no z e = cc

    earlier : (t : ThreadId) (z : Thread) → ((w : Thread) × ((opening objects).thread t ≡ Some w)) ⊎ IsIn t.0 (attached_by (all_moves front)) → IsIn t.0 (all_attached front)
    earlier t z (inl w) = absurd (no w.0 w.1)
    earlier t z (inr i) = subst (IsIn t.0) (attached_in_columns front) i

    drawn : (t : ThreadId) → ((z : Thread) × (start.thread t ≡ Some z)) ⊎ IsIn t.0 (attached_by (all_moves cs)) → IsIn t.0 (lane_numbers start front cs)
    drawn t (inl z) =
        in_left t.0 (all_live start (all_attached front)) (all_attached cs)
        (live_in start t.0 z.0 (all_attached front) z.1 (earlier t z.0 (live_from (all_moves front) (opening objects) start t z.0 reached z.1)))
    drawn t (inr i) = in_right t.0 (all_live start (all_attached front)) (all_attached cs) (subst (IsIn t.0) (attached_in_columns cs) i)
