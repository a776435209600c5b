-- What a move leaves that is made.
use native.Mathlib.Omega.{arith}
use Rattle.std.proofs.Common.{◌≡◌, ◌≤◌, ◌⊎◌, inl, inr, ◌∙◌, subst, sym, ap, refl, ℕ, zero, suc, ◌+◌, ◌<◌, ◌==◌, length, Option, Some, None, Bool, true, false, if◌then◌else◌, Result, Ok, Err}
use Rattle.std.specs.Prelude.{◌-◌, ◌&&◌, is_some, nat_lt, slice_get, slice_set}
use Rattle.std.specs.Option.{option_map}
use Rattle.std.specs.FinMap as map
use Rattle.std.specs.FinMap.{get-empty}
use Rattle.std.specs.Ordering.{nat_cmp}
use Rattle.std.proofs.lemmas.Bool.{cases_lt, ne_eqb}
use Rattle.lock_word.specs.declared.ThreadId.{ThreadId}
use Rattle.fat_monitor.specs.declared.actions.Reply.{Reply}
use Rattle.fat_monitor.specs.declared.actions.Reply.TheVariants as reply
use Rattle.step_core.specs.declared.machine.Move.{Move}
use Rattle.step_core.specs.declared.machine.Move.TheVariants as move
use Rattle.step_core.specs.Machine.{State, Steps, Thread, after_notify_all, all_notified, with_interrupt, with_reply, with_thread}
use Rattle.jls_check.specs.declared.faults.MoveFault.{MoveFault}
use Rattle.jls_check.specs.declared.faults.MoveFault.TheVariants.{Broken, Memory}
use Rattle.jls_check.specs.declared.threads.Live.{Live}
use Rattle.jls_check.specs.declared.threads.ThreadRecord.{ThreadRecord}
use Rattle.jls_check.specs.LiveThreads.{live_in, live_of}
use Rattle.jls_check.specs.MachineState.{MachineState, opening_machine, state, thread_of}
use Rattle.jls_check.specs.Numbers.{AreBelow}
use Rattle.jls_check.specs.Taking.{AfterMove, after_move, attach, attach_at, takes, taken}
use Rattle.jls_check.proofs.Judging.{attach_right}
use Rattle.explore.specs.declared.programs.Program.{Program}
use Rattle.explore.specs.States.{thread_of as thread_named}
use Rattle.explore_java.specs.JavaStates.{JavaProgramState, after, attached, count_of, is_left, noted, with_call, with_reply as reply_noted}

-- ---- a move that is left

-- no attach is left, so the answer knows of no room
left_taken : (p : Program) (s : JavaProgramState) (m : Move) (room : Bool) (v : MachineState) → is_left p s m ≡ true → after_move room v m ≡ taken v (takes v m)
left_taken p s (move.Attach t) room v e = absurd (cc)
left_taken p s (move.Call t c) room v e = refl
left_taken p s (move.Return t r) room v e = refl
left_taken p s (move.Lock t) room v e = refl
left_taken p s (move.Unlock t) room v e = refl
left_taken p s (move.Illegal t) room v e = refl
left_taken p s (move.BadArgument t) room v e = refl
left_taken p s (move.Early t) room v e = refl
left_taken p s (move.Wait t) room v e = refl
left_taken p s (move.Notify t u) room v e = refl
left_taken p s (move.NotifyAll t) room v e = refl
left_taken p s (move.Interrupt t) room v e = refl
left_taken p s (move.TestClear t) room v e = refl
left_taken p s (move.Expire t) room v e = refl
left_taken p s (move.Spurious t) room v e = refl
left_taken p s (move.Relock t) room v e = refl
left_taken p s (move.Ask t) room v e = refl
left_taken p s (move.Refuse t c) room v e = refl
left_taken p s (move.End t) room v e = refl
left_taken p s (move.Time now) room v e = refl

abbrev answered : Result (Unit {0}) MoveFault → MachineState → AfterMove
answered r w = record { answer = r; after = w }

ok_taken : (v w : MachineState) (o : Option MachineState) → answered (Ok tt) w ≡ taken v o → o ≡ Some w
ok_taken v w None e = absurd (let g = ap (λ (a : AfterMove). a.answer) e in cc)
ok_taken v w (Some x) e = ap (λ (a : AfterMove). Some a.after) (sym e)

pub made : (p : Program) (s : JavaProgramState) (m : Move) (room : Bool) (w : MachineState) → is_left p s m ≡ true
    → answered (Ok tt) w ≡ after_move room s.machine m → after p s m ≡ Some (noted s m w)
made p s m room w left e =
    let o = ok_taken s.machine w (takes s.machine m) (e ∙ left_taken p s m room s.machine left) in
    rw (left, o) refl

-- ---- only threads of the program are live

-- no thread from this number on is live
abbrev pub AreOut : ℕ → State → Type 0
AreOut n x = (t : ThreadId) → n ≤ t.0 → x.thread t ≡ None

out_below : (n : ℕ) (v : MachineState) → AreOut n (state v) → AreBelow n v
out_below n v h k le = by (map.get v.threads k) (h (record { 0 = k }) le)
  where
    by : (o : Option ThreadRecord) → option_map thread_of (live_in o) ≡ None → o ≡ None
    by None e = refl
    by (Some r) e = absurd (cc)

pub below_out : (n : ℕ) (v : MachineState) → AreBelow n v → AreOut n (state v)
below_out n v h t le = ap (λ (o : Option ThreadRecord). option_map thread_of (live_in o)) (h t.0 le)

never : {A : Type 0} (x : A) → None ≡ Some x → ⊥
never x e = cc

pub live_below : (n : ℕ) (x : State) (t : ThreadId) (y : Thread) → AreOut n x → x.thread t ≡ Some y → t.0 < n
live_below n x t y out e = by (cases_lt t.0 n)
  where
    by : (t.0 < n) ⊎ (n ≤ t.0) → t.0 < n
    by (inl lt) = lt
    by (inr le) = absurd (never y (sym (out t le) ∙ e))

out_with : (n : ℕ) (x : State) (t : ThreadId) (y : Option Thread) → t.0 < n → AreOut n x → AreOut n (with_thread x t y)
out_with n x t y lt out u le =
    let other : (u.0 == t.0) ≡ false = ne_eqb u.0 t.0 (λ same. (let s = same in absurd (omega (arith, s, lt, le)))) in
    rw other (out u le)

mapped_none : (g : Thread → Thread) (o : Option Thread) → o ≡ None → option_map g o ≡ None
mapped_none g o e = ap (option_map g) e

-- a lawful move but an attach makes no thread live
out_stays : (p : Program) (s : JavaProgramState) (n : ℕ) (x y : State) (m : Move) → is_left p s m ≡ true → AreOut n x → Steps x m y → AreOut n y
out_stays p s n x y (move.Attach t) left out h = absurd (cc)
out_stays p s n x y (move.Call t c) left out h = subst (λ (z : State). AreOut n z) (sym h.3) (out_with n x t _ (live_below n x t _ out h.1) out)
out_stays p s n x y (move.Return t r) left out h = by r h
  where
    by : (r : Reply) → Steps x (move.Return t r) y → AreOut n y
    by reply.Ended g = subst (λ (z : State). AreOut n z) (sym g.2) (out_with n x t _ (live_below n x t _ out g.1) out)
    by reply.Entered g = subst (λ (z : State). AreOut n z) (sym g.2) (out_with n x t _ (live_below n x t _ out g.1) out)
    by reply.Exited g = subst (λ (z : State). AreOut n z) (sym g.2) (out_with n x t _ (live_below n x t _ out g.1) out)
    by reply.WaitOver g = subst (λ (z : State). AreOut n z) (sym g.2) (out_with n x t _ (live_below n x t _ out g.1) out)
    by reply.Interrupted g = subst (λ (z : State). AreOut n z) (sym g.2) (out_with n x t _ (live_below n x t _ out g.1) out)
    by reply.Notified g = subst (λ (z : State). AreOut n z) (sym g.2) (out_with n x t _ (live_below n x t _ out g.1) out)
    by reply.Yes g = subst (λ (z : State). AreOut n z) (sym g.2) (out_with n x t _ (live_below n x t _ out g.1) out)
    by reply.No g = subst (λ (z : State). AreOut n z) (sym g.2) (out_with n x t _ (live_below n x t _ out g.1) out)
    by reply.Done g = subst (λ (z : State). AreOut n z) (sym g.2) (out_with n x t _ (live_below n x t _ out g.1) out)
    by reply.IllegalMonitorState g = subst (λ (z : State). AreOut n z) (sym g.2) (out_with n x t _ (live_below n x t _ out g.1) out)
    by reply.IllegalArgument g = subst (λ (z : State). AreOut n z) (sym g.2) (out_with n x t _ (live_below n x t _ out g.1) out)
    by (reply.Refused c) g = subst (λ (z : State). AreOut n z) (sym g.2) (out_with n x t _ (live_below n x t _ out g.1) out)
out_stays p s n x y (move.Lock t) left out h = subst (λ (z : State). AreOut n z) (sym h.5) (out_with n x t _ (live_below n x t _ out h.2) out)
out_stays p s n x y (move.Unlock t) left out h = subst (λ (z : State). AreOut n z) (sym h.5) (out_with n x t _ (live_below n x t _ out h.3) out)
out_stays p s n x y (move.Illegal t) left out h = subst (λ (z : State). AreOut n z) (sym h.6) (out_with n x t _ (live_below n x t _ out h.3) out)
out_stays p s n x y (move.BadArgument t) left out h = subst (λ (z : State). AreOut n z) (sym h.7) (out_with n x t _ (live_below n x t _ out h.4) out)
out_stays p s n x y (move.Early t) left out h = subst (λ (z : State). AreOut n z) (sym h.6) (out_with n x t _ (live_below n x t _ out h.3) out)
out_stays p s n x y (move.Wait t) left out h = subst (λ (z : State). AreOut n z) (sym h.6) (out_with n x t _ (live_below n x t _ out h.3) out)
out_stays p s n x y (move.Notify t (Some u)) left out h =
    subst (λ (z : State). AreOut n z) (sym h.8)
    (out_with n (with_reply x t h.0 reply.Notified) u _ (live_below n x u _ out h.7) (out_with n x t _ (live_below n x t _ out h.2) out))
out_stays p s n x y (move.Notify t None) left out h = subst (λ (z : State). AreOut n z) (sym h.5) (out_with n x t _ (live_below n x t _ out h.2) out)
out_stays p s n x y (move.NotifyAll t) left out h =
    subst (λ (z : State). AreOut n z) (sym h.4)
    (out_with n (all_notified x h.1) t _ (live_below n x t _ out h.2) (λ u le. mapped_none (λ z. record { flag = z.flag; act = after_notify_all h.1 z.act }) (x.thread u) (out u le)))
out_stays p s n x y (move.Interrupt t) left out h =
    subst (λ (z : State). AreOut n z) (sym h.5)
    (out_with n (with_thread x h.1 (Some (with_interrupt h.2))) t _ (live_below n x t _ out h.3) (out_with n x h.1 _ (live_below n x h.1 _ out h.4) out))
out_stays p s n x y (move.TestClear t) left out h = subst (λ (z : State). AreOut n z) (sym h.2) (out_with n x t _ (live_below n x t _ out h.1) out)
out_stays p s n x y (move.Expire t) left out h = subst (λ (z : State). AreOut n z) (sym h.6) (out_with n x t _ (live_below n x t _ out h.4) out)
out_stays p s n x y (move.Spurious t) left out h = subst (λ (z : State). AreOut n z) (sym h.5) (out_with n x t _ (live_below n x t _ out h.4) out)
out_stays p s n x y (move.Relock t) left out h = subst (λ (z : State). AreOut n z) (sym h.6) (out_with n x t _ (live_below n x t _ out h.4) out)
out_stays p s n x y (move.Ask t) left out h = subst (λ (z : State). AreOut n z) (sym h.5) (out_with n x t _ (live_below n x t _ out h.3) out)
out_stays p s n x y (move.Refuse t c) left out h = subst (λ (z : State). AreOut n z) (sym h.4) (out_with n x t _ (live_below n x t _ out h.2) out)
out_stays p s n x y (move.End t) left out h = subst (λ (z : State). AreOut n z) (sym h.3) (out_with n x t _ (live_below n x t _ out h.1) out)
out_stays p s n x y (move.Time now) left out h = subst (λ (z : State). AreOut n z) (sym h.1) out

pub below_stays : (p : Program) (s : JavaProgramState) (v w : MachineState) (m : Move) → is_left p s m ≡ true → AreBelow (count_of p) v
    → Steps (state v) m (state w) → AreBelow (count_of p) w
below_stays p s v w m left below h = out_below _ w (out_stays p s _ (state v) (state w) m left (below_out _ v below) h)

-- ---- where a program begins

-- an attach with an answer other than want of memory
pub attached_more : (v w o : MachineState) (n : ℕ) (room : Bool) (r : Result (Unit {0}) MoveFault) → v ≡ attached o n
    → answered r w ≡ after_move room v (move.Attach (thread_named n)) → (r ≡ Err Memory → ⊥) → w ≡ attached o (n + 1)
attached_more v w o n room r is e some = at room e ∙ subst (λ (u : MachineState). (after_move true v (move.Attach (thread_named n))).after ≡ (after_move true u (move.Attach (thread_named n))).after) is refl ∙ one
  where
    at : (room : Bool) → answered r w ≡ after_move room v (move.Attach (thread_named n)) → w ≡ (after_move true v (move.Attach (thread_named n))).after
    at true e = ap (λ (a : AfterMove). a.after) e
    at false e = by (live_of v.threads (thread_named n)) (ap (λ (a : AfterMove). a.answer) e) (ap (λ (a : AfterMove). a.after) e)
      where
        by : (x : Option Live) → r ≡ Err (if is_some x then Broken else Memory) → w ≡ v → w ≡ (taken v (attach_at v (thread_named n) x)).after
        by None answer same = absurd (some answer)
        by (Some x) answer same = same

    one : attached o (suc n) ≡ attached o (n + 1)
    one = let same : suc n ≡ n + 1 = omega arith in ap (attached o) same

pub attached_out : (o : MachineState) (n : ℕ) → AreOut 0 (state o) → AreOut n (state (attached o n))
attached_out o zero out = out
attached_out o (suc n) out = by (attach (attached o n) (thread_named n)) refl (attached_out o n out)
  where
    more : AreOut n (state (attached o n)) → AreOut (suc n) (state (attached o n))
    more h t le = h t (omega (arith, le))

    by : (x : Option MachineState) → attach (attached o n) (thread_named n) ≡ x → AreOut n (state (attached o n)) → AreOut (suc n) (state (taken (attached o n) x).after)
    by None e h = more h
    by (Some w) e h =
        let right = attach_right (attached o n) (thread_named n) w e in
        subst (λ (z : State). AreOut (suc n) z) (sym right.1) (out_with (suc n) (state (attached o n)) (thread_named n) _ (omega arith) (more h))

-- at first nobody is live
pub opening_out : (p : Program) → AreOut 0 (state (opening_machine (length p.lows.items)))
opening_out p t le = ap (λ (o : Option ThreadRecord). option_map thread_of (live_in o)) (get-empty nat_cmp t.0)

pub opening_below : (p : Program) → AreBelow (count_of p) (attached (opening_machine (length p.lows.items)) (count_of p))
opening_below p =
    out_below (count_of p) (attached (opening_machine (length p.lows.items)) (count_of p)) (attached_out (opening_machine (length p.lows.items)) (count_of p) (opening_out p))

-- a move that is noted leaves its machine
pub noted_machine : (s : JavaProgramState) (m : Move) (v : MachineState) → (noted s m v).machine ≡ v
noted_machine s (move.Attach t) v = refl
noted_machine s (move.Call t c) v = by (slice_get s.nexts t.0)
  where
    by : (o : Option ℕ) → (with_call (record s { machine = v }) t.0 o).machine ≡ v
    by None = refl
    by (Some n) = refl
noted_machine s (move.Return t r) v = by (slice_get s.nexts t.0)
  where
    by : (o : Option ℕ) → (reply_noted (record s { machine = v }) r o).machine ≡ v
    by None = refl
    by (Some n) = at (nat_lt 0 n && nat_lt (n - 1) (length s.replies))
      where
        at : (b : Bool) → (if b then record (record s { machine = v }) { replies = slice_set s.replies (n - 1) (Some r) } else record s { machine = v }).machine ≡ v
        at true = refl
        at false = refl
noted_machine s (move.Time now) v = refl
noted_machine s m v = refl
