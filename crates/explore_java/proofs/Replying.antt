-- The replies in the state behind some moves are those with which these return.
use native.Mathlib.Omega.{arith}
use Rattle.std.proofs.Common.{◌≡◌, ◌∙◌, ap, refl, ℕ, zero, suc, ◌-◌, ◌<◌, ◌==◌, List, [], ◌∷◌, ◌++◌, length, Option, Some, None, Bool, true, false, if◌then◌else◌}
use Rattle.std.specs.Prelude.{◌&&◌, nat_lt, slice_get, slice_set}
use Rattle.std.proofs.lemmas.Bool.{lt-ltb}
use Rattle.std.proofs.lemmas.Option.{slice_get-get_or}
use Rattle.lock_word.specs.declared.ThreadId.{ThreadId}
use Rattle.fat_monitor.specs.declared.actions.Reply.{Reply}
use Rattle.fat_monitor.specs.declared.actions.Reply.TheVariants as reply
use Rattle.step_core.specs.declared.machine.Move.{Move}
use Rattle.step_core.specs.declared.machine.Move.TheVariants as move
use Rattle.step_core.specs.Machine.{State, Steps, Thread, with_thread}
use Rattle.step_core.specs.declared.machine.Doing.TheVariants.{Has, Idle, Wants}
use Rattle.jls_check.specs.MachineState.{MachineState, state}
use Rattle.explore.specs.declared.programs.Program.{Program}
use Rattle.explore.specs.States.{thread_of}
use Rattle.explore.proofs.Parts.{ends_within}
use Rattle.explore_java.specs.JavaStates.{IsProper, JavaProgramState, attached, count_of, is_left, noted, opening, with_call, with_reply}
use Rattle.explore_java.proofs.Making.{noted_machine, opening_out}
use Rattle.explore_java.proofs.Returning.{AreReturned, call_returned, in_call, inside_returned, is_busy, next_of, opening_returned, return_returned}
use Rattle.explore_java.proofs.Playing.{IsPlay, attach_more, call_left, first_machine, reply_nexts}
use Rattle.explore_java.proofs.Leaving.{live_here}

-- after its opening nobody is in a call
attached_idle : (p : Program) (n k : ℕ) → is_busy ((state (attached (first_machine p) n)).thread (thread_of k)) ≡ false
attached_idle p zero k = ap is_busy (opening_out p (thread_of k) (omega arith))
attached_idle p (suc n) k =
    let step = attach_more p n in
    ap (λ (x : State). is_busy (x.thread (thread_of k))) step.1 ∙ by (k == n) (attached_idle p n k)
  where
    by : (b : Bool) → is_busy ((state (attached (first_machine p) n)).thread (thread_of k)) ≡ false
        → is_busy (if b then Some (record { flag = false; act = Idle }) else (state (attached (first_machine p) n)).thread (thread_of k)) ≡ false
    by true h = refl
    by false h = h

pub begin_returned : (p : Program) → AreReturned p [] (opening p)
begin_returned p = opening_returned p (attached_idle p (count_of p))

module _ (p : Program) (ms : List Move) (s : JavaProgramState) (play : IsPlay p ms s) (proper : IsProper p s) (h : AreReturned p ms s) where
  -- what stands behind the last call that a thread in a call has made
  reply_written : (t : ThreadId) (r : Reply) (v : MachineState) → t.0 < count_of p → in_call s t.0 ≡ true
      → (noted s (move.Return t r) v).replies ≡ slice_set s.replies (next_of s t.0 - 1) (Some r)
  reply_written t r v lt busy =
      let each = h.each in
      let there : slice_get s.nexts t.0 ≡ Some (next_of s t.0) = slice_get-get_or s.nexts t.0 0 (omega (arith, lt, each)) in
      let own = (h.threads t.0 lt).own busy in
      let first = own.0 in let last = own.1 in
      let long = h.long in
      let inside = ends_within p t.0 in
      let zero_less : nat_lt 0 (next_of s t.0) ≡ true = lt-ltb 0 (next_of s t.0) (omega (arith, first)) in
      let within : nat_lt (next_of s t.0 - 1) (length s.replies) ≡ true = lt-ltb (next_of s t.0 - 1) (length s.replies) (omega (arith, first, last, long, inside)) in
      ap (λ (o : Option ℕ). (with_reply (record s { machine = v }) r o).replies) there
      ∙ (λ i. (if zero_less i && within i then record (record s { machine = v }) { replies = slice_set s.replies (next_of s t.0 - 1) (Some r) } else record s { machine = v }).replies)

  return_next : (t : ThreadId) (r : Reply) (v : MachineState) → Steps (state s.machine) (move.Return t r) (state v) → AreReturned p (ms ++ move.Return t r ∷ []) (noted s (move.Return t r) v)
  return_next t r v step = by r step
    where
      shown_machine : (q : Reply) → state (noted s (move.Return t q) v).machine ≡ state v
      shown_machine q = ap state (noted_machine s (move.Return t q) v)

      go : (q : Reply) (flag : Bool) (y : Option Thread) → (state s.machine).thread t ≡ Some (record { flag = flag; act = Has q }) → is_busy y ≡ false
          → state v ≡ with_thread (state s.machine) t y → AreReturned p (ms ++ move.Return t q ∷ []) (noted s (move.Return t q) v)
      go q flag y is free shows =
          let lt = live_here p ms s play proper t _ is in
          let busy : in_call s t.0 ≡ true = ap is_busy is in
          let same = reply_nexts p ms s play q (record s { machine = v }) (slice_get s.nexts t.0) in
          return_returned p ms s h (noted s (move.Return t q) v) t q y lt busy free (shown_machine q ∙ shows) same.0 (reply_written t q v lt busy)

      by : (q : Reply) → Steps (state s.machine) (move.Return t q) (state v) → AreReturned p (ms ++ move.Return t q ∷ []) (noted s (move.Return t q) v)
      by reply.Ended g = go reply.Ended g.0 None g.1 refl g.2
      by reply.Entered g = go reply.Entered g.0 _ g.1 refl g.2
      by reply.Exited g = go reply.Exited g.0 _ g.1 refl g.2
      by reply.WaitOver g = go reply.WaitOver g.0 _ g.1 refl g.2
      by reply.Interrupted g = go reply.Interrupted g.0 _ g.1 refl g.2
      by reply.Notified g = go reply.Notified g.0 _ g.1 refl g.2
      by reply.Yes g = go reply.Yes g.0 _ g.1 refl g.2
      by reply.No g = go reply.No g.0 _ g.1 refl g.2
      by reply.Done g = go reply.Done g.0 _ g.1 refl g.2
      by reply.IllegalMonitorState g = go reply.IllegalMonitorState g.0 _ g.1 refl g.2
      by reply.IllegalArgument g = go reply.IllegalArgument g.0 _ g.1 refl g.2
      by (reply.Refused c) g = go (reply.Refused c) g.0 _ g.1 refl g.2

  pub returned_next : (m : Move) (v : MachineState) → is_left p s m ≡ true → Steps (state s.machine) m (state v) → AreReturned p (ms ++ m ∷ []) (noted s m v)
  returned_next (move.Attach t) v left step = absurd (cc)
  returned_next (move.Call t c) v left step =
      let is = call_left p s t c play.each left in
      let lt = is.within in let each = play.each in
      let there : slice_get s.nexts t.0 ≡ Some (next_of s t.0) = slice_get-get_or s.nexts t.0 0 (omega (arith, lt, each)) in
      call_returned p ms s h (noted s (move.Call t c) v) t c (record { flag = step.0; act = Wants c }) lt is.below (ap is_busy step.1) refl
      (ap state (noted_machine s (move.Call t c) v) ∙ step.3)
      (ap (λ (o : Option ℕ). (with_call (record s { machine = v }) t.0 o).nexts) there)
      (ap (λ (o : Option ℕ). (with_call (record s { machine = v }) t.0 o).replies) there)
  returned_next (move.Return t r) v left step = return_next t r v step
  returned_next m v left step = inside_returned p ms s h (noted s m v) m tt step refl refl (λ k. refl)
