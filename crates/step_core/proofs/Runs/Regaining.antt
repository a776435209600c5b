-- Runs of the machine in which a thread leaves its wait set, and gets its monitor at once where nobody owns it.
use Rattle.std.specs.Prelude.{◌≡◌, ℕ, Bool, true, false, if◌then◌else◌, ◌==◌, [], ◌∷◌, Option, Some}
use Rattle.std.proofs.Common.{refl, ap, sym, ◌∙◌}
use Rattle.std.proofs.Math.Path.{fun_ext}
use Rattle.std.proofs.lemmas.Bool.{ne_eqb}
use Rattle.lock_word.specs.declared.ThreadId.{ThreadId}
use Rattle.lock_word.specs.declared.ObjectId.{ObjectId}
use Rattle.fat_monitor.specs.declared.actions.Why.{Why}
use Rattle.fat_monitor.specs.declared.actions.Why.TheVariants as why
use Rattle.fat_monitor.specs.declared.actions.Reply.TheVariants as reply
use Rattle.fast_path.specs.declared.calls.Call.TheVariants as call
use Rattle.step_core.specs.declared.machine.Doing.TheVariants.{Idle, Waits, Back, Has}
use Rattle.step_core.specs.declared.machine.Move.{Move}
use Rattle.step_core.specs.declared.machine.Move.TheVariants as move
use Rattle.step_core.specs.Machine.{State, Thread, Run, Steps, held, with_monitor, Is, now_is, with_reply, Unowned, Calls, reply_of, flag_back}
use Rattle.step_core.proofs.Facts.Moves.{return_row, with_thread-with_thread, now_is-Is, now_is-other}

-- what two threads are after four writes, of which the last two count
four_writes : {A : Type 0} (b c : Bool) (x y z v a : A)
    → (if b then x else (if c then y else (if b then z else (if c then v else a)))) ≡ (if b then x else (if c then y else a))
four_writes true c x y z v a = refl
four_writes false true x y z v a = refl
four_writes false false x y z v a = refl

-- t interrupts u, which waits on an object that nobody owns
pub run_stirred : (s : State) (t u : ThreadId) (mine theirs : Bool) (o : ObjectId) (n : ℕ) (d : Option ℕ) → Calls s t mine (call.Interrupt u)
    → Is s u theirs (Waits o n d) → Unowned s o → (t.0 ≡ u.0 → ⊥)
    → Run s (move.Interrupt t ∷ move.Relock u ∷ move.Return t reply.Done ∷ []) (with_monitor (now_is (now_is s u false (Has reply.Interrupted)) t mine Idle) o (held u n))
run_stirred s t u mine theirs o n d calls waits unowned apart = (
  back,
  (mine, u, record { flag = theirs; act = Waits o n d }, calls, waits, rw (ne_eqb t.0 u.0 apart) refl),
  (
    owner,
    (
      true,
      o,
      n,
      why.Interrupted,
      now_is-other (now_is s u true (Back o n why.Interrupted)) u t mine (Has reply.Done) (λ e. apart (sym e)) ∙ now_is-Is s u true (Back o n why.Interrupted),
      unowned,
      refl,
    ),
    (
      now_is owner t mine Idle,
      return_row owner t mine reply.Done tt
          (now_is-other back t u false (Has reply.Interrupted) apart ∙ now_is-Is (now_is s u true (Back o n why.Interrupted)) t mine (Has reply.Done)),
      ap (λ (f : ThreadId → Option Thread). record (with_monitor s o (held u n)) { thread = f })
          (fun_ext (λ v. sym (four_writes (v.0 == t.0) (v.0 == u.0) (Some (record { flag = mine; act = Idle })) (Some (record { flag = false; act = Has reply.Interrupted })) (Some (record { flag = mine; act = Has reply.Done })) (Some (record { flag = true; act = Back o n why.Interrupted })) (s.thread v)))),
    ),
  ),
)
  where
    back : State
    back = with_reply (now_is s u true (Back o n why.Interrupted)) t mine reply.Done

    owner : State
    owner = with_monitor (now_is back u false (Has reply.Interrupted)) o (held u n)

-- t leaves its wait set by this move, and gets the object, which nobody owns
pub run_back_free : (s : State) (first : Move) (t : ThreadId) (flag : Bool) (o : ObjectId) (n : ℕ) (y : Why) → Steps s first (now_is s t flag (Back o n y)) → Unowned s o
    → Run s (first ∷ move.Relock t ∷ []) (with_monitor (now_is s t (flag_back y flag) (Has (reply_of y))) o (held t n))
run_back_free s first t flag o n y leaves unowned = (
  now_is s t flag (Back o n y),
  leaves,
  (
    with_monitor (now_is (now_is s t flag (Back o n y)) t (flag_back y flag) (Has (reply_of y))) o (held t n),
    (flag, o, n, y, now_is-Is s t flag (Back o n y), unowned, refl),
    ap (λ (x : State). with_monitor x o (held t n))
        (sym (with_thread-with_thread s t (Some (record { flag = flag; act = Back o n y })) (Some (record { flag = flag_back y flag; act = Has (reply_of y) })))),
  ),
)
