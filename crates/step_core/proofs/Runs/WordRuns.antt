-- Each Go on a word, and each bind, is a run of the machine on the shown states.
use Rattle.std.specs.Prelude.{T, ℤ, pos, int_le, ◌&&◌, zero, suc, ◌≡◌, ℕ, ◌+◌, ◌-◌, ◌<◌, ◌≤◌, Bool, true, false, if◌then◌else◌, ◌==◌, nat_lt, [], ◌∷◌, length, Option, Some, None, MatchOption}
use Rattle.std.proofs.Common.{arith, refl, ap, sym, ◌∙◌, subst, inl, inr, length-set}
use Rattle.std.proofs.lemmas.Option.{same_Some}
use lib.Signed.{le_z_yes}
use Rattle.std.proofs.lemmas.Bool.{and_parts, cond_both, eqb-true, eqb-false, ne_eqb, lt-ltb}
use Rattle.std.proofs.lemmas.List.{get_or_append_left}
use Rattle.lock_word.specs.declared.ThreadId.{ThreadId}
use Rattle.lock_word.specs.declared.ObjectId.{ObjectId}
use Rattle.lock_word.specs.declared.Lock.{Lock}
use Rattle.lock_word.specs.declared.Lock.TheVariants.{Free, Thin, Fat}
use Rattle.lock_word.proofs.Words.{greatest_count-bound}
use Rattle.lock_word.specs.Layout.{Fits, count_of, greatest_count}
use Rattle.thread_index.specs.Indices.{berth_of}
use Rattle.fat_monitor.specs.declared.actions.Cause.{Cause}
use Rattle.fat_monitor.specs.declared.actions.Cause.TheVariants as cause
use Rattle.fat_monitor.specs.declared.actions.Reply.{Reply}
use Rattle.fat_monitor.specs.declared.actions.Reply.TheVariants as reply
use Rattle.fat_monitor.specs.declared.monitors.Monitor as fat
use Rattle.fat_monitor.specs.declared.actions.Post.{Post}
use Rattle.fat_monitor.specs.declared.actions.Post.TheVariants.{Out, Entering, Waiting, Back, Granted}
use Rattle.fat_monitor.specs.FatState.{bound_with, unbound, monitor_at, post_of, post_at, flag_at, IsProper}
use Rattle.fat_monitor.specs.Acting.{are_good}
use Rattle.fast_path.specs.declared.calls.Call.{Call}
use Rattle.fast_path.specs.declared.calls.Call.TheVariants as call
use Rattle.fast_path.specs.declared.calls.Operation.{Operation}
use Rattle.fast_path.specs.declared.calls.Operation.TheVariants as op
use Rattle.fast_path.specs.declared.calls.MonitorCall.{MonitorCall}
use Rattle.fast_path.specs.Calls.{call_on, call_of}
use Rattle.fast_path.specs.declared.Next.{Next}
use Rattle.fast_path.specs.declared.Next.TheVariants as next
use Rattle.fast_path.specs.Table.{next_of, when_free, when_own, when_anothers}
use Rattle.fast_path.proofs.Tables.{StoresOwn}
use Rattle.step_core.specs.declared.machine.Doing.TheVariants as doing
use Rattle.step_core.specs.declared.places.Place.{Place}
use Rattle.step_core.specs.declared.places.Place.TheVariants.{Idle, InCall, Ending}
use Rattle.step_core.specs.declared.places.Stage.TheVariants.{Begun, Taking, Storing, Binding, Acting, Won, Bound, Inflated}
use Rattle.step_core.specs.declared.machine.Move.{Move}
use Rattle.step_core.specs.declared.machine.Move.TheVariants as move
use Rattle.step_core.specs.declared.steps.Atomic.{Atomic}
use Rattle.step_core.specs.declared.steps.Atomic.TheVariants as atomic
use Rattle.step_core.specs.declared.steps.Did.{Did}
use Rattle.step_core.specs.Machine.{State, Thread, Monitor, Run, free, held, Is, now_is, OwnedBy, NobodyWaits, MayRefuse, AreGood, owner_only}
use Rattle.step_core.specs.World.{WorldState, place_at, lock_at, is_own}
use Rattle.step_core.specs.Shown.{shown, monitor_of, doing_of, act_of, thread_of}
use Rattle.step_core.specs.Sound.{IsSound, MayShow, Fitting, bound_by, IsPublished}
use Rattle.step_core.specs.Did.{no_move, one_move, move_and_return, return_alone, move_for}
use Rattle.step_core.specs.Go.{with_go, place_only, fats_changed, word_written, new_word, load_of, lost_at, won_at, stored_at, after_load, after_take, after_store, after_bind, after_publish, bind_cause, after_look_as, entering}
use Rattle.step_core.specs.Step.{moves_made}
use Rattle.step_core.proofs.Facts.Moves.{run_entered, run_exited, run_illegal, run_bad, run_unnoticed, run_unnoticed_all, run_yes, run_no, run_refused, run_returned, run_lock}
use Rattle.step_core.proofs.Facts.PlaceFacts.{not_waiting, who_bound}
use Rattle.step_core.proofs.Facts.ShownStates.{does, shown_kept, ActsAlike, acts_alike, proper_at}
use Rattle.step_core.proofs.Facts.OneThread.{now_is_same, act_out, shown_stays, lock_of-new_word, stands_at, within, thin_fits, is_at, mine, other, owned, not_owned, written, shown_written, as_it_was}

-- a load found what the call may do next
abbrev LoadFact : State → ThreadId → Bool → MonitorCall → Next → Type 0
LoadFact s t flag c (next.Reply r) = Run s (move_for (call_of c) r None t ∷ move.Return t r ∷ []) (now_is s t flag doing.Idle)
LoadFact s t flag c (next.Cas l) = doing.Wants (call.Enter c.object) ≡ doing.Wants (call_of c)
LoadFact s t flag c (next.Store l) = Unit {0}
LoadFact s t flag c next.Bind = Unit {0}
LoadFact s t flag c (next.Fat m) = Unit {0}
LoadFact s t flag c next.Spin = Unit {0}

-- the call with this operation on o
abbrev at_object : ObjectId → Operation → MonitorCall
at_object o p = record { object = o; operation = p }

-- the index of a thin lock, and the object of a wait
pub thin_index : (j k m n : ℕ) → Thin (j + 1) m ≡ Thin (k + 1) n → j ≡ k
thin_index j k m n e = let same : j + 1 ≡ k + 1 = cc in omega arith

pub waits_object : (p o : ObjectId) (m n : ℕ) (c d : Option ℕ) → doing.Waits p m c ≡ doing.Waits o n d → p ≡ o
waits_object p o m n c d e = cc

-- the time of a wait is in its range where the test says so, and only there
is_true : (b : Bool) → T b → b ≡ true
is_true true h = refl
is_true false h = absurd h

pub good_time : (millis nanos : ℤ) → are_good millis nanos ≡ true → AreGood millis nanos
good_time millis nanos e =
    let p = and_parts (int_le (pos 0) millis && int_le (pos 0) nanos) (int_le nanos (pos 999999)) e in
    let q = and_parts (int_le (pos 0) millis) (int_le (pos 0) nanos) p.0 in
    (le_z_yes (subst T (sym q.0) tt), le_z_yes (subst T (sym q.1) tt), le_z_yes (subst T (sym p.1) tt))

pub not_good : (millis nanos : ℤ) → are_good millis nanos ≡ false → AreGood millis nanos → ⊥
not_good millis nanos e (a, b, c) =
    let never : true ≡ false = rw (is_true (int_le (pos 0) millis) a.le, is_true (int_le (pos 0) nanos) b.le, is_true (int_le nanos (pos 999999)) c.le) at e in absurd (cc)

module _ (w : WorldState) (sound : IsSound w) (k : ℕ) (t : ThreadId) (berth : berth_of w.berths t ≡ Some k) (out : post_of w.fats t ≡ Some Out) where
  -- nothing is shown of this Go
  pub quiet : (p p' : Place) (a : Atomic) → place_at w k ≡ p → doing_of p' ≡ doing_of p
      → Run (shown w) [] (shown (with_go w k (place_only w p' (no_move a))))
  quiet p p' a e same =
      shown_stays w sound k t berth p' (no_move a) out ∙ (rw same (now_is_same (shown w) t (flag_at w.fats t) (doing_of p) (is_at w sound k t berth p e out)))

  -- a reply by this move that changes no monitor
  pub told : (a : Atomic) (m : Move) (r : Reply) → Run (shown w) (m ∷ move.Return t r ∷ []) (now_is (shown w) t (flag_at w.fats t) doing.Idle)
      → Run (shown w) (moves_made (move_and_return a m t r).moves) (shown (with_go w k (place_only w Idle (move_and_return a m t r))))
  told a m r run =
      subst (λ (s : State). Run (shown w) (m ∷ move.Return t r ∷ []) s) (sym (shown_stays w sound k t berth Idle (move_and_return a m t r) out)) run

  -- the owner of a thin word of one's own
  owned_by : (o : ObjectId) (n : ℕ) → lock_at w o.0 ≡ Thin (k + 1) n → OwnedBy (shown w) o t
  owned_by o n e = owned w sound k t berth o (Thin (k + 1) n) e (ap (λ (m : Monitor). m.owner) (mine w sound k t berth n))

  -- nobody waits on an object whose word is one's own thin one: who waits, waits on a monitor that its
  -- object shows, or that its binder is to store
  unbound_here : (o : ObjectId) (n m : ℕ) → lock_at w o.0 ≡ Thin (k + 1) n → bound_by (place_at w k) ≡ None → (monitor_at w.fats m).object ≡ o
      → IsPublished w m → ⊥
  unbound_here o n m e none same (inl fat) =
      let never : Fat m ≡ Thin (k + 1) n = sym (rw same at fat) ∙ e in absurd (cc)
  unbound_here o n m e none same (inr (j, there, bound)) =
      let b = who_bound (place_at w j) m bound in
      let fit : Fitting w j (InCall (Bound b.0 b.1 m)) = subst (λ (x : Place). Fitting w j x) b.2 (sound.places j there) in
      let object : b.0.object ≡ o = sym (ap (λ (x : fat.Monitor). x.object) fit.2.2) ∙ same in
      let index : Thin (j + 1) fit.2.0 ≡ Thin (k + 1) n = sym fit.2.1 ∙ ap (λ (x : ObjectId). lock_at w x.0) object ∙ e in
      let berth_same : j ≡ k = thin_index j k fit.2.0 n index in
      let never : None ≡ Some m = sym none ∙ ap (λ (x : ℕ). bound_by (place_at w x)) (sym berth_same) ∙ bound in absurd (cc)

  nobody_waits : (o : ObjectId) (n : ℕ) → lock_at w o.0 ≡ Thin (k + 1) n → bound_by (place_at w k) ≡ None → NobodyWaits (shown w) o
  nobody_waits o n e none u flag x d is = by_berth (berth_of w.berths u) is
    where
      by_post : (p : Post) (q : Place) → IsProper w.fats p → act_of w.fats p q ≡ doing.Waits o x d → ⊥
      by_post Out q h same = not_waiting q same
      by_post (Entering m) q h same = absurd (cc)
      by_post (Waiting m y z) q h same = unbound_here o n m e none (waits_object (monitor_at w.fats m).object o y x z d same) (sound.published m h.0)
      by_post (Back m y r) q h same = absurd (cc)
      by_post (Granted r) q h same = absurd (cc)

      by_berth : (s : Option ℕ) → thread_of w u s ≡ Some (record { flag = flag; act = doing.Waits o x d }) → ⊥
      by_berth None same = absurd (cc)
      by_berth (Some j) same =
          by_post (post_at w.fats u) (place_at w j) (proper_at w.fats u sound.fats) (ap (λ (y : Thread). y.act) (same_Some _ _ same))

  -- an owner of a thin word: its notify finds nobody, since who waits on an object waits on its fat monitor
  own_facts : (o : ObjectId) (p : Operation) (n : ℕ) → Is (shown w) t (flag_at w.fats t) (doing.Wants (call_on o p)) → lock_at w o.0 ≡ Thin (k + 1) n
      → bound_by (place_at w k) ≡ None → LoadFact (shown w) t (flag_at w.fats t) (at_object o p) (when_own w.split p (k + 1) n)
  own_facts o op.Enter n is e none = cond_both (nat_lt n (greatest_count w.split)) _ _ (LoadFact (shown w) t (flag_at w.fats t) (at_object o op.Enter)) (λ _. tt) (λ _. tt)
  own_facts o op.Exit n is e none = cond_both (nat_lt 0 n) _ _ (LoadFact (shown w) t (flag_at w.fats t) (at_object o op.Exit)) (λ _. tt) (λ _. tt)
  own_facts o (op.Wait millis nanos) n is e none =
      cond_both (are_good millis nanos) next.Bind (next.Reply reply.IllegalArgument) (LoadFact (shown w) t (flag_at w.fats t) (at_object o (op.Wait millis nanos))) (λ _. tt)
      (λ bad. run_bad (shown w) t (flag_at w.fats t) o millis nanos is (owned_by o n e) (not_good millis nanos bad))
  own_facts o op.Notify n is e none = run_unnoticed (shown w) t (flag_at w.fats t) o is (owned_by o n e) (nobody_waits o n e none)
  own_facts o op.NotifyAll n is e none = run_unnoticed_all (shown w) t (flag_at w.fats t) o is (owned_by o n e) (nobody_waits o n e none)
  own_facts o op.Holds n is e none = run_yes (shown w) t (flag_at w.fats t) o is (owned_by o n e)

  -- a thread that is not the owner
  module _ (o : ObjectId) (other : OwnedBy (shown w) o t → ⊥) where
    illegal : (c : Call) → owner_only c ≡ Some o → Is (shown w) t (flag_at w.fats t) (doing.Wants c)
        → Run (shown w) (move.Illegal t ∷ move.Return t reply.IllegalMonitorState ∷ []) (now_is (shown w) t (flag_at w.fats t) doing.Idle)
    illegal c only is = run_illegal (shown w) t (flag_at w.fats t) c o only is other

    free_facts : (p : Operation) → Is (shown w) t (flag_at w.fats t) (doing.Wants (call_on o p)) → LoadFact (shown w) t (flag_at w.fats t) (at_object o p) (when_free p (k + 1))
    free_facts op.Enter is = refl
    free_facts op.Exit is = illegal (call.Exit o) refl is
    free_facts (op.Wait millis nanos) is = illegal (call.Wait o millis nanos) refl is
    free_facts op.Notify is = illegal (call.Notify o) refl is
    free_facts op.NotifyAll is = illegal (call.NotifyAll o) refl is
    free_facts op.Holds is = run_no (shown w) t (flag_at w.fats t) o is other

    anothers_facts : (p : Operation) → Is (shown w) t (flag_at w.fats t) (doing.Wants (call_on o p)) → LoadFact (shown w) t (flag_at w.fats t) (at_object o p) (when_anothers p)
    anothers_facts op.Enter is = tt
    anothers_facts op.Exit is = illegal (call.Exit o) refl is
    anothers_facts (op.Wait millis nanos) is = illegal (call.Wait o millis nanos) refl is
    anothers_facts op.Notify is = illegal (call.Notify o) refl is
    anothers_facts op.NotifyAll is = illegal (call.NotifyAll o) refl is
    anothers_facts op.Holds is = run_no (shown w) t (flag_at w.fats t) o is other

  pub load_facts : (c : MonitorCall) (l : Lock) → Is (shown w) t (flag_at w.fats t) (doing.Wants (call_of c)) → lock_at w c.object.0 ≡ l → MayShow w c.object.0 l → bound_by (place_at w k) ≡ None
      → LoadFact (shown w) t (flag_at w.fats t) c (next_of w.split c.operation l (k + 1))
  load_facts c Free is e stands none = free_facts c.object (not_owned w sound k t berth c.object Free e (λ h. cc)) c.operation is
  load_facts c (Thin i n) is e stands none =
      cond_both (i == k + 1) (when_own w.split c.operation (k + 1) n) (when_anothers c.operation) (LoadFact (shown w) t (flag_at w.fats t) c)
      (λ same. own_facts c.object c.operation n is (e ∙ ap (λ (j : ℕ). Thin j n) (eqb-true i (k + 1) same)) none)
      (λ ne. anothers_facts c.object (not_owned w sound k t berth c.object (Thin i n) e (other w sound k t berth i n (eqb-false i (k + 1) ne) stands.0)) c.operation is)
  load_facts c (Fat m) is e stands none = tt

  pub load_run : (c : MonitorCall) (contended : Bool) (n : Next) → place_at w k ≡ InCall (Begun c contended) → LoadFact (shown w) t (flag_at w.fats t) c n
      → Run (shown w) (moves_made (after_load w t c contended n).did.moves) (shown (with_go w k (after_load w t c contended n)))
  load_run c b (next.Reply r) e fact = told (load_of w c.object) (move_for (call_of c) r None t) r fact
  load_run c b (next.Cas l) e fact = quiet (InCall (Begun c b)) (InCall (Taking c.object b)) (load_of w c.object) e fact
  load_run c b (next.Store l) e fact = quiet (InCall (Begun c b)) (InCall (Storing c l)) (load_of w c.object) e refl
  load_run c b next.Bind e fact = quiet (InCall (Begun c b)) (InCall (Binding c (count_of (lock_at w c.object.0)))) (load_of w c.object) e refl
  load_run c b (next.Fat m) e fact = quiet (InCall (Begun c b)) (InCall (Acting c m)) (load_of w c.object) e refl
  load_run c b next.Spin e fact = quiet (InCall (Begun c b)) (InCall (Begun c true)) (load_of w c.object) e refl

  pub take_run : (o : ObjectId) (contended : Bool) (l : Lock) → place_at w k ≡ InCall (Taking o contended) → o.0 < length w.words → lock_at w o.0 ≡ l
      → Run (shown w) (moves_made (after_take w k t o contended l).did.moves) (shown (with_go w k (after_take w k t o contended l)))
  take_run o true Free e h el =
      subst (λ (s : State). Run (shown w) (move.Lock t ∷ []) s)
      (sym (shown_written w sound k t berth o (Thin (k + 1) 0) (held t 1) (InCall (Won o)) (one_move (won_at w o (Thin (k + 1) 0)) (move.Lock t)) out h (thin_fits w sound k t berth 0 (omega arith)) (mine w sound k t berth 0)))
      (run_lock (shown w) t (flag_at w.fats t) o 0 (is_at w sound k t berth (InCall (Taking o true)) e out) (inl (rw el refl)) (rw el refl) (omega arith))
  take_run o false Free e h el =
      subst (λ (s : State). Run (shown w) (move.Lock t ∷ move.Return t reply.Entered ∷ []) s)
      (sym (shown_written w sound k t berth o (Thin (k + 1) 0) (held t 1) Idle (move_and_return (won_at w o (Thin (k + 1) 0)) (move.Lock t) t reply.Entered) out h (thin_fits w sound k t berth 0 (omega arith)) (mine w sound k t berth 0)))
      (run_entered (shown w) t (flag_at w.fats t) o 0 (is_at w sound k t berth (InCall (Taking o false)) e out) (inl (rw el refl)) (rw el refl) (omega arith))
  take_run o b (Thin i c) e h el = quiet (InCall (Taking o b)) (InCall (Begun (entering o) true)) (lost_at w o) e refl
  take_run o b (Fat m) e h el = quiet (InCall (Taking o b)) (InCall (Begun (entering o) true)) (lost_at w o) e refl

  pub store_run : (c : MonitorCall) (l : Lock) → place_at w k ≡ InCall (Storing c l) → c.object.0 < length w.words
      → StoresOwn w.split (k + 1) (lock_at w c.object.0) l c.operation
      → Run (shown w) (moves_made (after_store w t c l).did.moves) (shown (with_go w k (after_store w t c l)))
  store_run c l e h fact = by_operation c.object c.operation e h fact
    where
      less : (n : ℕ) → monitor_of w (if nat_lt 0 n then Thin (k + 1) (n - 1) else Free) ≡ (if n == 0 then free else held t n)
      less zero = refl
      less (suc m) =
          let above : nat_lt 0 (suc m) ≡ true = lt-ltb 0 (suc m) (omega arith) in
          let held_still : (suc m == 0) ≡ false = ne_eqb (suc m) 0 (λ z. absurd (omega arith)) in
          let n : suc m - 1 + 1 ≡ suc m = omega arith in
          rw (above, held_still) (mine w sound k t berth (suc m - 1) ∙ ap (λ (j : ℕ). held t j) n)

      less_fits : (n : ℕ) → n ≤ greatest_count w.split → Fits w.split (if nat_lt 0 n then Thin (k + 1) (n - 1) else Free)
      less_fits zero b = tt
      less_fits (suc m) b = rw (lt-ltb 0 (suc m) (omega arith)) (thin_fits w sound k t berth (suc m - 1) (omega arith))

      by_operation : (o : ObjectId) (p : Operation) → place_at w k ≡ InCall (Storing (at_object o p) l) → o.0 < length w.words
          → StoresOwn w.split (k + 1) (lock_at w o.0) l p
          → Run (shown w) (moves_made (after_store w t (at_object o p) l).did.moves) (shown (with_go w k (after_store w t (at_object o p) l)))
      by_operation o op.Enter e h (n, old, few, new) =
          subst (λ (s : State). Run (shown w) (move.Lock t ∷ move.Return t reply.Entered ∷ []) s)
          (sym (shown_written w sound k t berth o l (held t (n + 1 + 1)) Idle (move_and_return (stored_at w o l) (move.Lock t) t reply.Entered) out h (rw new (thin_fits w sound k t berth (n + 1) (omega arith))) (rw new (mine w sound k t berth (n + 1)))))
          (run_entered (shown w) t (flag_at w.fats t) o (n + 1) (is_at w sound k t berth (InCall (Storing (at_object o op.Enter) l)) e out)
          (inr (owned w sound k t berth o (Thin (k + 1) n) old (ap (λ (m : Monitor). m.owner) (mine w sound k t berth n)))) (rw old refl) (let most = greatest_count-bound w.split in omega arith))
      by_operation o op.Exit e h (n, old, new) =
          subst (λ (s : State). Run (shown w) (move.Unlock t ∷ move.Return t reply.Exited ∷ []) s)
          (sym (shown_written w sound k t berth o l (if n == 0 then free else held t n) Idle (move_and_return (stored_at w o l) (move.Unlock t) t reply.Exited) out h (rw new (less_fits n (rw old at (stands_at w sound o.0)).2)) (rw new (less n))))
          (run_exited (shown w) t (flag_at w.fats t) o n (is_at w sound k t berth (InCall (Storing (at_object o op.Exit) l)) e out) (rw old (mine w sound k t berth n)))
      by_operation o (op.Wait millis nanos) e h fact = absurd fact
      by_operation o op.Notify e h fact = absurd fact
      by_operation o op.NotifyAll e h fact = absurd fact
      by_operation o op.Holds e h fact = absurd fact

  pub publish_run : (c : MonitorCall) (won : Bool) (m : ℕ) → place_at w k ≡ InCall (Bound c won m) → Fitting w k (InCall (Bound c won m))
      → m ≤ 8388607
      → Run (shown w) (moves_made (after_publish w t c won m).did.moves) (shown (with_go w k (after_publish w t c won m)))
  publish_run c won m e fit few = by_win won e fit
    where
      -- the monitor holds what the word held
      same : (won : Bool) → Fitting w k (InCall (Bound c won m)) → monitor_of w (Fat m) ≡ monitor_of w (lock_at w c.object.0)
      same won fit = let n : k + 1 - 1 ≡ k = omega arith in rw (fit.2.1, fit.2.2, n) refl

      kept : (won : Bool) (p : Place) (d : Did) → Fitting w k (InCall (Bound c won m))
          → shown (with_go w k (word_written w c.object (new_word w c.object (Fat m)) p d)) ≡ now_is (shown w) t (flag_at w.fats t) (doing_of p)
      kept won p d fit = shown_kept w k t (word_written w c.object (new_word w c.object (Fat m)) p d) (flag_at w.fats t) (doing_of p) berth (within w sound k t berth) (length-set w.words c.object.0 (new_word w c.object (Fat m))) refl
          (ap (does (flag_at w.fats t)) (act_out w.fats t p out)) (λ u ne x. refl)
          (λ q. written w sound k t berth c.object (new_word w c.object (Fat m)) p d (Fat m) fit.0 (lock_of-new_word w c.object (Fat m) few) q
          ∙ as_it_was w sound k t berth c.object (monitor_of w (Fat m)) (same won fit) q)

      by_win : (won : Bool) → place_at w k ≡ InCall (Bound c won m) → Fitting w k (InCall (Bound c won m))
          → Run (shown w) (moves_made (after_publish w t c won m).did.moves) (shown (with_go w k (after_publish w t c won m)))
      by_win true e fit = subst (λ (s : State). Run (shown w) (move.Return t reply.Entered ∷ []) s)
          (sym (kept true Idle (return_alone (stored_at w c.object (Fat m)) t reply.Entered) fit))
          (run_returned (shown w) t (flag_at w.fats t) reply.Entered tt (is_at w sound k t berth (InCall (Bound c true m)) e out))
      by_win false e fit = kept false (InCall (Inflated c m)) (no_move (stored_at w c.object (Fat m))) fit ∙ now_is_same (shown w) t (flag_at w.fats t) (doing.Wants (call_of c)) (is_at w sound k t berth (InCall (Bound c false m)) e out)

  -- a new monitor is shown by no word
  after_bound : (o : ObjectId) (n : ℕ) (p : Place) (d : Did) (l : Lock) (q : ℕ) → MayShow w q l
      → monitor_of (with_go w k (fats_changed w (bound_with w.fats o t n) p d)) l ≡ monitor_of w l
  after_bound o n p d Free q st = refl
  after_bound o n p d (Thin i c) q st = refl
  after_bound o n p d (Fat m) q st = rw (get_or_append_left w.fats.monitors (record { object = o; owner = Some t; holds = n } ∷ []) unbound m st.0) refl

  -- what a bind that is refused tells
  refused_run : (c : MonitorCall) (x : Cause) → Is (shown w) t (flag_at w.fats t) (doing.Wants (call_of c)) → MayRefuse (shown w) t (call_of c) x
      → Run (shown w) (moves_made (move_and_return (atomic.NotBound c.object x) (move.Refuse t x) t (reply.Refused x)).moves)
      (shown (with_go w k (place_only w Idle (move_and_return (atomic.NotBound c.object x) (move.Refuse t x) t (reply.Refused x)))))
  refused_run c x is may = told (atomic.NotBound c.object x) (move.Refuse t x) (reply.Refused x) (run_refused (shown w) t (flag_at w.fats t) (call_of c) x is may)

  -- a new monitor changes nothing that another thread shows
  alike_bound : (o : ObjectId) (n : ℕ) (u : ThreadId) → ActsAlike w.fats (bound_with w.fats o t n) u
  alike_bound o n u = acts_alike w.fats (bound_with w.fats o t n) u sound.fats refl refl
      (λ m h. ap (λ (b : fat.Monitor). b.object) (get_or_append_left w.fats.monitors (record { object = o; owner = Some t; holds = n } ∷ []) unbound m h))

  pub bind_run : (c : MonitorCall) (won : Bool) (n : ℕ) (p : Place) (refused : Option Cause) → place_at w k ≡ p
      → doing_of p ≡ (if won then doing.Has reply.Entered else doing.Wants (call_of c))
      → MatchOption refused (Unit {0}) (λ x. won ≡ false → MayRefuse (shown w) t (call_of c) x)
      → Run (shown w) (moves_made (after_bind w t c won n refused).did.moves) (shown (with_go w k (after_bind w t c won n refused)))
  bind_run c won n p None e same may =
      shown_kept w k t (after_bind w t c won n None) (flag_at w.fats t) (doing_of p) berth (within w sound k t berth) refl refl (ap (does (flag_at w.fats t)) (act_out (bound_with w.fats c.object t n) t (InCall (Bound c won (length w.fats.monitors))) out ∙ sym same)) (λ u ne. alike_bound c.object n u)
      (λ q. after_bound c.object n (InCall (Bound c won (length w.fats.monitors))) (no_move (atomic.Bound c.object (length w.fats.monitors))) (lock_at w q.0) q.0 (stands_at w sound q.0))
      ∙ now_is_same (shown w) t (flag_at w.fats t) (doing_of p) (is_at w sound k t berth p e out)
  bind_run c true n p (Some x) e same may =
      subst (λ (s : State). Run (shown w) (move.Return t reply.Entered ∷ []) s)
      (sym (shown_stays w sound k t berth Idle (return_alone (atomic.NotBound c.object x) t reply.Entered) out))
      (run_returned (shown w) t (flag_at w.fats t) reply.Entered tt (rw same at (is_at w sound k t berth p e out)))
  bind_run c false n p (Some x) e same may = refused_run c x (rw same at (is_at w sound k t berth p e out)) (may refl)

  -- a bind is refused for want of a monitor or of memory
  pub causes : (room : Bool) (P : Cause → Type 0) → P cause.NoMonitor → P cause.Memory → MatchOption (bind_cause room w.fats) (Unit {0}) P
  causes true P no_monitor memory = cond_both (nat_lt (length w.fats.monitors) w.fats.limit) _ _ (λ x. MatchOption x (Unit {0}) P) (λ _. tt) (λ _. no_monitor)
  causes false P no_monitor memory = cond_both (nat_lt (length w.fats.monitors) w.fats.limit) _ _ (λ x. MatchOption x (Unit {0}) P) (λ _. memory) (λ _. no_monitor)

  -- a load by a thread that is to end
  pub look_run : (n : ℕ) (own : Bool) → place_at w k ≡ Ending n → is_own (lock_at w n) (k + 1) ≡ own
      → Run (shown w) (moves_made (after_look_as w t n own).did.moves) (shown (with_go w k (after_look_as w t n own)))
  look_run n true e found =
      told (load_of w (record { 0 = n })) (move.Refuse t cause.StillOwner) (reply.Refused cause.StillOwner)
      (run_refused (shown w) t (flag_at w.fats t) call.End cause.StillOwner (is_at w sound k t berth (Ending n) e out) (record { 0 = n }, owned_thinly (lock_at w n) found))
    where
      owned_thinly : (l : Lock) → is_own l (k + 1) ≡ true → (monitor_of w l).owner ≡ Some t
      owned_thinly Free h = absurd (cc)
      owned_thinly (Thin i c) h = rw (eqb-true i (k + 1) h) (ap (λ (m : Monitor). m.owner) (mine w sound k t berth c))
      owned_thinly (Fat m) h = absurd (cc)
  look_run n false e found = quiet (Ending n) (Ending (n + 1)) (load_of w (record { 0 = n })) e refl
