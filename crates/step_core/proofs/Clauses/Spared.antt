-- A call that is refused leaves every owner, count, wait set and flag as it was.
use Rattle.std.specs.Prelude.{◌≡◌, ◌⊎◌, Bool, [], ◌∷◌, Option, Some, None, IfOk, Result, Ok, Err}
use Rattle.std.specs.Option.{option_map}
use Rattle.std.proofs.Common.{ℕ, refl, inl, inr, sym, ap, subst, ◌∙◌}
use Rattle.std.proofs.lemmas.Bool.{cases_eq, eq-eqb, ne_eqb}
use Rattle.std.proofs.lemmas.Option.{same_Some}
use Rattle.lock_word.specs.declared.ThreadId.{ThreadId}
use Rattle.lock_word.specs.declared.ObjectId.{ObjectId}
use Rattle.fat_monitor.specs.declared.actions.Cause.{Cause}
use Rattle.fat_monitor.specs.declared.actions.Reply.{Reply}
use Rattle.fat_monitor.specs.declared.actions.Reply.TheVariants as reply
use Rattle.fast_path.specs.declared.calls.Call.{Call}
use Rattle.step_core.specs.declared.machine.Doing.TheVariants.{Idle, Wants, Has}
use Rattle.step_core.specs.declared.machine.Move.TheVariants as move
use Rattle.step_core.specs.declared.steps.Did.{Did}
use Rattle.step_core.specs.declared.steps.Fault.{Fault}
use Rattle.step_core.specs.declared.steps.Step.{Step}
use Rattle.step_core.specs.declared.steps.Step.TheVariants as step
use Rattle.step_core.specs.Machine.{State, Thread, Run, Is, Calls, now_is, with_reply, is_waiting}
use Rattle.step_core.specs.World.{WorldState}
use Rattle.step_core.specs.Shown.{shown}
use Rattle.step_core.specs.Sound.{IsSound}
use Rattle.step_core.specs.Step.{step_of, moves_of, moves_made}
use Rattle.step_core.specs.Labels.{EndsWith, HasLabels}
use Rattle.step_core.specs.Spared.{IsSpared, Spares}
use Rattle.step_core.proofs.Facts.Moves.{now_is-Is}
use Rattle.step_core.proofs.Sound.AllSteps.{step_right}
use Rattle.step_core.proofs.Clauses.Labels.{Shapely, go_shape, step_labels}

module _ (s : State) (t : ThreadId) (flag : Bool) (c : Call) (x : Cause) (calls : Calls s t flag c) where
  -- t's call was refused, and is over
  abbrev over : State
  over = now_is (with_reply s t flag (reply.Refused x)) t flag Idle

  -- a thread with the number of t was calling
  was_calling : (u : ThreadId) → u.0 ≡ t.0 → s.thread u ≡ Some (record { flag = flag; act = Wants c })
  was_calling u e = ap (λ n. s.thread (record { 0 = n })) e ∙ calls

  waiting_kept : (u : ThreadId) (o : ObjectId) → (u.0 ≡ t.0) ⊎ (u.0 ≡ t.0 → ⊥) → is_waiting (over.thread u) o ≡ is_waiting (s.thread u) o
  waiting_kept u o (inl same) = rw (eq-eqb u.0 t.0 same, was_calling u same) refl
  waiting_kept u o (inr other) = rw (ne_eqb u.0 t.0 other) refl

  flag_kept : (u : ThreadId) → (u.0 ≡ t.0) ⊎ (u.0 ≡ t.0 → ⊥) → option_map (λ (y : Thread). y.flag) (over.thread u) ≡ option_map (λ (y : Thread). y.flag) (s.thread u)
  flag_kept u (inl same) = rw (eq-eqb u.0 t.0 same, was_calling u same) refl
  flag_kept u (inr other) = rw (ne_eqb u.0 t.0 other) refl

  over_spared : IsSpared s over
  over_spared = record { monitors = λ o. refl; wait_sets = λ u o. waiting_kept u o (cases_eq u.0 t.0); flags = λ u. flag_kept u (cases_eq u.0 t.0) }

-- a refusal and its return spare the state
refusal_spares : (s s' : State) (t : ThreadId) (x : Cause) → Run s (move.Refuse t x ∷ move.Return t (reply.Refused x) ∷ []) s' → IsSpared s s'
refusal_spares s s' t x (mid, (flag, c, calls, may, e), (last, (again, has, g), h)) =
    subst (IsSpared s) (sym (h ∙ g ∙ ends)) (over_spared s t flag c x calls)
  where
    has_there : Is (with_reply s t flag (reply.Refused x)) t again (Has (reply.Refused x))
    has_there = subst (λ (y : State). Is y t again (Has (reply.Refused x))) e has

    same_flag : flag ≡ again
    same_flag = ap (λ (y : Thread). y.flag) (same_Some (record { flag = flag; act = Has (reply.Refused x) }) (record { flag = again; act = Has (reply.Refused x) })
        (sym (now_is-Is s t flag (Has (reply.Refused x))) ∙ has_there))

    ends : now_is mid t again Idle ≡ now_is (with_reply s t flag (reply.Refused x)) t flag Idle
    ends = ap (λ (y : State). now_is y t again Idle) e ∙ ap (λ (b : Bool). now_is (with_reply s t flag (reply.Refused x)) t b Idle) (sym same_flag)

module _ (w w' : WorldState) where
  -- a step that replies nothing refuses no call
  silent : (r : Option Reply) → r ≡ None → Spares w r w'
  silent r e x h = let never : None ≡ Some (reply.Refused x) = sym e ∙ h in absurd (cc)

  attach_spares : (t : ThreadId) (r : Result Did Fault) → IfOk r (HasLabels (step.Attach t)) → IfOk r (λ d. Spares w d.reply w')
  attach_spares t (Ok d) h = silent d.reply h.1
  attach_spares t (Err f) h = tt

  begin_spares : (t : ThreadId) (c : Call) (r : Result Did Fault) → IfOk r (HasLabels (step.Begin t c)) → IfOk r (λ d. Spares w d.reply w')
  begin_spares t c (Ok d) h = silent d.reply h.1
  begin_spares t c (Err f) h = tt

  wait_end_spares : (t : ThreadId) (r : Result Did Fault) → IfOk r (λ d. EndsWith t (moves_made d.moves) None × (d.reply ≡ None)) → IfOk r (λ d. Spares w d.reply w')
  wait_end_spares t (Ok d) h = silent d.reply h.1
  wait_end_spares t (Err f) h = tt

  tick_spares : (now : ℕ) (r : Result Did Fault) → IfOk r (HasLabels (step.Tick now)) → IfOk r (λ d. Spares w d.reply w')
  tick_spares now (Ok d) h = silent d.reply h.1
  tick_spares now (Err f) h = tt

  go_spares : (t : ThreadId) (r : Result Did Fault) → IfOk r (Shapely t) → Run (shown w) (moves_of r) (shown w') → IfOk r (λ d. Spares w d.reply w')
  go_spares t (Ok d) h run = λ x e. refusal_spares (shown w) (shown w') t x (subst (λ ms. Run (shown w) ms (shown w')) (h.1 x e) run)
  go_spares t (Err f) h run = tt

-- A call that is refused spares what is shown.
pub step_spares : (w : WorldState) → IsSound w → (room : Bool) (s : Step) → IfOk (step_of room w s).answer (λ d. Spares w d.reply (step_of room w s).after)
step_spares w sound room (step.Attach t) =
    attach_spares w (step_of room w (step.Attach t)).after t (step_of room w (step.Attach t)).answer (step_labels w sound room (step.Attach t))
step_spares w sound room (step.Begin t c) =
    begin_spares w (step_of room w (step.Begin t c)).after t c (step_of room w (step.Begin t c)).answer (step_labels w sound room (step.Begin t c))
step_spares w sound room (step.Go t) =
    go_spares w (step_of room w (step.Go t)).after t (step_of room w (step.Go t)).answer (go_shape room w sound t) (step_right w sound room (step.Go t)).1
step_spares w sound room (step.Expire t) =
    wait_end_spares w (step_of room w (step.Expire t)).after t (step_of room w (step.Expire t)).answer (step_labels w sound room (step.Expire t))
step_spares w sound room (step.Spurious t) =
    wait_end_spares w (step_of room w (step.Spurious t)).after t (step_of room w (step.Spurious t)).answer (step_labels w sound room (step.Spurious t))
step_spares w sound room (step.Tick now) =
    tick_spares w (step_of room w (step.Tick now)).after now (step_of room w (step.Tick now)).answer (step_labels w sound room (step.Tick now))
