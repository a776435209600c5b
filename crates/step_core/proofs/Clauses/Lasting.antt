-- A notified thread stays so until it has its reply, and a reply stays until it is returned.
use Rattle.std.specs.Prelude.{◌≡◌, ◌⊎◌, ℕ, Bool, true, false, List, [], ◌∷◌, ◌++◌, Option, Some, None, IfOk, OnErr, MatchResult, Result, Ok, Err}
use Rattle.std.specs.Option.{unwrap_or}
use Rattle.std.proofs.Common.{refl, inl, inr, sym, ap, subst, ◌∙◌}
use Rattle.lock_word.specs.declared.ThreadId.{ThreadId}
use Rattle.lock_word.specs.declared.ObjectId.{ObjectId}
use Rattle.thread_index.specs.Indices.{berth_of}
use Rattle.wait_lines.specs.declared.Role.TheVariants.{Entry}
use Rattle.fat_monitor.specs.declared.actions.Reply.{Reply}
use Rattle.fat_monitor.specs.declared.actions.Reply.TheVariants as reply
use Rattle.fat_monitor.specs.declared.actions.Why.{Why}
use Rattle.fat_monitor.specs.declared.actions.Why.TheVariants as why
use Rattle.fat_monitor.specs.declared.actions.Post.{Post}
use Rattle.fat_monitor.specs.declared.actions.Post.TheVariants as post
use Rattle.fat_monitor.specs.FatState.{post_of}
use Rattle.fast_path.specs.declared.calls.Call.{Call}
use Rattle.step_core.specs.declared.machine.Doing.{Doing}
use Rattle.step_core.specs.declared.machine.Doing.TheVariants.{Back, Has}
use Rattle.step_core.specs.declared.machine.Move.{Move}
use Rattle.step_core.specs.declared.machine.Move.TheVariants as move
use Rattle.step_core.specs.declared.places.Place.{Place}
use Rattle.step_core.specs.declared.steps.Did.{Did}
use Rattle.step_core.specs.declared.steps.Fault.{Fault}
use Rattle.step_core.specs.declared.steps.Fault.TheVariants.{Memory, Parked}
use Rattle.step_core.specs.declared.steps.Request.{Request}
use Rattle.step_core.specs.declared.steps.Request.TheVariants as request
use Rattle.step_core.specs.declared.steps.Step.{Step}
use Rattle.step_core.specs.declared.steps.Step.TheVariants as step
use Rattle.step_core.specs.Machine.{State, Thread, Steps, Run, Is, flag_back, reply_of}
use Rattle.step_core.specs.World.{WorldState, place_at}
use Rattle.step_core.specs.Shown.{shown, act_of}
use Rattle.step_core.specs.Sound.{IsSound}
use Rattle.step_core.specs.Step.{step_of, moves_made, moves_of}
use Rattle.step_core.specs.Requests.{world_then, world_after}
use Rattle.step_core.specs.Labels.{is_label, labels_of, EndsWith, HasLabels}
use Rattle.step_core.specs.Refused.{IsParked, IsRefused, IsAcceptable}
use Rattle.step_core.specs.Lasting.{IsBack, HasReply, Returns, MoveReturns, LastsBut, Lasts, NotReturns, NeverReturns}
use Rattle.step_core.proofs.Facts.PlaceFacts.{not_back as out_not_back}
use Rattle.step_core.proofs.Sound.AllSteps.{step_right}
use Rattle.step_core.proofs.Relaying.Requests.{then_right, relayout_shows}
use Rattle.step_core.proofs.Clauses.Labels.{step_labels}
use Rattle.step_core.proofs.Clauses.Refused.{step_judged, shows}
use Rattle.step_core.proofs.Lists.Steady.{Stays, Relocked, Returned, Leaves, one_step}

-- the first of some moves without a label, and the others
no_first : (m : Move) (ms : List Move) → labels_of (m ∷ ms) ≡ [] → (is_label m ≡ false) × (labels_of ms ≡ [])
no_first m ms e = by_label (is_label m) refl
  where
    by_label : (b : Bool) → is_label m ≡ b → (is_label m ≡ false) × (labels_of ms ≡ [])
    by_label true h = let never : m ∷ labels_of ms ≡ [] = rw h at e in absurd (cc)
    by_label false h = (h, rw h at e)

-- a move without a label is no return
no_return : (m : Move) (u : ThreadId) (d : Doing) → is_label m ≡ false → Returned m u d → ⊥
no_return m u d plain (t, r, e, same, has) = let never : true ≡ false = ap is_label (sym e) ∙ plain in cc

-- a reply is kept over moves without a label
reply_kept : (s : State) (ms : List Move) (s' : State) (u : ThreadId) (r : Reply) → labels_of ms ≡ [] → Run s ms s' → HasReply s u r → HasReply s' u r
reply_kept s [] s' u r plain run has = (has.0, rw run has.1)
reply_kept s (m ∷ ms) s' u r plain (mid, one, rest) has =
    by_case (one_step s u has.0 (Has r) tt has.1 m mid one) (λ h. reply_kept mid ms s' u r (no_first m ms plain).1 rest h)
  where
    by_case : Leaves mid m u has.0 (Has r) → (HasReply mid u r → HasReply s' u r) → HasReply s' u r
    by_case (inl stays) later = later (stays.0, stays.2)
    by_case (inr (inl (o, n, w, e, h))) later = absurd (cc)
    by_case (inr (inr back)) later = absurd (no_return m u (Has r) (no_first m ms plain).0 back)

-- one thread that is back has one reason
pub reason : {o p : ObjectId} {n k : ℕ} {w y : Why} → Back o n w ≡ Back p k y → y ≡ w
reason e = cc

relocked_reply : (s : State) (u : ThreadId) (flag : Bool) (o : ObjectId) (n : ℕ) (w : Why) → Relocked s u flag (Back o n w) → HasReply s u (reply_of w)
relocked_reply s u flag o n w (p, k, y, e, h) =
    let one_reason : y ≡ w = reason e in (flag_back y flag, h ∙ ap (λ (z : Why). Some (record { flag = flag_back y flag; act = Has (reply_of z) })) one_reason)

-- what became of a thread that was back
abbrev Comes : State → ThreadId → ObjectId → ℕ → Why → Type 0
Comes s u o n w = IsBack s u o n w ⊎ HasReply s u (reply_of w)

back_kept : (s : State) (ms : List Move) (s' : State) (u : ThreadId) (o : ObjectId) (n : ℕ) (w : Why) → labels_of ms ≡ [] → Run s ms s' → IsBack s u o n w → Comes s' u o n w
back_kept s [] s' u o n w plain run note = inl (note.0, rw run note.1)
back_kept s (m ∷ ms) s' u o n w plain (mid, one, rest) note =
    by_case (one_step s u note.0 (Back o n w) tt note.1 m mid one) (λ h. back_kept mid ms s' u o n w (no_first m ms plain).1 rest h)
  where
    by_case : Leaves mid m u note.0 (Back o n w) → (IsBack mid u o n w → Comes s' u o n w) → Comes s' u o n w
    by_case (inl stays) later = later (stays.0, stays.2)
    by_case (inr (inl back)) later = inr (reply_kept mid ms s' u (reply_of w) (no_first m ms plain).1 rest (relocked_reply mid u note.0 o n w back))
    by_case (inr (inr back)) later = absurd (no_return m u (Back o n w) (no_first m ms plain).0 back)

-- what became of a notified thread that is interrupted: it is interrupted still
abbrev Pends : State → ThreadId → ObjectId → ℕ → Type 0
Pends s u o n = Is s u true (Back o n why.Notified) ⊎ Is s u true (Has reply.WaitOver)

pub set_stays : (s : State) (u : ThreadId) (d : Doing) → Stays s u true d → Is s u true d
set_stays s u d stays = stays.2 ∙ ap (λ (b : Bool). Some (record { flag = b; act = d })) (stays.1 refl)

-- an interrupt that came is kept with the reply, and with the notification,
set_kept : (s : State) (ms : List Move) (s' : State) (u : ThreadId) (r : Reply) → labels_of ms ≡ [] → Run s ms s' → Is s u true (Has r) → Is s' u true (Has r)
set_kept s [] s' u r plain run has = rw run has
set_kept s (m ∷ ms) s' u r plain (mid, one, rest) has =
    by_case (one_step s u true (Has r) tt has m mid one) (λ h. set_kept mid ms s' u r (no_first m ms plain).1 rest h)
  where
    by_case : Leaves mid m u true (Has r) → (Is mid u true (Has r) → Is s' u true (Has r)) → Is s' u true (Has r)
    by_case (inl stays) later = later (set_stays mid u (Has r) stays)
    by_case (inr (inl (o, n, w, e, h))) later = absurd (cc)
    by_case (inr (inr back)) later = absurd (no_return m u (Has r) (no_first m ms plain).0 back)

pub relocked_set : (s : State) (u : ThreadId) (o : ObjectId) (n : ℕ) → Relocked s u true (Back o n why.Notified) → Is s u true (Has reply.WaitOver)
relocked_set s u o n (p, k, y, e, h) =
    let one_reason : y ≡ why.Notified = reason e in h ∙ ap (λ (z : Why). Some (record { flag = flag_back z true; act = Has (reply_of z) })) one_reason

pending_kept : (s : State) (ms : List Move) (s' : State) (u : ThreadId) (o : ObjectId) (n : ℕ) → labels_of ms ≡ [] → Run s ms s' → Is s u true (Back o n why.Notified) → Pends s' u o n
pending_kept s [] s' u o n plain run note = inl (rw run note)
pending_kept s (m ∷ ms) s' u o n plain (mid, one, rest) note =
    by_case (one_step s u true (Back o n why.Notified) tt note m mid one) (λ h. pending_kept mid ms s' u o n (no_first m ms plain).1 rest h)
  where
    by_case : Leaves mid m u true (Back o n why.Notified) → (Is mid u true (Back o n why.Notified) → Pends s' u o n) → Pends s' u o n
    by_case (inl stays) later = later (set_stays mid u (Back o n why.Notified) stays)
    by_case (inr (inl back)) later = inr (set_kept mid ms s' u reply.WaitOver (no_first m ms plain).1 rest (relocked_set mid u o n back))
    by_case (inr (inr back)) later = absurd (no_return m u (Back o n why.Notified) (no_first m ms plain).0 back)

-- Each move leaves what lasts, but for the reply that it returns with.
pub move_lasts : (s s' : State) (m : Move) → Steps s m s' → LastsBut s (MoveReturns m) s'
move_lasts s s' m one = record { back = backs; pending = pendings; replied = replies }
  where
    backs : (u : ThreadId) (o : ObjectId) (n : ℕ) (w : Why) → IsBack s u o n w → Comes s' u o n w
    backs u o n w note = by_case (one_step s u note.0 (Back o n w) tt note.1 m s' one)
      where
        by_case : Leaves s' m u note.0 (Back o n w) → Comes s' u o n w
        by_case (inl stays) = inl (stays.0, stays.2)
        by_case (inr (inl back)) = inr (relocked_reply s' u note.0 o n w back)
        by_case (inr (inr (v, q, e, same, h))) = absurd (cc)

    pendings : (u : ThreadId) (o : ObjectId) (n : ℕ) → Is s u true (Back o n why.Notified) → Pends s' u o n
    pendings u o n note = by_case (one_step s u true (Back o n why.Notified) tt note m s' one)
      where
        by_case : Leaves s' m u true (Back o n why.Notified) → Pends s' u o n
        by_case (inl stays) = inl (set_stays s' u (Back o n why.Notified) stays)
        by_case (inr (inl back)) = inr (relocked_set s' u o n back)
        by_case (inr (inr (v, q, e, same, h))) = absurd (cc)

    -- the reply that a thread returns with is its own
    own : (u v : ThreadId) (x q : Reply) → m ≡ move.Return v q → v.0 ≡ u.0 → Has x ≡ Has q → MoveReturns m u x
    own u v x q e same h =
        let one_reply : q ≡ x = cc in
        e ∙ ap (λ (k : ℕ). move.Return (record { 0 = k }) q) same ∙ ap (λ (r : Reply). move.Return u r) one_reply

    replies : (u : ThreadId) (x : Reply) → HasReply s u x → HasReply s' u x ⊎ MoveReturns m u x
    replies u x has = by_case (one_step s u has.0 (Has x) tt has.1 m s' one)
      where
        by_case : Leaves s' m u has.0 (Has x) → HasReply s' u x ⊎ MoveReturns m u x
        by_case (inl stays) = inl (stays.0, stays.2)
        by_case (inr (inl (o, n, w, e, h))) = absurd (cc)
        by_case (inr (inr (v, q, e, same, h))) = inr (own u v x q e same h)

-- the last move of a run
pub run_split : (s : State) (ms : List Move) (m : Move) (s' : State) → Run s (ms ++ m ∷ []) s' → (mid : State) × Run s ms mid × Steps mid m s'
run_split s [] m s' (mid, one, e) = (s, refl, subst (Steps s m) (sym e) one)
run_split s (x ∷ xs) m s' (mid, one, rest) = let r = run_split mid xs m s' rest in (r.0, (mid, one, r.1), r.2)

-- a return with a reply, where u has one, or is back
module _ (s s' : State) (t : ThreadId) (r : Reply) (last : Steps s (move.Return t r) s') (u : ThreadId) where
  returned_own : (x : Reply) → Returned (move.Return t r) u (Has x) → Returns (step.Go t) (Some r) u x
  returned_own x (v, q, e, same, h) =
      let thread : t ≡ v = cc in let answer : r ≡ q = cc in let own : x ≡ q = cc in
      (ap (λ (y : ThreadId). y.0) thread ∙ same, ap (λ (y : Reply). Some y) (answer ∙ sym own))

  reply_returned : (x : Reply) → HasReply s u x → HasReply s' u x ⊎ Returns (step.Go t) (Some r) u x
  reply_returned x has = by_case (one_step s u has.0 (Has x) tt has.1 (move.Return t r) s' last)
    where
      by_case : Leaves s' (move.Return t r) u has.0 (Has x) → HasReply s' u x ⊎ Returns (step.Go t) (Some r) u x
      by_case (inl stays) = inl (stays.0, stays.2)
      by_case (inr (inl (o, n, w, e, h))) = absurd (cc)
      by_case (inr (inr back)) = inr (returned_own x back)

  set_returned : (x : Reply) → Is s u true (Has x) → Is s' u true (Has x) ⊎ Returns (step.Go t) (Some r) u x
  set_returned x has = by_case (one_step s u true (Has x) tt has (move.Return t r) s' last)
    where
      by_case : Leaves s' (move.Return t r) u true (Has x) → Is s' u true (Has x) ⊎ Returns (step.Go t) (Some r) u x
      by_case (inl stays) = inl (set_stays s' u (Has x) stays)
      by_case (inr (inl (o, n, w, e, h))) = absurd (cc)
      by_case (inr (inr back)) = inr (returned_own x back)

-- moves without a label
plain_lasts : (s s' : State) (ms : List Move) (did : Step) (d : Option Reply) → labels_of ms ≡ [] → Run s ms s' → Lasts s did d s'
plain_lasts s s' ms did d plain run = record {
  back = λ u o n w note. back_kept s ms s' u o n w plain run note;
  pending = λ u o n note. pending_kept s ms s' u o n plain run note;
  replied = λ u x has. inl (reply_kept s ms s' u x plain run has);
}

-- The moves of a Go of t, where t itself is not back.
go_lasts : (s s' : State) (t : ThreadId) (ms : List Move) (r : Option Reply) → EndsWith t ms r → Run s ms s'
    → ((u : ThreadId) (o : ObjectId) (n : ℕ) (w : Why) → u.0 ≡ t.0 → IsBack s u o n w → ⊥) → Lasts s (step.Go t) r s'
go_lasts s s' t ms None plain run free = plain_lasts s s' ms (step.Go t) None plain run
go_lasts s s' t ms (Some r) (inner, e, plain) run free = record { back = backs; pending = pendings; replied = replies }
  where
    parts : (mid : State) × Run s inner mid × Steps mid (move.Return t r) s'
    parts = run_split s inner (move.Return t r) s' (subst (λ xs. Run s xs s') e run)

    replies : (u : ThreadId) (x : Reply) → HasReply s u x → HasReply s' u x ⊎ Returns (step.Go t) (Some r) u x
    replies u x has = reply_returned parts.0 s' t r parts.2 u x (reply_kept s inner parts.0 u x plain parts.1 has)

    by_return : (u : ThreadId) (o : ObjectId) (n : ℕ) (w : Why) → IsBack s u o n w → HasReply s' u (reply_of w) ⊎ Returns (step.Go t) (Some r) u (reply_of w) → Comes s' u o n w
    by_return u o n w note (inl has) = inr has
    by_return u o n w note (inr back) = absurd (free u o n w (sym back.0) note)

    by_case : (u : ThreadId) (o : ObjectId) (n : ℕ) (w : Why) → IsBack s u o n w → Comes parts.0 u o n w → Comes s' u o n w
    by_case u o n w note (inl still) = (move_lasts parts.0 s' (move.Return t r) parts.2).back u o n w still
    by_case u o n w note (inr has) = by_return u o n w note (reply_returned parts.0 s' t r parts.2 u (reply_of w) has)

    backs : (u : ThreadId) (o : ObjectId) (n : ℕ) (w : Why) → IsBack s u o n w → Comes s' u o n w
    backs u o n w note = by_case u o n w note (back_kept s inner parts.0 u o n w plain parts.1 note)

    set_return : (u : ThreadId) (o : ObjectId) (n : ℕ) → Is s u true (Back o n why.Notified) → Is s' u true (Has reply.WaitOver) ⊎ Returns (step.Go t) (Some r) u reply.WaitOver → Pends s' u o n
    set_return u o n note (inl has) = inr has
    set_return u o n note (inr back) = absurd (free u o n why.Notified (sym back.0) (true, note))

    pended : (u : ThreadId) (o : ObjectId) (n : ℕ) → Is s u true (Back o n why.Notified) → Pends parts.0 u o n → Pends s' u o n
    pended u o n note (inl still) = (move_lasts parts.0 s' (move.Return t r) parts.2).pending u o n still
    pended u o n note (inr has) = set_return u o n note (set_returned parts.0 s' t r parts.2 u reply.WaitOver has)

    pendings : (u : ThreadId) (o : ObjectId) (n : ℕ) → Is s u true (Back o n why.Notified) → Pends s' u o n
    pendings u o n note = pended u o n note (pending_kept s inner parts.0 u o n plain parts.1 note)

-- one move that is no return
module _ (s s' : State) (m : Move) (other : (t : ThreadId) (r : Reply) → m ≡ move.Return t r → ⊥) (run : Run s (m ∷ []) s') (did : Step) (d : Option Reply) where
  one_lasts : Lasts s did d s'
  one_lasts = let kept = move_lasts s s' m (subst (Steps s m) (sym run.2) run.1) in
      record { back = kept.back; pending = kept.pending; replied = λ u x has. by_case u x (kept.replied u x has) }
    where
      by_case : (u : ThreadId) (x : Reply) → HasReply s' u x ⊎ MoveReturns m u x → HasReply s' u x ⊎ Returns did d u x
      by_case u x (inl still) = inl still
      by_case u x (inr e) = absurd (other u x e)

module _ (w : WorldState) (sound : IsSound w) (t : ThreadId) where
  back_parked : (p : Place) (o : ObjectId) (n : ℕ) (y : Why) (x : Option Post) → post_of w.fats t ≡ x → act_of w.fats (unwrap_or x post.Out) p ≡ Back o n y → IsParked w t
  back_parked p o n y None there e = absurd (out_not_back p e)
  back_parked p o n y (Some post.Out) there e = absurd (out_not_back p e)
  back_parked p o n y (Some (post.Entering m)) there e = absurd (cc)
  back_parked p o n y (Some (post.Waiting m k d)) there e = absurd (cc)
  back_parked p o n y (Some (post.Back m k z)) there e = (m, Entry, sound.fats.posted t (post.Back m k z) m Entry there refl)
  back_parked p o n y (Some (post.Granted r)) there e = absurd (cc)

  -- so a Go of a thread that is back is refused
  back_refused : (flag : Bool) (o : ObjectId) (n : ℕ) (y : Why) → Is (shown w) t flag (Back o n y) → IsRefused w (step.Go t) Parked
  back_refused flag o n y is = by_berth (berth_of w.berths t) refl
    where
      by_berth : (k : Option ℕ) → berth_of w.berths t ≡ k → IsRefused w (step.Go t) Parked
      by_berth None e = let never : ◌≡◌ {A = Option Thread} None (Some (record { flag = flag; act = Back o n y })) = rw e at is in absurd (cc)
      by_berth (Some k) e =
          (rw e refl, back_parked (place_at w k) o n y (post_of w.fats t) refl (shows w sound t k e (record { flag = flag; act = Back o n y }) is))

  not_back : IsAcceptable w (step.Go t) → (u : ThreadId) (o : ObjectId) (n : ℕ) (y : Why) → u.0 ≡ t.0 → IsBack (shown w) u o n y → ⊥
  not_back all u o n y same note =
      let here : Is (shown w) t note.0 (Back o n y) = ap (λ k. (shown w).thread (record { 0 = k })) (sym same) ∙ note.1 in
      let never : Parked ≡ Memory = all Parked (back_refused note.0 o n y here) in cc

-- the answers of a step
attach_lasts : (s s' : State) (t : ThreadId) (r : Result Did Fault) → IfOk r (HasLabels (step.Attach t)) → Run s (moves_of r) s' → IfOk r (λ d. Lasts s (step.Attach t) d.reply s')
attach_lasts s s' t (Ok d) h run = one_lasts s s' (move.Attach t) (λ v r e. cc) (subst (λ ms. Run s ms s') h.0 run) (step.Attach t) d.reply
attach_lasts s s' t (Err f) h run = tt

begin_lasts : (s s' : State) (t : ThreadId) (c : Call) (r : Result Did Fault) → IfOk r (HasLabels (step.Begin t c)) → Run s (moves_of r) s' → IfOk r (λ d. Lasts s (step.Begin t c) d.reply s')
begin_lasts s s' t c (Ok d) h run = one_lasts s s' (move.Call t c) (λ v r e. cc) (subst (λ ms. Run s ms s') h.0 run) (step.Begin t c) d.reply
begin_lasts s s' t c (Err f) h run = tt

wait_end_lasts : (s s' : State) (did : Step) (t : ThreadId) (r : Result Did Fault) → IfOk r (λ d. EndsWith t (moves_made d.moves) None × (d.reply ≡ None)) → Run s (moves_of r) s' → IfOk r (λ d. Lasts s did d.reply s')
wait_end_lasts s s' did t (Ok d) h run = plain_lasts s s' (moves_made d.moves) did d.reply h.0 run
wait_end_lasts s s' did t (Err f) h run = tt

tick_lasts : (s s' : State) (now : ℕ) (r : Result Did Fault) → IfOk r (HasLabels (step.Tick now)) → Run s (moves_of r) s' → IfOk r (λ d. Lasts s (step.Tick now) d.reply s')
tick_lasts s s' now (Ok d) h run = one_lasts s s' (move.Time now) (λ v r e. cc) (subst (λ ms. Run s ms s') h.0 run) (step.Tick now) d.reply
tick_lasts s s' now (Err f) h run = tt

went_lasts : (w : WorldState) → IsSound w → (s' : State) (t : ThreadId) (r : Result Did Fault) → IfOk r (HasLabels (step.Go t)) → Run (shown w) (moves_of r) s'
    → MatchResult r (λ d. IsAcceptable w (step.Go t)) (λ f. IsRefused w (step.Go t) f) → IfOk r (λ d. Lasts (shown w) (step.Go t) d.reply s')
went_lasts w sound s' t (Ok d) h run all = go_lasts (shown w) s' t (moves_made d.moves) d.reply h run (not_back w sound t all)
went_lasts w sound s' t (Err f) h run all = tt

-- Each accepted step leaves what lasts.
pub step_lasts : (w : WorldState) → IsSound w → (room : Bool) (s : Step) → IfOk (step_of room w s).answer (λ d. Lasts (shown w) s d.reply (shown (step_of room w s).after))
step_lasts w sound room (step.Attach t) =
    attach_lasts (shown w) (shown (step_of room w (step.Attach t)).after) t (step_of room w (step.Attach t)).answer (step_labels w sound room (step.Attach t)) (step_right w sound room (step.Attach t)).1
step_lasts w sound room (step.Begin t c) =
    begin_lasts (shown w) (shown (step_of room w (step.Begin t c)).after) t c (step_of room w (step.Begin t c)).answer (step_labels w sound room (step.Begin t c)) (step_right w sound room (step.Begin t c)).1
step_lasts w sound room (step.Go t) =
    went_lasts w sound (shown (step_of room w (step.Go t)).after) t (step_of room w (step.Go t)).answer (step_labels w sound room (step.Go t)) (step_right w sound room (step.Go t)).1 (step_judged w sound room (step.Go t)).0
step_lasts w sound room (step.Expire t) =
    wait_end_lasts (shown w) (shown (step_of room w (step.Expire t)).after) (step.Expire t) t (step_of room w (step.Expire t)).answer (step_labels w sound room (step.Expire t)) (step_right w sound room (step.Expire t)).1
step_lasts w sound room (step.Spurious t) =
    wait_end_lasts (shown w) (shown (step_of room w (step.Spurious t)).after) (step.Spurious t) t (step_of room w (step.Spurious t)).answer (step_labels w sound room (step.Spurious t)) (step_right w sound room (step.Spurious t)).1
step_lasts w sound room (step.Tick now) =
    tick_lasts (shown w) (shown (step_of room w (step.Tick now)).after) now (step_of room w (step.Tick now)).answer (step_labels w sound room (step.Tick now)) (step_right w sound room (step.Tick now)).1

-- Over a step or a relayout, a reply is kept where none of them returns with it,
then_replied : (w : WorldState) → IsSound w → (u : ThreadId) (r : Reply) (q : Request × Bool) → HasReply (shown w) u r → NotReturns w u r q → HasReply (shown (world_then w q)) u r
then_replied w sound u r (request.Relayout split, room) has never = subst (λ (s : State). HasReply s u r) (sym (relayout_shows w sound room split)) has
then_replied w sound u r (request.Step s, room) has never =
    by_answer (step_of room w s).answer refl (step_lasts w sound room s) (step_judged w sound room s).1
  where
    by_case : (d : Did) → (step_of room w s).answer ≡ Ok d → HasReply (shown (step_of room w s).after) u r ⊎ Returns s d.reply u r → HasReply (shown (step_of room w s).after) u r
    by_case d e (inl kept) = kept
    by_case d e (inr back) = absurd (never d e back)

    by_answer : (a : Result Did Fault) → (step_of room w s).answer ≡ a → IfOk a (λ d. Lasts (shown w) s d.reply (shown (step_of room w s).after))
        → OnErr a ((step_of room w s).after ≡ w) → HasReply (shown (step_of room w s).after) u r
    by_answer (Ok d) e lasts same = by_case d e (lasts.replied u r has)
    by_answer (Err f) e lasts same = rw same has

-- and so over more of them.
pub all_replied : (w : WorldState) → IsSound w → (u : ThreadId) (r : Reply) (qs : List (Request × Bool)) → HasReply (shown w) u r → NeverReturns w u r qs → HasReply (shown (world_after w qs)) u r
all_replied w sound u r [] has never = has
all_replied w sound u r (q ∷ qs) has never = all_replied (world_then w q) (then_right w sound q).0 u r qs (then_replied w sound u r q has never.0) never.1

-- A thread that is back stays so, or has the reply of its wait.
then_back : (w : WorldState) → IsSound w → (u : ThreadId) (o : ObjectId) (n : ℕ) (y : Why) (q : Request × Bool) → IsBack (shown w) u o n y → Comes (shown (world_then w q)) u o n y
then_back w sound u o n y (request.Relayout split, room) note = inl (subst (λ (s : State). IsBack s u o n y) (sym (relayout_shows w sound room split)) note)
then_back w sound u o n y (request.Step s, room) note = by_answer (step_of room w s).answer (step_lasts w sound room s) (step_judged w sound room s).1
  where
    by_answer : (a : Result Did Fault) → IfOk a (λ d. Lasts (shown w) s d.reply (shown (step_of room w s).after))
        → OnErr a ((step_of room w s).after ≡ w) → Comes (shown (step_of room w s).after) u o n y
    by_answer (Ok d) lasts same = lasts.back u o n y note
    by_answer (Err f) lasts same = inl (rw same note)

pub all_back : (w : WorldState) → IsSound w → (u : ThreadId) (o : ObjectId) (n : ℕ) (y : Why) (qs : List (Request × Bool)) → IsBack (shown w) u o n y → NeverReturns w u (reply_of y) qs
    → IsBack (shown (world_after w qs)) u o n y ⊎ HasReply (shown (world_after w qs)) u (reply_of y)
all_back w sound u o n y [] note never = inl note
all_back w sound u o n y (q ∷ qs) note never =
    by_case (then_back w sound u o n y q note) (λ still. all_back (world_then w q) (then_right w sound q).0 u o n y qs still never.1)
  where
    by_case : Comes (shown (world_then w q)) u o n y → (IsBack (shown (world_then w q)) u o n y → Comes (shown (world_after (world_then w q) qs)) u o n y)
        → Comes (shown (world_after (world_then w q) qs)) u o n y
    by_case (inl still) later = later still
    by_case (inr has) later = inr (all_replied (world_then w q) (then_right w sound q).0 u (reply_of y) qs has never.1)
