-- What the bodies of actions make of a fat state.
use Rattle.std.specs.Prelude.{◌≡◌, ℕ, ◌+◌, ◌<◌, ◌==◌, Bool, true, false, length, Option, Some, None, IsSome, Result, Ok, Err, OnOk, OnErr, if◌then◌else◌, slice_index_or, slice_set}
use Rattle.std.proofs.Common.{refl, sym, ap, ◌∙◌, subst}
use Rattle.std.specs.Ordering.{nat_cmp}
use Rattle.std.specs.FinMap as map
use Rattle.std.proofs.lemmas.Bool.{ne_eqb, eq-eqb}
use Rattle.std.proofs.lemmas.List.{get_or_default}
use Rattle.std.specs.Result.{is_err}
use Rattle.lock_word.specs.declared.ThreadId.{ThreadId}
use Rattle.std.specs.Option.{unwrap_or}
use Rattle.wait_lines.specs.Lines.{Key, Standing, LinesState, standing, LineMap, after_join, after_leave}
use Rattle.wait_lines.specs.declared.Role.{Role}
use Rattle.wait_lines.specs.declared.Role.TheVariants.{Entry, Waiting as WaitSet}
use Rattle.fat_monitor.specs.declared.monitors.Monitor.{Monitor}
use Rattle.fat_monitor.specs.declared.actions.Done.{Done}
use Rattle.fat_monitor.specs.declared.actions.Post.{Post}
use Rattle.fat_monitor.specs.declared.actions.Post.TheVariants.{Out, Entering, Waiting, Back, Granted}
use Rattle.fat_monitor.specs.declared.actions.Why.{Why}
use Rattle.fat_monitor.specs.declared.actions.Why.TheVariants as why
use Rattle.fat_monitor.specs.declared.actions.Reply.{Reply}
use Rattle.fat_monitor.specs.declared.actions.Reply.TheVariants as reply
use Rattle.fat_monitor.specs.declared.actions.Action.{Action}
use Rattle.fat_monitor.specs.declared.actions.ActFault.{ActFault}
use Rattle.fat_monitor.specs.declared.actions.Answer.{Answer}
use Rattle.fat_monitor.specs.FatState.{FatState, IsSound, monitor_at, with_monitor, with_owner, with_flag, unbound, post_of, post_at, is_owned_by, room_for, thread_count, with_thread, line_key_of}
use Rattle.fat_monitor.specs.Acting.{Outcome, outcome_of, answers, replies, interrupt_outcome, after_parking, after_grant, holds_granted, reply_granted, MayAct, NamesBound}
use Rattle.fat_monitor.proofs.PostMaps.{get-insert_by}
use Rattle.fat_monitor.specs.Slots.{Posted}
use Rattle.fat_monitor.proofs.SoundGrants.{flags_after_grant, after_grant-is}
use Rattle.fat_monitor.proofs.WaitSets.{queued}
use Rattle.fat_monitor.proofs.Soundness.{IsSound-outcome_of, IsSound-with_thread}

-- what a read of a monitor found
pub monitor_read : (f : FatState) (m : ℕ) (b : Monitor) → m < length f.monitors → b ≡ slice_index_or f.monitors m b → monitor_at f m ≡ b
monitor_read f m b bound read = cc (read, get_or_default f.monitors m b unbound bound)

-- the owner and the holds of a monitor were written
pub written : (f : FatState) (m : ℕ) (old new : Monitor) (o : Option ThreadId) (n : ℕ) → m < length f.monitors → old ≡ slice_index_or f.monitors m old
    → new ≡ record old { owner = o; holds = n } → with_monitor f m new ≡ with_owner f m o n
written f m old new o n bound read is =
    let at : monitor_at f m ≡ old = monitor_read f m old bound read in
    rw (is, at) refl

-- a standing whose lines were changed, and its reservations were not
pub same_standing : (s : Standing) (new : LinesState) (lines : LineMap) → new.lines ≡ lines → new.reservations ≡ s.reservations → standing new ≡ record s { lines = lines }
same_standing s new lines e r =
    let first : standing new ≡ record (standing new) { lines = lines } = ap (λ (l : LineMap). let x : Standing = record { lines = l; reservations = new.reservations } in x) e in
    first ∙ ap (λ (n : ℕ). record { lines = lines; reservations = n }) r

-- what a call without an error says, and one with an error
pub of_ok : {E : Type 0} (r : Result (Unit {0}) E) (P : Type 0) → false ≡ is_err r → OnOk r P → P
of_ok (Ok u) P h p = p
of_ok (Err e) P h p = absurd (cc)

pub of_err : {E : Type 0} (r : Result (Unit {0}) E) (P : Type 0) → true ≡ is_err r → OnErr r P → P
of_err (Ok u) P h p = absurd (cc)
of_err (Err e) P h p = p

-- a thread was attached
pub room_crowded : (threads reservations : ℕ) → threads ≡ reservations → room_for threads reservations ≡ reservations + 1
room_crowded threads reservations e = rw (eq-eqb threads reservations e) refl

pub room_left : (threads reservations : ℕ) → (threads ≡ reservations → ⊥) → room_for threads reservations ≡ reservations
room_left threads reservations e = rw (ne_eqb threads reservations e) refl

pub attached_as : {nodes owned : map.FinMap nat_cmp ℕ} (f : FatState) (t : ThreadId) (posts : Posted) (new_lines : LinesState) → posts ≡ record { posts = map.insert f.threads t.0 Out; nodes = nodes; flags = map.insert f.flags t.0 false; owned = owned }
    → new_lines.lines ≡ f.standing.lines → new_lines.reservations ≡ room_for (thread_count f) f.standing.reservations
    → record f { threads = posts.posts; flags = posts.flags; standing = standing new_lines } ≡ with_thread f t
attached_as f t posts new_lines e lines room =
    let first : standing new_lines ≡ record (standing new_lines) { lines = f.standing.lines } = ap (λ (l : LineMap). let x : Standing = record { lines = l; reservations = new_lines.reservations } in x) lines in
    let all : standing new_lines ≡ record f.standing { reservations = room_for (thread_count f) f.standing.reservations } = first ∙ ap (λ (n : ℕ). let x : Standing = record { lines = f.standing.lines; reservations = n } in x) room in
    rw (e, all) refl

pub attached_itself : (f : FatState) (t : ThreadId) → IsSome (map.get (map.insert f.threads t.0 Out) t.0)
attached_itself f t = rw (get-insert_by f.threads t.0 Out t.0, eq-eqb t.0 t.0 refl) refl

still_some : {X : Type 0} (b : Bool) (v : X) (o : Option X) → IsSome o → IsSome (if b then Some v else o)
still_some true v o h = refl
still_some false v o h = h

pub attached_still : (f : FatState) (t u : ThreadId) → IsSome (map.get f.threads u.0) → IsSome (map.get (map.insert f.threads t.0 Out) u.0)
attached_still f t u h = rw (get-insert_by f.threads t.0 Out u.0) (still_some (u.0 == t.0) Out (map.get f.threads u.0) h)

-- a thread joined a line
pub after_parking_as : {nodes owned : map.FinMap nat_cmp ℕ} (f : FatState) (t : ThreadId) (p : Post) (m : ℕ) (r : Role) (posts : Posted) (new_lines : LinesState) → posts ≡ record { posts = map.insert f.threads t.0 p; nodes = nodes; flags = f.flags; owned = owned }
    → new_lines.lines ≡ after_join f.standing.lines t m r → new_lines.reservations ≡ f.standing.reservations
    → record f { threads = posts.posts; flags = posts.flags; standing = standing new_lines } ≡ after_parking f t p m r
after_parking_as f t p m r posts new_lines e lines kept = rw (e, same_standing f.standing new_lines _ lines kept) refl

-- the flag of a thread was written
pub flagged_as : {nodes owned : map.FinMap nat_cmp ℕ} (f : FatState) (t : ThreadId) (flag : Bool) (posts : Posted) → posts ≡ record { posts = f.threads; nodes = nodes; flags = map.insert f.flags t.0 flag; owned = owned }
    → record f { threads = posts.posts; flags = posts.flags } ≡ with_flag f t flag
flagged_as f t flag posts e = rw e refl

-- a thread that stood in a line was granted its monitor
pub after_grant_as : {nodes owned : map.FinMap nat_cmp ℕ} (f : FatState) (m : ℕ) (u : ThreadId) (p : Post) (r : Role) (old new : Monitor) (grant : ℕ × Reply) (between posts : Posted) (new_lines : LinesState)
    → m < length f.monitors → old ≡ slice_index_or f.monitors m old → new ≡ record old { owner = Some u; holds = grant.0 }
    → grant ≡ (holds_granted p, reply_granted p) → between ≡ record { posts = f.threads; nodes = nodes; flags = flags_after_grant f u p; owned = owned }
    → posts ≡ record between { posts = map.insert between.posts u.0 (Granted grant.1) }
    → new_lines.lines ≡ after_leave f.standing.lines u m r → new_lines.reservations ≡ f.standing.reservations
    → record f { monitors = slice_set f.monitors m new; threads = posts.posts; flags = posts.flags; standing = standing new_lines } ≡ after_grant f m u p r
after_grant_as f m u p r old new grant between posts new_lines bound read is g b e lines kept =
    ap (λ (h : FatState). record h { threads = posts.posts; flags = posts.flags; standing = standing new_lines }) (written f m old new (Some u) grant.0 bound read is)
    ∙ rw (e, b, same_standing f.standing new_lines _ lines kept, g) refl ∙ sym (after_grant-is f m u p r)

-- a grant clears the flag of a wait that an interrupt ended, and no other
pub flags_cleared : (f : FatState) (u : ThreadId) (p : Post) → reply_granted p ≡ reply.Interrupted → flags_after_grant f u p ≡ map.insert f.flags u.0 false
flags_cleared f u Out e = absurd (cc)
flags_cleared f u (Entering m) e = absurd (cc)
flags_cleared f u (Waiting m n d) e = absurd (cc)
flags_cleared f u (Back m n why.Notified) e = absurd (cc)
flags_cleared f u (Back m n why.Interrupted) e = refl
flags_cleared f u (Back m n why.Elapsed) e = absurd (cc)
flags_cleared f u (Back m n why.Spurious) e = absurd (cc)
flags_cleared f u (Granted r) e = absurd (cc)

pub flags_kept : (f : FatState) (u : ThreadId) (p : Post) → (reply_granted p ≡ reply.Interrupted → ⊥) → flags_after_grant f u p ≡ f.flags
flags_kept f u Out e = refl
flags_kept f u (Entering m) e = refl
flags_kept f u (Waiting m n d) e = refl
flags_kept f u (Back m n why.Notified) e = refl
flags_kept f u (Back m n why.Interrupted) e = absurd (e refl)
flags_kept f u (Back m n why.Elapsed) e = refl
flags_kept f u (Back m n why.Spurious) e = refl
flags_kept f u (Granted r) e = refl

-- a thread of a wait set was sent to the entry line
pub queued_as : {nodes owned : map.FinMap nat_cmp ℕ} (f : FatState) (u : ThreadId) (w : Why) (m n : ℕ) (d : Option ℕ) (posts : Posted) (between new_lines : LinesState)
    → posts ≡ record { posts = map.insert f.threads u.0 (Back m n w); nodes = nodes; flags = f.flags; owned = owned } → between.lines ≡ after_leave f.standing.lines u m WaitSet → between.reservations ≡ f.standing.reservations
    → new_lines.lines ≡ after_join between.lines u m Entry → new_lines.reservations ≡ between.reservations
    → record f { threads = posts.posts; flags = posts.flags; standing = standing new_lines } ≡ queued f u w (Waiting m n d)
queued_as f u w m n d posts between new_lines e lines kept more kept_too =
    let at : new_lines.lines ≡ after_join (after_leave f.standing.lines u m WaitSet) u m Entry = more ∙ ap (λ (l : LineMap). after_join l u m Entry) lines in
    rw (e, same_standing f.standing new_lines _ at (kept_too ∙ kept)) refl

-- what a reply says at a state it says at the same state
pub replies_at : (d : Done) (r : Reply) (f g : FatState) → ((h : FatState) → record { answer = Ok d; after = h } ≡ replies h r) → f ≡ g
    → record { answer = Ok d; after = f } ≡ replies g r
replies_at d r f g e same = e f ∙ ap (λ (h : FatState). replies h r) same

pub answers_at : (d : Done) (a : Answer) (grants chosen : Option ThreadId) (f g : FatState) → d ≡ record { answer = a; granted = grants; chosen = chosen } → f ≡ g
    → record { answer = Ok d; after = f } ≡ answers g a grants chosen
answers_at d a grants chosen f g e same = rw (e, same) refl

-- what follows the table stays sound
pub sound_after : (f after : FatState) (t : ThreadId) (a : Action) (r : Result Done ActFault) → IsSound f → MayAct f t a → NamesBound f a
    → record { answer = r; after = after } ≡ outcome_of f t a → IsSound after
sound_after f after t a r sound may bound e =
    let same : after ≡ (outcome_of f t a).after = ap (λ (o : Outcome). o.after) e in
    rw (same) (IsSound-outcome_of f t a sound may bound)

-- an owned monitor has an owner
pub owned_by : (o : Option ThreadId) (t : ThreadId) → is_owned_by o t ≡ true → IsSome o
owned_by None t e = absurd (cc)
owned_by (Some u) t e = refl

-- whoever has a line key is attached, at its post
pub has_line_key : (f : FatState) (t : ThreadId) (k : Key) → line_key_of (post_at f t) ≡ Some k → (p : Post) × (post_of f t ≡ Some p) × (line_key_of p ≡ Some k)
has_line_key f t k in_line = at (post_of f t) refl in_line
  where
    at : (o : Option Post) → post_of f t ≡ o → line_key_of (unwrap_or o Out) ≡ Some k → (p : Post) × (post_of f t ≡ Some p) × (line_key_of p ≡ Some k)
    at None e none = absurd (cc)
    at (Some p) e is = (p, e, is)

-- an interrupt of a thread that does not wait sets its flag, and no more
pub interrupt_outcome_outside : (f : FatState) (u : ThreadId) (p : Post) → ((m n : ℕ) (d : Option ℕ) → p ≡ Waiting m n d → ⊥) → interrupt_outcome f u (Some p) ≡ replies (with_flag f u true) reply.Done
interrupt_outcome_outside f u Out idle = refl
interrupt_outcome_outside f u (Entering m) idle = refl
interrupt_outcome_outside f u (Waiting m n d) idle = absurd (idle m n d refl)
interrupt_outcome_outside f u (Back m n w) idle = refl
interrupt_outcome_outside f u (Granted r) idle = refl

-- what an attach leaves is sound
pub attached_sound : {E : Type 0} (f after : FatState) (t : ThreadId) (r : Result (Unit {0}) E) → IsSound f → thread_count f < 32767
    → OnOk r (post_of f t ≡ None) → OnOk r (after ≡ with_thread f t) → OnErr r (after ≡ f) → IsSound after
attached_sound f after t (Ok u) sound few fresh attached err = subst (λ (g : FatState). IsSound g) (sym attached) (IsSound-with_thread f t sound fresh few)
attached_sound f after t (Err e) sound few fresh attached err = subst (λ (g : FatState). IsSound g) (sym err) sound
