-- Fat states stay sound.
use Rattle.std.specs.Prelude.{◌≡◌, ℕ, ◌+◌, ◌-◌, ◌<◌, ◌≤◌, ◌==◌, Bool, true, false, if◌then◌else◌, nat_lt, ℤ, List, [], ◌∷◌, ◌++◌, length, slice_get, Contains, Option, Some, None, IsSome}
use Rattle.std.specs.Option.{unwrap_or}
use Rattle.std.specs.Ordering.{nat_cmp}
use Rattle.std.specs.FinMap as map
use Rattle.std.proofs.Common.{refl, sym, ap, ◌∙◌, subst, arith}
use Rattle.std.proofs.lemmas.Bool.{ltb-true, eqb-true, eqb-false}
use Rattle.std.proofs.lemmas.Option.{same_Some}
use Rattle.lock_word.specs.declared.ThreadId.{ThreadId}
use Rattle.wait_lines.specs.declared.Role.TheVariants.{Entry, Waiting as WaitSet}
use Rattle.wait_lines.specs.Lines.{Key, key, line, times_in, without, StandsIn, after_leave}
use Rattle.wait_lines.proofs.ThreadLemmas.{same_thread, is_same, Contains-cons_first, times_in-cons, times_in-present, without-absent}
use Rattle.wait_lines.proofs.LineLemmas.{key-other_role, line-with_line_same, line-with_line_other, StandsIn-first}
use Rattle.fat_monitor.specs.declared.actions.Post.{Post}
use Rattle.fat_monitor.specs.declared.actions.Post.TheVariants.{Out, Entering, Waiting, Back, Granted}
use Rattle.fat_monitor.specs.declared.actions.Action.{Action}
use Rattle.fat_monitor.specs.declared.actions.Action.TheVariants as action
use Rattle.fat_monitor.specs.declared.actions.Why.{Why}
use Rattle.fat_monitor.specs.declared.actions.Why.TheVariants as why
use Rattle.fat_monitor.specs.FatState.{FatState, IsSound, IsHeld, monitor_at, post_of, post_at, line_of, first_of, flag_at, flag_of, with_post, with_flag, with_lines, is_owned_by, owns_one, line_key_of}
use Rattle.fat_monitor.specs.Acting.{outcome_of, after_sending_back, after_removal, after_removals, enter_outcome, exit_outcome, wait_outcome, notify_outcome, interrupt_outcome, flag_outcome, expire_outcome, spurious_outcome, collect_outcome, by_owner, are_good, deadline, Outcome, NamesBound, MayAct}
use Rattle.fat_monitor.proofs.SoundCounts.{insert_twice}
use Rattle.fat_monitor.proofs.SoundSteps.{get-written, IsSound-flags, IsSound-after_leave, IsSound-after_parking}
pub use Rattle.fat_monitor.proofs.SoundOwners.{stands_nowhere, room_to_join, some_owner, is_some_owner, stand_behind, nobody_first, post_at-is, IsSound-opened, IsSound-with_thread, IsSound-without_thread, IsSound-bound_with, owned_bound, holds_owned, IsSound-taken, IsSound-held, IsSound-freed, IsSound-entering, IsSound-waiting, IsSound-collect_outcome}
pub use Rattle.fat_monitor.proofs.SoundGrants.{comes_back, after_grant_with, flags_after_grant, after_grant-is, IsSound-after_grant, IsSound-after_hand_on, length-after_hand_on, owner-after_hand_on, first_other, out-after_hand_on, IsSound-wait_outcome}
use Rattle.fat_monitor.proofs.WaitSets.{queued, after_removal-queued, monitors-queued, waits_there}

-- ---- wait sets

-- a thread of a wait set joins the entry line behind an owner, and owns a monitor that nobody owns
after_sending_back_sound : (f : FatState) (u : ThreadId) (m n : ℕ) (d : Option ℕ) (w : Why) (o : Option ThreadId) → IsSound f → post_of f u ≡ Some (Waiting m n d) → (monitor_at f m).owner ≡ o
    → IsSound (after_sending_back f u m (Back m n w) o)
after_sending_back_sound f u m n d w None sound here free =
    IsSound-after_grant f m u (Back m n w) (Waiting m n d) WaitSet sound here refl (sound.proper u (Waiting m n d) here).1
after_sending_back_sound f u m n d w (Some v) sound here owned =
    subst (λ (threads : map.FinMap nat_cmp Post). IsSound (record (queued f u w (Waiting m n d)) { threads = threads })) (insert_twice f.threads u.0 Out (Back m n w))
    (IsSound-after_parking (with_lines (with_post f u Out) (after_leave f.standing.lines u m WaitSet)) u Out (Back m n w) m Entry
    (IsSound-after_leave f u (Waiting m n d) Out m WaitSet sound here refl tt refl) (get-written f.threads u Out) refl (sound.proper u (Waiting m n d) here) refl
    (λ e. is_some_owner (monitor_at f m).owner v owned)
    (sound.apart u m WaitSet (sound.posted u (Waiting m n d) m WaitSet here refl)))

-- whatever its post is, a thread is called back only from a wait set
pub after_removal_post : (f : FatState) (u : ThreadId) (w : Why) (o : Option Post) → IsSound f → post_of f u ≡ o → IsSound (after_removal f u w (unwrap_or o Out))
after_removal_post f u w None sound here = sound
after_removal_post f u w (Some Out) sound here = sound
after_removal_post f u w (Some (Entering m)) sound here = sound
after_removal_post f u w (Some (Waiting m n d)) sound here = after_sending_back_sound f u m n d w (monitor_at f m).owner sound here refl
after_removal_post f u w (Some (Back m n x)) sound here = sound
after_removal_post f u w (Some (Granted r)) sound here = sound

pub IsSound-after_removal : (f : FatState) (u : ThreadId) (w : Why) → IsSound f → IsSound (after_removal f u w (post_at f u))
IsSound-after_removal f u w sound = after_removal_post f u w (post_of f u) sound refl

-- a list of threads is called back, one after another
pub IsSound-after_removals : (f : FatState) (us : List ThreadId) → IsSound f → IsSound (after_removals f us)
IsSound-after_removals f [] sound = sound
IsSound-after_removals f (u ∷ us) sound = IsSound-after_removals (after_removal f u why.Notified (post_at f u)) us (IsSound-after_removal f u why.Notified sound)

-- who stands in a wait set waits with its holds
pub post_waiting : (f : FatState) (u : ThreadId) (m : ℕ) → IsSound f → StandsIn f.standing.lines u m WaitSet → (n : ℕ) × (d : Option ℕ) × (post_of f u ≡ Some (Waiting m n d)) × IsHeld n
post_waiting f u m sound stands_in = let post = sound.standing u m WaitSet stands_in in at post.0 post.1 post.2
  where
    at : (p : Post) → post_of f u ≡ Some p → line_key_of p ≡ Some (key m WaitSet) → (n : ℕ) × (d : Option ℕ) × (post_of f u ≡ Some (Waiting m n d)) × IsHeld n
    at Out here in_line = absurd (cc)
    at (Entering k) here in_line = let never = ap (λ (j : Key). j.1) (same_Some (key k Entry) (key m WaitSet) in_line) in absurd (cc)
    at (Waiting k n d) here in_line =
        let same = ap (λ (j : Key). j.0) (same_Some (key k WaitSet) (key m WaitSet) in_line) in
        (n, d, here ∙ ap (λ j. Some (Waiting j n d)) same, (sound.proper u (Waiting k n d) here).1)
    at (Back k n w) here in_line = let never = ap (λ (j : Key). j.1) (same_Some (key k Entry) (key m WaitSet) in_line) in absurd (cc)
    at (Granted r) here in_line = absurd (cc)

-- the first of a list that has no thread twice is not in the rest
without-first : (u : ThreadId) (us : List ThreadId) → times_in u (u ∷ us) ≤ 1 → without u (u ∷ us) ≡ us
without-first u us once = rw (is_same u u refl) (without-absent u us absent)
  where
    absent : Contains us u → ⊥
    absent has = let low = times_in-present u us has in let one : times_in u (u ∷ us) ≡ 1 + times_in u us = rw (times_in-cons, is_same u u refl) refl in omega arith

-- a wait set after its first thread was called back
wait_set-queued_first : (f : FatState) (u : ThreadId) (us : List ThreadId) (m : ℕ) → IsSound f → line_of f m WaitSet ≡ u ∷ us → line_of (queued f u why.Notified (post_at f u)) m WaitSet ≡ us
wait_set-queued_first f u us m sound first = at (post_waiting f u m sound stands_in)
  where
    stands_in : StandsIn f.standing.lines u m WaitSet
    stands_in = subst (λ l. Contains l u) (sym first) (Contains-cons_first u us u refl)

    once : times_in u (u ∷ us) ≤ 1
    once = subst (λ l. times_in u l ≤ 1) first (sound.orderly.once u m WaitSet)

    at : ((n : ℕ) × (d : Option ℕ) × (post_of f u ≡ Some (Waiting m n d)) × IsHeld n) → line_of (queued f u why.Notified (post_at f u)) m WaitSet ≡ us
    at (n, d, here, held) =
        ap (λ p. line_of (queued f u why.Notified p) m WaitSet) (post_at-is f u (Waiting m n d) here)
        ∙ line-with_line_other (after_leave f.standing.lines u m WaitSet) m m Entry WaitSet (line (after_leave f.standing.lines u m WaitSet) m Entry ++ u ∷ []) (key-other_role m m Entry WaitSet (λ e. cc))
        ∙ line-with_line_same f.standing.lines m WaitSet (without u (line f.standing.lines m WaitSet))
        ∙ ap (without u) first ∙ without-first u us once

pub wait_set-after_removal : (f : FatState) (u : ThreadId) (us : List ThreadId) (m : ℕ) → IsSound f → IsSome (monitor_at f m).owner → line_of f m WaitSet ≡ u ∷ us
    → line_of (after_removal f u why.Notified (post_at f u)) m WaitSet ≡ us
wait_set-after_removal f u us m sound owned first =
    let stands_in : StandsIn f.standing.lines u m WaitSet = subst (λ l. Contains l u) (sym first) (Contains-cons_first u us u refl) in
    ap (λ (g : FatState). line_of g m WaitSet) (after_removal-queued f u why.Notified (waits_there f u m sound stands_in owned)) ∙ wait_set-queued_first f u us m sound first

-- to call the first of a wait set back, whose monitor has an owner, changes no monitor
pub monitors-after_removal_first : (f : FatState) (u : ThreadId) (m : ℕ) → IsSound f → IsSome (monitor_at f m).owner → first_of f m WaitSet ≡ Some u
    → (after_removal f u why.Notified (post_at f u)).monitors ≡ f.monitors
monitors-after_removal_first f u m sound owned first =
    ap (λ (g : FatState). g.monitors) (after_removal-queued f u why.Notified (waits_there f u m sound (StandsIn-first f.standing.lines u m WaitSet first) owned))
    ∙ monitors-queued f u why.Notified (post_at f u)

-- to call all threads of a wait set back is to call back its first one, and then all that are left
pub after_removals-first : (f : FatState) (u : ThreadId) (m : ℕ) → IsSound f → IsSome (monitor_at f m).owner → first_of f m WaitSet ≡ Some u
    → after_removals f (line_of f m WaitSet) ≡ after_removals (after_removal f u why.Notified (post_at f u)) (line_of (after_removal f u why.Notified (post_at f u)) m WaitSet)
after_removals-first f u m sound owned first = at (line_of f m WaitSet) refl first
  where
    at : (ts : List ThreadId) → line_of f m WaitSet ≡ ts → slice_get ts 0 ≡ Some u
        → after_removals f (line_of f m WaitSet) ≡ after_removals (after_removal f u why.Notified (post_at f u)) (line_of (after_removal f u why.Notified (post_at f u)) m WaitSet)
    at [] e none = absurd (cc)
    at (x ∷ xs) e some =
        let begins : line_of f m WaitSet ≡ u ∷ xs = e ∙ ap (λ t. t ∷ xs) (same_Some x u some) in
        ap (after_removals f) begins ∙ ap (after_removals (after_removal f u why.Notified (post_at f u))) (sym (wait_set-after_removal f u xs m sound owned begins))

-- an empty wait set is called back already
pub after_removals-none : (f : FatState) (m : ℕ) → first_of f m WaitSet ≡ None → after_removals f (line_of f m WaitSet) ≡ f
after_removals-none f m none = at (line_of f m WaitSet) none
  where
    at : (ts : List ThreadId) → slice_get ts 0 ≡ None → after_removals f ts ≡ f
    at [] e = refl
    at (x ∷ xs) e = absurd (cc)

-- and each thread that is called back leaves one less
pub length-wait_set : (f : FatState) (u : ThreadId) (m : ℕ) → IsSound f → IsSome (monitor_at f m).owner → first_of f m WaitSet ≡ Some u
    → length (line_of (after_removal f u why.Notified (post_at f u)) m WaitSet) + 1 ≡ length (line_of f m WaitSet)
length-wait_set f u m sound owned first = at (line_of f m WaitSet) refl first
  where
    at : (ts : List ThreadId) → line_of f m WaitSet ≡ ts → slice_get ts 0 ≡ Some u → length (line_of (after_removal f u why.Notified (post_at f u)) m WaitSet) + 1 ≡ length (line_of f m WaitSet)
    at [] e none = absurd (cc)
    at (x ∷ xs) e some =
        let begins : line_of f m WaitSet ≡ u ∷ xs = e ∙ ap (λ t. t ∷ xs) (same_Some x u some) in
        let left_over = ap length (wait_set-after_removal f u xs m sound owned begins) in
        let long = ap length begins in
        omega arith

-- ---- every action

-- either outcome is sound
either_sound : (b : Bool) (x y : Outcome) → (b ≡ true → IsSound x.after) → (b ≡ false → IsSound y.after) → IsSound (if b then x else y).after
either_sound true x y if_true if_false = if_true refl
either_sound false x y if_true if_false = if_false refl

-- the test of an owner tells who it is
pub owner_is : (o : Option ThreadId) (t : ThreadId) → is_owned_by o t ≡ true → o ≡ Some t
owner_is None t e = absurd (cc)
owner_is (Some u) t e = ap (λ x. Some x) (same_thread t u (eqb-true u.0 t.0 e))

-- an enter
enter_outcome_sound : (f : FatState) (t : ThreadId) (m : ℕ) (o : Option ThreadId) → IsSound f → m < length f.monitors → post_of f t ≡ Some Out → (monitor_at f m).owner ≡ o
    → IsSound (enter_outcome f t m o).after
enter_outcome_sound f t m None sound bound out owned = IsSound-taken f m t sound bound owned out
enter_outcome_sound f t m (Some u) sound bound out owned =
    either_sound (u.0 == t.0) _ _
    (λ same. either_sound (nat_lt (monitor_at f m).holds 65535) _ _
    (λ few. let low = ltb-true (monitor_at f m).holds 65535 few in IsSound-held f m u ((monitor_at f m).holds + 1) sound owned (omega arith) (omega arith))
    (λ many. sound))
    (λ other. IsSound-entering f t u m sound out owned (λ same. eqb-false u.0 t.0 other (ap (λ (x : ThreadId). x.0) same)))

-- an exit of the owner
exit_outcome_sound : (f : FatState) (t : ThreadId) (m : ℕ) → IsSound f → m < length f.monitors → (monitor_at f m).owner ≡ Some t → IsSound (exit_outcome f t m).after
exit_outcome_sound f t m sound bound owned =
    let held = holds_owned f m t sound owned in let high = held.1 in
    either_sound (nat_lt 1 (monitor_at f m).holds) _ _
    (λ more. let low = ltb-true 1 (monitor_at f m).holds more in IsSound-held f m t ((monitor_at f m).holds - 1) sound owned (omega arith) (omega arith))
    (λ last. IsSound-after_hand_on f m sound bound)

-- a wait of the owner
wait_outcome_sound : (f : FatState) (t : ThreadId) (m : ℕ) (millis nanos : ℤ) → IsSound f → post_of f t ≡ Some Out → (monitor_at f m).owner ≡ Some t → IsSound (wait_outcome f t m millis nanos).after
wait_outcome_sound f t m millis nanos sound out owned =
    either_sound (are_good millis nanos) _ _
    (λ good. either_sound (flag_at f t) _ _ (λ flagged. IsSound-flags f (map.insert f.flags t.0 false) sound) (λ clear. IsSound-wait_outcome f t m (deadline f.moment millis nanos) sound out owned))
    (λ bad. sound)

-- a notify of the owner
notify_outcome_sound : (f : FatState) (o : Option ThreadId) → IsSound f → IsSound (notify_outcome f o).after
notify_outcome_sound f None sound = sound
notify_outcome_sound f (Some u) sound = IsSound-after_removal f u why.Notified sound

-- an interrupt, and the question whether a thread is interrupted
interrupt_outcome_sound : (f : FatState) (u : ThreadId) (o : Option Post) → IsSound f → post_of f u ≡ o → IsSound (interrupt_outcome f u o).after
interrupt_outcome_sound f u None sound here = sound
interrupt_outcome_sound f u (Some p) sound here = after_removal_post (with_flag f u true) u why.Interrupted (Some p) (IsSound-flags f (map.insert f.flags u.0 true) sound) here

flag_outcome_sound : (f : FatState) (o : Option Bool) → IsSound f → IsSound (flag_outcome f o).after
flag_outcome_sound f None sound = sound
flag_outcome_sound f (Some flag) sound = sound

-- the end of the time of a wait
expire_outcome_sound : (f : FatState) (t : ThreadId) (o : Option Post) → IsSound f → post_of f t ≡ o → IsSound (expire_outcome f t (unwrap_or o Out)).after
expire_outcome_sound f t None sound here = sound
expire_outcome_sound f t (Some Out) sound here = sound
expire_outcome_sound f t (Some (Entering m)) sound here = sound
expire_outcome_sound f t (Some (Waiting m n None)) sound here = sound
expire_outcome_sound f t (Some (Waiting m n (Some d))) sound here =
    either_sound (nat_lt f.moment d) _ _ (λ early. sound) (λ due. after_removal_post f t why.Elapsed (Some (Waiting m n (Some d))) sound here)
expire_outcome_sound f t (Some (Back m n w)) sound here = sound
expire_outcome_sound f t (Some (Granted r)) sound here = sound

-- a spurious wake-up
spurious_outcome_sound : (f : FatState) (t : ThreadId) (o : Option Post) → IsSound f → post_of f t ≡ o → IsSound (spurious_outcome f t (unwrap_or o Out)).after
spurious_outcome_sound f t None sound here = sound
spurious_outcome_sound f t (Some Out) sound here = sound
spurious_outcome_sound f t (Some (Entering m)) sound here = sound
spurious_outcome_sound f t (Some (Waiting m n d)) sound here = after_removal_post f t why.Spurious (Some (Waiting m n d)) sound here
spurious_outcome_sound f t (Some (Back m n w)) sound here = sound
spurious_outcome_sound f t (Some (Granted r)) sound here = sound

-- a collect
collect_outcome_sound : (f : FatState) (t : ThreadId) (o : Option Post) → IsSound f → post_of f t ≡ o → IsSound (collect_outcome f t (unwrap_or o Out)).after
collect_outcome_sound f t None sound here = sound
collect_outcome_sound f t (Some Out) sound here = sound
collect_outcome_sound f t (Some (Entering m)) sound here = sound
collect_outcome_sound f t (Some (Waiting m n d)) sound here = sound
collect_outcome_sound f t (Some (Back m n w)) sound here = sound
collect_outcome_sound f t (Some (Granted r)) sound here = IsSound-collect_outcome f t r sound here

-- what the owner alone may do is sound where the owner does it
owner_sound : (f : FatState) (m : ℕ) (t : ThreadId) (x : Outcome) → IsSound f → ((monitor_at f m).owner ≡ Some t → IsSound x.after) → IsSound (by_owner f m t x).after
owner_sound f m t x sound by_it = either_sound (is_owned_by (monitor_at f m).owner t) _ _ (λ e. by_it (owner_is (monitor_at f m).owner t e)) (λ e. sound)

-- every action keeps a fat state sound
pub IsSound-outcome_of : (f : FatState) (t : ThreadId) (a : Action) → IsSound f → MayAct f t a → NamesBound f a → IsSound (outcome_of f t a).after
IsSound-outcome_of f t (action.Enter m) sound may bound = enter_outcome_sound f t m (monitor_at f m).owner sound bound may refl
IsSound-outcome_of f t (action.Exit m) sound may bound = owner_sound f m t _ sound (λ owned. exit_outcome_sound f t m sound bound owned)
IsSound-outcome_of f t (action.Wait m millis nanos) sound may bound = owner_sound f m t _ sound (λ owned. wait_outcome_sound f t m millis nanos sound may owned)
IsSound-outcome_of f t (action.Notify m) sound may bound = owner_sound f m t _ sound (λ owned. notify_outcome_sound f (first_of f m WaitSet) sound)
IsSound-outcome_of f t (action.NotifyAll m) sound may bound = owner_sound f m t _ sound (λ owned. IsSound-after_removals f (line_of f m WaitSet) sound)
IsSound-outcome_of f t (action.Holds m) sound may bound = sound
IsSound-outcome_of f t (action.Interrupt u) sound may bound = interrupt_outcome_sound f u (post_of f u) sound refl
IsSound-outcome_of f t action.Interrupted sound may bound = IsSound-flags f (map.insert f.flags t.0 false) sound
IsSound-outcome_of f t (action.IsInterrupted u) sound may bound = flag_outcome_sound f (flag_of f u) sound
IsSound-outcome_of f t action.Expire sound may bound = expire_outcome_sound f t (post_of f t) sound refl
IsSound-outcome_of f t action.Spurious sound may bound = spurious_outcome_sound f t (post_of f t) sound refl
IsSound-outcome_of f t action.Collect sound may bound = collect_outcome_sound f t (post_of f t) sound refl
IsSound-outcome_of f t action.End sound may bound = either_sound (owns_one f.monitors t) _ _ (λ owns. sound) (λ none. IsSound-without_thread f t sound may)
