-- What an action changes of the monitors, and what it leaves.
use Rattle.std.specs.Prelude.{◌≡◌, ◌≢◌, ◌⊎◌, ℕ, ◌<◌, ◌≤◌, ◌+◌, ◌-◌, ◌==◌, Bool, true, false, if◌then◌else◌, nat_lt, List, [], ◌∷◌, suc, length, map as list_map, Result, slice_index_or, slice_set, Option, Some, None, IsSome, is_some}
use Rattle.std.proofs.Common.{refl, sym, ap, ◌∙◌, inl, inr, arith, length-set, get_or-set_same, get_or-set_other}
use Rattle.std.proofs.lemmas.Bool.{cases_eq, cases_lt}
use Rattle.std.proofs.lemmas.List.{set_past}
use Rattle.std.proofs.lemmas.Option.{same_Some}
use Rattle.lock_word.specs.declared.ThreadId.{ThreadId}
use Rattle.wait_lines.specs.declared.Role.{Role}
use Rattle.wait_lines.specs.declared.Role.TheVariants.{Entry, Waiting as WaitSet}
use Rattle.fat_monitor.specs.declared.actions.Post.{Post}
use Rattle.fat_monitor.specs.declared.actions.Post.TheVariants.{Out, Entering, Waiting, Back, Granted}
use Rattle.fat_monitor.specs.declared.actions.Why.{Why}
use Rattle.fat_monitor.specs.declared.actions.Why.TheVariants.{Notified, Interrupted, Elapsed, Spurious}
use Rattle.fat_monitor.specs.declared.actions.Action.{Action}
use Rattle.fat_monitor.specs.declared.actions.Action.TheVariants as action
use Rattle.fat_monitor.specs.declared.actions.ActFault.{ActFault}
use Rattle.fat_monitor.specs.declared.actions.Done.{Done}
use Rattle.fat_monitor.specs.declared.monitors.Monitor.{Monitor}
use Rattle.fat_monitor.specs.FatState.{FatState, IsSound, monitor_at, unbound, objects_of, post_of, post_at, line_of, first_of, with_owner, with_post, with_flag, without_thread, flag_at, flag_of, is_owned_by, owns_one}
use Rattle.fat_monitor.proofs.SoundGrants.{after_settling-is}
use Rattle.fat_monitor.proofs.WaitSets.{wait_set-queued, monitors-all_queued}
use Rattle.fat_monitor.specs.Acting.{Outcome, outcome_of, enter_outcome, exit_outcome, wait_outcome, notify_outcome, collect_outcome, are_good, after_hand_on, after_removals, after_parking, after_removal, after_sending_back, after_grant, after_settling, interrupt_outcome, flag_outcome, expire_outcome, spurious_outcome, holds_granted}

-- the monitor that an action names
abbrev pub named : Action → Option ℕ
named (action.Enter m) = Some m
named (action.Exit m) = Some m
named (action.Wait m millis nanos) = Some m
named (action.Notify m) = Some m
named (action.NotifyAll m) = Some m
named (action.Holds m) = Some m
named (action.Interrupt u) = None
named action.Interrupted = None
named (action.IsInterrupted u) = None
named action.Expire = None
named action.Spurious = None
named action.Collect = None
named action.End = None

-- what holds after both outcomes of a test holds after it
pub either : (P : FatState → Type 0) (b : Bool) (x y : Outcome) → P x.after → P y.after → P (if b then x else y).after
either P true x y h k = h
either P false x y h k = k

-- ---- monitors

-- as many monitors under the same limit, each with its object, and all but the named one as before that had an owner
abbrev KeepsMonitors : FatState → Option ℕ → FatState → Type 0
KeepsMonitors f a g =
    (length g.monitors ≡ length f.monitors)
    × (g.limit ≡ f.limit)
    × ((j : ℕ) → (monitor_at g j).object ≡ (monitor_at f j).object)
    × ((j : ℕ) → a ≢ Some j → IsSome (monitor_at f j).owner → monitor_at g j ≡ monitor_at f j)
    × (g.moment ≡ f.moment)
    × (g.spare ≡ f.spare)

-- so it is where the monitors and the limit are the same
KeepsMonitors-same : (f : FatState) (a : Option ℕ) (g : FatState) → g.monitors ≡ f.monitors → g.limit ≡ f.limit → g.moment ≡ f.moment → g.spare ≡ f.spare → KeepsMonitors f a g
KeepsMonitors-same f a g e l now room = (
  ap (λ (ms : List Monitor). length ms) e,
  l,
  (λ j. ap (λ (ms : List Monitor). (slice_index_or ms j unbound).object) e),
  (λ j other owned. ap (λ (ms : List Monitor). slice_index_or ms j unbound) e),
  now,
  room,
)

-- one after the other, where the monitors with an owner keep one
KeepsMonitors-after : (f g h : FatState) (a : Option ℕ) → g.monitors ≡ f.monitors → g.limit ≡ f.limit → g.moment ≡ f.moment → g.spare ≡ f.spare → KeepsMonitors g a h → KeepsMonitors f a h
KeepsMonitors-after f g h a e l now room k =
    let at : (j : ℕ) → monitor_at g j ≡ monitor_at f j = λ j. ap (λ (ms : List Monitor). slice_index_or ms j unbound) e in (
      k.0 ∙ ap (λ (ms : List Monitor). length ms) e,
      k.1 ∙ l,
      (λ j. k.2 j ∙ ap (λ (b : Monitor). b.object) (at j)),
      (λ j other owned. k.3 j other (rw (at j) owned) ∙ at j),
      k.4 ∙ now,
      k.5 ∙ room,
    )

-- a write of a monitor with its object keeps all objects
object_set : (ms : List Monitor) (m j : ℕ) (b : Monitor) → b.object ≡ (slice_index_or ms m unbound).object → (slice_index_or (slice_set ms m b) j unbound).object ≡ (slice_index_or ms j unbound).object
object_set ms m j b same = at (cases_eq j m) (cases_lt m (length ms))
  where
    at : (j ≡ m) ⊎ (j ≡ m → ⊥) → (m < length ms) ⊎ (length ms ≤ m) → (slice_index_or (slice_set ms m b) j unbound).object ≡ (slice_index_or ms j unbound).object
    at (inl e) (inl h) = rw e (ap (λ (x : Monitor). x.object) (get_or-set_same ms m b unbound h) ∙ same)
    at (inl e) (inr h) = ap (λ (ns : List Monitor). (slice_index_or ns j unbound).object) (set_past ms m b h)
    at (inr other) h = ap (λ (x : Monitor). x.object) (get_or-set_other ms m j b unbound other)

KeepsMonitors-with_owner : (f : FatState) (m : ℕ) (o : Option ThreadId) (n : ℕ) → KeepsMonitors f (Some m) (with_owner f m o n)
KeepsMonitors-with_owner f m o n = (
  length-set f.monitors m _,
  refl,
  (λ j. object_set f.monitors m j _ refl),
  (λ j other owned. get_or-set_other f.monitors m j _ unbound (λ e. other (ap (λ (i : ℕ). Some i) (sym e)))),
  refl,
  refl,
)

-- a wait that is settled keeps the monitors
pub monitors-after_settling : (f : FatState) (u : ThreadId) (p : Post) → (after_settling f u p).monitors ≡ f.monitors
monitors-after_settling f u p = ap (λ (g : FatState). g.monitors) (after_settling-is f u p)

pub limit-after_settling : (f : FatState) (u : ThreadId) (p : Post) → (after_settling f u p).limit ≡ f.limit
limit-after_settling f u p = ap (λ (g : FatState). g.limit) (after_settling-is f u p)

pub moment-after_settling : (f : FatState) (u : ThreadId) (p : Post) → (after_settling f u p).moment ≡ f.moment
moment-after_settling f u p = ap (λ (g : FatState). g.moment) (after_settling-is f u p)

spare-after_settling : (f : FatState) (u : ThreadId) (p : Post) → (after_settling f u p).spare ≡ f.spare
spare-after_settling f u p = ap (λ (g : FatState). g.spare) (after_settling-is f u p)

KeepsMonitors-after_grant : (f : FatState) (m : ℕ) (u : ThreadId) (p : Post) (r : Role) → KeepsMonitors f (Some m) (after_grant f m u p r)
KeepsMonitors-after_grant f m u p r =
    KeepsMonitors-after f (after_settling f u p) (after_grant f m u p r) (Some m) (monitors-after_settling f u p) (limit-after_settling f u p) (moment-after_settling f u p) (spare-after_settling f u p)
    (KeepsMonitors-with_owner (after_settling f u p) m (Some u) (holds_granted p))

KeepsMonitors-after_hand_on : (f : FatState) (m : ℕ) (o : Option ThreadId) → KeepsMonitors f (Some m) (after_hand_on f m o)
KeepsMonitors-after_hand_on f m None = KeepsMonitors-with_owner f m None 0
KeepsMonitors-after_hand_on f m (Some u) = KeepsMonitors-after_grant f m u (post_at f u) Entry

-- whoever leaves its wait set takes a monitor that nobody owned, at most
KeepsMonitors-after_sending_back : (f : FatState) (u : ThreadId) (m : ℕ) (p : Post) (o : Option ThreadId) → (monitor_at f m).owner ≡ o → KeepsMonitors f None (after_sending_back f u m p o)
KeepsMonitors-after_sending_back f u m p (Some owner) e = KeepsMonitors-same f None (after_sending_back f u m p (Some owner)) refl refl refl refl
KeepsMonitors-after_sending_back f u m p None e =
    let k = KeepsMonitors-after_grant f m u p WaitSet in (
      k.0,
      k.1,
      k.2,
      (λ j other owned. k.3 j (λ same. absurd (let here : m ≡ j = same_Some m j same in let none : is_some {T = ThreadId} None ≡ true = rw (← here, e) at owned in cc)) owned),
      k.4,
      k.5,
    )

pub KeepsMonitors-after_removal : (f : FatState) (u : ThreadId) (w : Why) (p : Post) → KeepsMonitors f None (after_removal f u w p)
KeepsMonitors-after_removal f u w Out = KeepsMonitors-same f None f refl refl refl refl
KeepsMonitors-after_removal f u w (Entering m) = KeepsMonitors-same f None f refl refl refl refl
KeepsMonitors-after_removal f u w (Waiting m n d) = KeepsMonitors-after_sending_back f u m (Back m n w) (monitor_at f m).owner refl
KeepsMonitors-after_removal f u w (Back m n x) = KeepsMonitors-same f None f refl refl refl refl
KeepsMonitors-after_removal f u w (Granted r) = KeepsMonitors-same f None f refl refl refl refl

-- one after the other
KeepsMonitors-then : (f g h : FatState) → KeepsMonitors f None g → KeepsMonitors g None h → KeepsMonitors f None h
KeepsMonitors-then f g h a b = (
  b.0 ∙ a.0,
  b.1 ∙ a.1,
  (λ j. b.2 j ∙ a.2 j),
  (λ j other owned. let same = a.3 j other owned in b.3 j other (rw same owned) ∙ same),
  b.4 ∙ a.4,
  b.5 ∙ a.5,
)

KeepsMonitors-after_removals : (f : FatState) (us : List ThreadId) → KeepsMonitors f None (after_removals f us)
KeepsMonitors-after_removals f [] = KeepsMonitors-same f None f refl refl refl refl
KeepsMonitors-after_removals f (u ∷ us) =
    KeepsMonitors-then f (after_removal f u Notified (post_at f u)) (after_removals f (u ∷ us)) (KeepsMonitors-after_removal f u Notified (post_at f u))
    (KeepsMonitors-after_removals (after_removal f u Notified (post_at f u)) us)

-- of the named monitor nothing is said
KeepsMonitors-weaker : (f : FatState) (a : Option ℕ) (g : FatState) → KeepsMonitors f None g → KeepsMonitors f a g
KeepsMonitors-weaker f a g k = (k.0, k.1, k.2, (λ j other owned. k.3 j (λ e. cc) owned), k.4, k.5)

KeepsMonitors-enter_outcome : (f : FatState) (t : ThreadId) (m : ℕ) (o : Option ThreadId) → KeepsMonitors f (Some m) (enter_outcome f t m o).after
KeepsMonitors-enter_outcome f t m None = KeepsMonitors-with_owner f m (Some t) 1
KeepsMonitors-enter_outcome f t m (Some u) =
    either (KeepsMonitors f (Some m)) (u.0 == t.0) _ _
    (either (KeepsMonitors f (Some m)) (nat_lt (monitor_at f m).holds 65535) _ _ (KeepsMonitors-with_owner f m (Some u) ((monitor_at f m).holds + 1)) (KeepsMonitors-same f (Some m) f refl refl refl refl))
    (KeepsMonitors-same f (Some m) (after_parking f t (Entering m) m Entry) refl refl refl refl)

KeepsMonitors-exit_outcome : (f : FatState) (t : ThreadId) (m : ℕ) → KeepsMonitors f (Some m) (exit_outcome f t m).after
KeepsMonitors-exit_outcome f t m =
    either (KeepsMonitors f (Some m)) (nat_lt 1 (monitor_at f m).holds) _ _ (KeepsMonitors-with_owner f m (Some t) ((monitor_at f m).holds - 1)) (KeepsMonitors-after_hand_on f m (first_of f m Entry))

KeepsMonitors-notify_outcome : (f : FatState) (m : ℕ) (o : Option ThreadId) → KeepsMonitors f (Some m) (notify_outcome f o).after
KeepsMonitors-notify_outcome f m None = KeepsMonitors-same f (Some m) f refl refl refl refl
KeepsMonitors-notify_outcome f m (Some u) = KeepsMonitors-weaker f (Some m) (after_removal f u Notified (post_at f u)) (KeepsMonitors-after_removal f u Notified (post_at f u))

KeepsMonitors-collect_outcome : (f : FatState) (t : ThreadId) (p : Post) → KeepsMonitors f None (collect_outcome f t p).after
KeepsMonitors-collect_outcome f t Out = KeepsMonitors-same f None f refl refl refl refl
KeepsMonitors-collect_outcome f t (Entering m) = KeepsMonitors-same f None f refl refl refl refl
KeepsMonitors-collect_outcome f t (Waiting m n d) = KeepsMonitors-same f None f refl refl refl refl
KeepsMonitors-collect_outcome f t (Back m n w) = KeepsMonitors-same f None f refl refl refl refl
KeepsMonitors-collect_outcome f t (Granted r) = KeepsMonitors-same f None (with_post f t Out) refl refl refl refl

KeepsMonitors-interrupt_outcome : (f : FatState) (u : ThreadId) (o : Option Post) → KeepsMonitors f None (interrupt_outcome f u o).after
KeepsMonitors-interrupt_outcome f u None = KeepsMonitors-same f None f refl refl refl refl
KeepsMonitors-interrupt_outcome f u (Some p) =
    KeepsMonitors-after f (with_flag f u true) (after_removal (with_flag f u true) u Interrupted p) None refl refl refl refl (KeepsMonitors-after_removal (with_flag f u true) u Interrupted p)

KeepsMonitors-flag_outcome : (f : FatState) (o : Option Bool) → KeepsMonitors f None (flag_outcome f o).after
KeepsMonitors-flag_outcome f None = KeepsMonitors-same f None f refl refl refl refl
KeepsMonitors-flag_outcome f (Some b) = KeepsMonitors-same f None f refl refl refl refl

KeepsMonitors-expire_outcome : (f : FatState) (t : ThreadId) (p : Post) → KeepsMonitors f None (expire_outcome f t p).after
KeepsMonitors-expire_outcome f t (Waiting m n (Some d)) =
    either (KeepsMonitors f None) (nat_lt f.moment d) _ _ (KeepsMonitors-same f None f refl refl refl refl) (KeepsMonitors-after_removal f t Elapsed (Waiting m n (Some d)))
KeepsMonitors-expire_outcome f t (Waiting m n None) = KeepsMonitors-same f None f refl refl refl refl
KeepsMonitors-expire_outcome f t Out = KeepsMonitors-same f None f refl refl refl refl
KeepsMonitors-expire_outcome f t (Entering m) = KeepsMonitors-same f None f refl refl refl refl
KeepsMonitors-expire_outcome f t (Back m n w) = KeepsMonitors-same f None f refl refl refl refl
KeepsMonitors-expire_outcome f t (Granted r) = KeepsMonitors-same f None f refl refl refl refl

KeepsMonitors-spurious_outcome : (f : FatState) (t : ThreadId) (p : Post) → KeepsMonitors f None (spurious_outcome f t p).after
KeepsMonitors-spurious_outcome f t (Waiting m n d) = KeepsMonitors-after_removal f t Spurious (Waiting m n d)
KeepsMonitors-spurious_outcome f t Out = KeepsMonitors-same f None f refl refl refl refl
KeepsMonitors-spurious_outcome f t (Entering m) = KeepsMonitors-same f None f refl refl refl refl
KeepsMonitors-spurious_outcome f t (Back m n w) = KeepsMonitors-same f None f refl refl refl refl
KeepsMonitors-spurious_outcome f t (Granted r) = KeepsMonitors-same f None f refl refl refl refl

-- another than the owner changes nothing
KeepsMonitors-by_owner : (f : FatState) (t : ThreadId) (m : ℕ) (x y : Outcome) → KeepsMonitors f (Some m) x.after → y.after ≡ f → KeepsMonitors f (Some m) (if is_owned_by (monitor_at f m).owner t then x else y).after
KeepsMonitors-by_owner f t m x y h e =
    either (KeepsMonitors f (Some m)) (is_owned_by (monitor_at f m).owner t) x y h
    (KeepsMonitors-same f (Some m) y.after (ap (λ (g : FatState). g.monitors) e) (ap (λ (g : FatState). g.limit) e) (ap (λ (g : FatState). g.moment) e) (ap (λ (g : FatState). g.spare) e))

KeepsMonitors-outcome_of : (f : FatState) (t : ThreadId) (a : Action) → KeepsMonitors f (named a) (outcome_of f t a).after
KeepsMonitors-outcome_of f t (action.Enter m) = KeepsMonitors-enter_outcome f t m (monitor_at f m).owner
KeepsMonitors-outcome_of f t (action.Exit m) = KeepsMonitors-by_owner f t m (exit_outcome f t m) _ (KeepsMonitors-exit_outcome f t m) refl
KeepsMonitors-outcome_of f t (action.Wait m millis nanos) =
    KeepsMonitors-by_owner f t m (wait_outcome f t m millis nanos) _
    (either (KeepsMonitors f (Some m)) (are_good millis nanos) _ _
    (either (KeepsMonitors f (Some m)) (flag_at f t) _ _ (KeepsMonitors-same f (Some m) (with_flag f t false) refl refl refl refl) (KeepsMonitors-after_hand_on f m (first_of f m Entry)))
    (KeepsMonitors-same f (Some m) f refl refl refl refl)) refl
KeepsMonitors-outcome_of f t (action.Notify m) = KeepsMonitors-by_owner f t m (notify_outcome f (first_of f m WaitSet)) _ (KeepsMonitors-notify_outcome f m (first_of f m WaitSet)) refl
KeepsMonitors-outcome_of f t (action.NotifyAll m) =
    KeepsMonitors-by_owner f t m _ _
    (KeepsMonitors-weaker f (Some m) (after_removals f (line_of f m WaitSet)) (KeepsMonitors-after_removals f (line_of f m WaitSet))) refl
KeepsMonitors-outcome_of f t (action.Holds m) = KeepsMonitors-same f (Some m) f refl refl refl refl
KeepsMonitors-outcome_of f t (action.Interrupt u) = KeepsMonitors-interrupt_outcome f u (post_of f u)
KeepsMonitors-outcome_of f t action.Interrupted = KeepsMonitors-same f None (with_flag f t false) refl refl refl refl
KeepsMonitors-outcome_of f t (action.IsInterrupted u) = KeepsMonitors-flag_outcome f (flag_of f u)
KeepsMonitors-outcome_of f t action.Expire = KeepsMonitors-expire_outcome f t (post_at f t)
KeepsMonitors-outcome_of f t action.Spurious = KeepsMonitors-spurious_outcome f t (post_at f t)
KeepsMonitors-outcome_of f t action.Collect = KeepsMonitors-collect_outcome f t (post_at f t)
KeepsMonitors-outcome_of f t action.End = either (KeepsMonitors f None) (owns_one f.monitors t) _ _ (KeepsMonitors-same f None f refl refl refl refl) (KeepsMonitors-same f None (without_thread f t) refl refl refl refl)

-- no monitor comes or goes, each keeps its object, and of those with an owner only the named one changes
pub length-outcome_of : (f : FatState) (t : ThreadId) (a : Action) → length (outcome_of f t a).after.monitors ≡ length f.monitors
length-outcome_of f t a = (KeepsMonitors-outcome_of f t a).0

pub limit-outcome_of : (f : FatState) (t : ThreadId) (a : Action) → (outcome_of f t a).after.limit ≡ f.limit
limit-outcome_of f t a = (KeepsMonitors-outcome_of f t a).1

pub object-outcome_of : (f : FatState) (t : ThreadId) (a : Action) (j : ℕ) → (monitor_at (outcome_of f t a).after j).object ≡ (monitor_at f j).object
object-outcome_of f t a j = (KeepsMonitors-outcome_of f t a).2 j

pub other-outcome_of : (f : FatState) (t : ThreadId) (a : Action) (j : ℕ) → named a ≢ Some j → IsSome (monitor_at f j).owner → monitor_at (outcome_of f t a).after j ≡ monitor_at f j
other-outcome_of f t a j other owned = (KeepsMonitors-outcome_of f t a).3 j other owned

-- nor does one take or make room for a bind
pub spare-outcome_of : (f : FatState) (t : ThreadId) (a : Action) → (outcome_of f t a).after.spare ≡ f.spare
spare-outcome_of f t a = (KeepsMonitors-outcome_of f t a).5

-- lists of as many monitors, each with its object, have the same objects
same_objects : (xs ys : List Monitor) → length xs ≡ length ys → ((j : ℕ) → (slice_index_or xs j unbound).object ≡ (slice_index_or ys j unbound).object)
    → list_map (λ (b : Monitor). b.object) xs ≡ list_map (λ (b : Monitor). b.object) ys
same_objects [] [] same each = refl
same_objects [] (y ∷ ys) same each = absurd (omega arith)
same_objects (x ∷ xs) [] same each = absurd (omega arith)
same_objects (x ∷ xs) (y ∷ ys) same each =
    let head : x.object ≡ y.object = each 0 in
    let tail = same_objects xs ys (omega arith) (λ j. each (suc j)) in
    λ k. head k ∷ tail k

pub objects-outcome_of : (f : FatState) (t : ThreadId) (a : Action) → objects_of (outcome_of f t a).after ≡ objects_of f
objects-outcome_of f t a = same_objects (outcome_of f t a).after.monitors f.monitors (length-outcome_of f t a) (object-outcome_of f t a)

pub objects_after : (f : FatState) (t : ThreadId) (a : Action) (r : Result Done ActFault) (after : FatState) → record { answer = r; after = after } ≡ outcome_of f t a → objects_of after ≡ objects_of f
objects_after f t a r after e = ap (λ (o : Outcome). objects_of o.after) e ∙ objects-outcome_of f t a

pub moment-after_removals : (f : FatState) (us : List ThreadId) → (after_removals f us).moment ≡ f.moment
moment-after_removals f us = (KeepsMonitors-after_removals f us).4

-- a notifyAll of a monitor with an owner changes no monitor
pub monitors-after_removals : (f : FatState) (m : ℕ) → IsSound f → IsSome (monitor_at f m).owner → (after_removals f (line_of f m WaitSet)).monitors ≡ f.monitors
monitors-after_removals f m sound owned = ap (λ (g : FatState). g.monitors) (wait_set-queued f m sound owned) ∙ monitors-all_queued f (line_of f m WaitSet)
