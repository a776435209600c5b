-- For what a live call may still be refused, from each point of its path on.
use Rattle.std.specs.Prelude.{◌≡◌, ◌⊎◌, ℕ, ◌==◌, Bool, true, false, nat_lt, List, [], ◌∷◌, Result, Ok, Err, IfOk}
use Rattle.std.proofs.Common.{refl, inl, inr, sym, ap, subst}
use Rattle.std.proofs.lemmas.Bool.{cond_both}
use Rattle.lock_word.specs.declared.ObjectId.{ObjectId}
use Rattle.lock_word.specs.declared.Lock.{Lock}
use Rattle.lock_word.specs.declared.Lock.TheVariants.{Free, Thin, Fat}
use Rattle.lock_word.specs.declared.Split.TheVariants.{Wide}
use Rattle.lock_word.specs.Layout.{lock_of, greatest_count}
use Rattle.fat_monitor.specs.Acting.{are_good}
use Rattle.fat_monitor.specs.declared.actions.Action.{Action}
use Rattle.fat_monitor.specs.declared.actions.Action.TheVariants as action
use Rattle.fat_monitor.specs.declared.actions.Answer.{Answer}
use Rattle.fat_monitor.specs.declared.actions.Answer.TheVariants as answer
use Rattle.fat_monitor.specs.declared.actions.Cause.{Cause}
use Rattle.fat_monitor.specs.declared.actions.Cause.TheVariants as cause
use Rattle.fat_monitor.specs.declared.actions.Reply.{Reply}
use Rattle.fat_monitor.specs.declared.actions.Reply.TheVariants as reply
use Rattle.fast_path.specs.declared.calls.MonitorCall.{MonitorCall}
use Rattle.fast_path.specs.declared.calls.InterruptCall.{InterruptCall}
use Rattle.fast_path.specs.declared.calls.InterruptCall.TheVariants as about
use Rattle.fast_path.specs.declared.calls.Operation.{Operation}
use Rattle.fast_path.specs.declared.calls.Operation.TheVariants as op
use Rattle.fast_path.specs.declared.Next.{Next}
use Rattle.fast_path.specs.declared.Next.TheVariants as next
use Rattle.fast_path.specs.Table.{next_of, when_free, when_own, when_anothers}
use Rattle.step_core.specs.declared.places.Place.TheVariants.{Idle, InCall, Ending, AtPost}
use Rattle.step_core.specs.declared.places.Stage.{Stage}
use Rattle.step_core.specs.declared.places.Stage.TheVariants.{Begun, Taking, Storing, Binding, Acting, Won, Bound, Inflated, Direct}
use Rattle.step_core.specs.declared.paths.Point.{Point}
use Rattle.step_core.specs.declared.paths.Point.TheVariants.{At, Expired, Said}
use Rattle.step_core.specs.declared.steps.Atomic.{Atomic}
use Rattle.step_core.specs.declared.steps.Atomic.TheVariants as atomic
use Rattle.step_core.specs.Go.{action_on, action_about, stored_reply}
use Rattle.step_core.specs.Path.{Follows, IsAct, IsAwaited, IsCollect, Leads, point_acted, point_after, point_awaited, point_looked, point_next}
use Rattle.live_book.specs.Book.{BookState}
use Rattle.live_book.specs.declared.faults.LiveFault.{LiveFault}
use Rattle.live_turns.specs.declared.standings.Turned.{Turned}
use Rattle.live_turns.specs.Asked.{IsFullAt}
use Rattle.live_turns.specs.Causes.{MayRefuseOn, MayRefuseAbout}
use Rattle.live_turns.specs.Ways.{AreLiveSteps, Holding, IsLiveStep, MayAnswer, MayRefuseAct, Went}

-- a call on an object whose word was read as fat is refused for what its action is
abbrev refuses_acting : Operation → Cause → Type 0
refuses_acting op.Enter x = x ≡ cause.TooDeep
refuses_acting p x = ⊥

abbrev refuses_bound : Bool → Operation → Cause → Type 0
refuses_bound true p x = ⊥
refuses_bound false p x = refuses_acting p x

-- for what a call may still be refused that stands at this stage
abbrev refuses_stage : Stage → Cause → Type 0
refuses_stage (Begun c k) x = MayRefuseOn c.operation x
refuses_stage (Taking o k) x = MayRefuseOn op.Enter x
refuses_stage (Storing c l) x = ⊥
refuses_stage (Binding c n) x = (x ≡ cause.NoMonitor) ⊎ refuses_acting c.operation x
refuses_stage (Acting c m) x = refuses_acting c.operation x
refuses_stage (Won o) x = ⊥
refuses_stage (Bound c won m) x = refuses_bound won c.operation x
refuses_stage (Inflated c m) x = refuses_acting c.operation x
refuses_stage (Direct c) x = MayRefuseAbout c x

-- and at this point; no live call ends a thread, so of one that does no more is said than that it needs no memory
abbrev pub Refuses : Point → Cause → Type 0
Refuses (Said r) x = r ≡ reply.Refused x
Refuses (At Idle) x = ⊥
Refuses (At (InCall s)) x = refuses_stage s x
Refuses (At (Ending n)) x = x ≡ cause.Memory → ⊥
Refuses (At AtPost) x = ⊥
Refuses Expired x = ⊥

-- an operation and the action that it is
acting_on : (p : Operation) (m : ℕ) (x : Cause) → MayRefuseAct (action_on p m) x → refuses_acting p x
acting_on op.Enter m x h = h
acting_on op.Exit m x h = absurd h
acting_on (op.Wait millis nanos) m x h = absurd h
acting_on op.Notify m x h = absurd h
acting_on op.NotifyAll m x h = absurd h
acting_on op.Holds m x h = absurd h

acting_about : (c : InterruptCall) (x : Cause) → MayRefuseAct (action_about c) x → MayRefuseAbout c x
acting_about (about.Interrupt u) x h = h
acting_about about.Interrupted x h = absurd h
acting_about (about.IsInterrupted u) x h = h

acting_began : (p : Operation) (x : Cause) → refuses_acting p x → MayRefuseOn p x
acting_began op.Enter x h = subst (λ (y : Cause). MayRefuseOn op.Enter y) (sym h) tt
acting_began op.Exit x h = absurd h
acting_began (op.Wait millis nanos) x h = absurd h
acting_began op.Notify x h = absurd h
acting_began op.NotifyAll x h = absurd h
acting_began op.Holds x h = absurd h

-- no action is refused for want of memory
no_memory : (a : Action) (x : Cause) → MayRefuseAct a x → x ≡ cause.Memory → ⊥
no_memory (action.Enter m) x h e = absurd (let never = sym h in cc)
no_memory (action.Exit m) x h e = absurd h
no_memory (action.Wait m millis nanos) x h e = absurd h
no_memory (action.Notify m) x h e = absurd h
no_memory (action.NotifyAll m) x h e = absurd h
no_memory (action.Holds m) x h e = absurd h
no_memory (action.Interrupt u) x h e = absurd (let never = sym h in cc)
no_memory action.Interrupted x h e = absurd h
no_memory (action.IsInterrupted u) x h e = absurd (let never = sym h in cc)
no_memory action.Expire x h e = absurd h
no_memory action.Spurious x h e = absurd h
no_memory action.Collect x h e = absurd h
no_memory action.End x h e = absurd h

-- what a loaded word calls for is no refusal; only an enter exchanges the word, and only an enter and a wait bind
abbrev IsCalledBy : Operation → Next → Type 0
IsCalledBy p (next.Reply r) = (x : Cause) → r ≡ reply.Refused x → ⊥
IsCalledBy p (next.Cas l) = p ≡ op.Enter
IsCalledBy p (next.Store l) = Unit {0}
IsCalledBy p next.Bind = MayRefuseOn p cause.NoMonitor
IsCalledBy p (next.Fat m) = Unit {0}
IsCalledBy p next.Spin = Unit {0}

called_free : (p : Operation) (me : ℕ) → IsCalledBy p (when_free p me)
called_free op.Enter me = refl
called_free op.Exit me = λ x e. cc
called_free (op.Wait millis nanos) me = λ x e. cc
called_free op.Notify me = λ x e. cc
called_free op.NotifyAll me = λ x e. cc
called_free op.Holds me = λ x e. cc

called_own : (p : Operation) (me n : ℕ) → IsCalledBy p (when_own Wide p me n)
called_own op.Enter me n = cond_both (nat_lt n (greatest_count Wide)) _ _ (IsCalledBy op.Enter) (λ _. tt) (λ _. tt)
called_own op.Exit me n = cond_both (nat_lt 0 n) _ _ (IsCalledBy op.Exit) (λ _. tt) (λ _. tt)
called_own (op.Wait millis nanos) me n = cond_both (are_good millis nanos) _ _ (IsCalledBy (op.Wait millis nanos)) (λ _. tt) (λ _. λ x e. cc)
called_own op.Notify me n = λ x e. cc
called_own op.NotifyAll me n = λ x e. cc
called_own op.Holds me n = λ x e. cc

called_anothers : (p : Operation) → IsCalledBy p (when_anothers p)
called_anothers op.Enter = tt
called_anothers op.Exit = λ x e. cc
called_anothers (op.Wait millis nanos) = λ x e. cc
called_anothers op.Notify = λ x e. cc
called_anothers op.NotifyAll = λ x e. cc
called_anothers op.Holds = λ x e. cc

called : (p : Operation) (l : Lock) (me : ℕ) → IsCalledBy p (next_of Wide p l me)
called p Free me = called_free p me
called p (Thin i n) me = cond_both (i == me) (when_own Wide p me n) (when_anothers p) (IsCalledBy p) (λ _. called_own p me n) (λ _. called_anothers p)
called p (Fat m) me = tt

-- Each step: what it is refused for that comes behind it, it is refused for.
behind_load : (c : MonitorCall) (k : Bool) (l : Lock) (n : Next) (x : Cause) → IsCalledBy c.operation n → Refuses (point_next c k l n) x → MayRefuseOn c.operation x
behind_load c k l (next.Reply r) x calls rest = absurd (calls x rest)
behind_load c k l next.Spin x calls rest = rest
behind_load c k l (next.Cas w) x calls rest = subst (λ (p : Operation). MayRefuseOn p x) (sym calls) rest
behind_load c k l (next.Store w) x calls rest = absurd rest
behind_load c k l next.Bind x calls (inl e) = subst (λ (y : Cause). MayRefuseOn c.operation y) (sym e) calls
behind_load c k l next.Bind x calls (inr h) = acting_began c.operation x h
behind_load c k l (next.Fat m) x calls rest = acting_began c.operation x rest

from_begun : (me : ℕ) (c : MonitorCall) (k : Bool) (a : Atomic) (x : Cause) → Refuses (point_after Wide me (At (InCall (Begun c k))) a) x → MayRefuseOn c.operation x
from_begun me c k (atomic.Load p w) x rest = behind_load c k (lock_of Wide w.0) (next_of Wide c.operation (lock_of Wide w.0) me) x (called c.operation (lock_of Wide w.0) me) rest
from_begun me c k atomic.Label x rest = absurd rest
from_begun me c k (atomic.Won p w v) x rest = absurd rest
from_begun me c k (atomic.Lost p w) x rest = absurd rest
from_begun me c k (atomic.Stored p w v) x rest = absurd rest
from_begun me c k (atomic.Bound p m) x rest = absurd rest
from_begun me c k (atomic.NotBound p y) x rest = absurd rest
from_begun me c k (atomic.Acted b y) x rest = absurd rest

from_taking : (me : ℕ) (o : ObjectId) (k : Bool) (a : Atomic) (x : Cause) → Follows Wide me (At (InCall (Taking o k))) a → Refuses (point_after Wide me (At (InCall (Taking o k))) a) x → MayRefuseOn op.Enter x
from_taking me o true (atomic.Won p w v) x follows rest = absurd rest
from_taking me o false (atomic.Won p w v) x follows rest = absurd (cc)
from_taking me o true (atomic.Lost p w) x follows rest = rest
from_taking me o false (atomic.Lost p w) x follows rest = rest
from_taking me o k atomic.Label x follows rest = absurd follows
from_taking me o k (atomic.Load p w) x follows rest = absurd follows
from_taking me o k (atomic.Stored p w v) x follows rest = absurd follows
from_taking me o k (atomic.Bound p m) x follows rest = absurd follows
from_taking me o k (atomic.NotBound p y) x follows rest = absurd follows
from_taking me o k (atomic.Acted b y) x follows rest = absurd follows

from_storing : (p : Operation) (x : Cause) → stored_reply p ≡ reply.Refused x → ⊥
from_storing op.Enter x e = cc
from_storing op.Exit x e = cc
from_storing (op.Wait millis nanos) x e = cc
from_storing op.Notify x e = cc
from_storing op.NotifyAll x e = cc
from_storing op.Holds x e = cc

-- the cause of a reply, if it is a refusal
abbrev cause_in : Reply → Cause → Cause
cause_in (reply.Refused x) d = x
cause_in r d = d

from_binding : (me : ℕ) (c : MonitorCall) (n : ℕ) (a : Atomic) (x : Cause) → IsLiveStep a → Refuses (point_after Wide me (At (InCall (Binding c n))) a) x
    → (x ≡ cause.NoMonitor) ⊎ refuses_acting c.operation x
from_binding me c n (atomic.Bound p m) x live rest = inr rest
from_binding me c n (atomic.NotBound p y) x live rest = inl (subst (λ (z : Cause). z ≡ cause.NoMonitor) (ap (λ (r : Reply). cause_in r x) rest) live)
from_binding me c n atomic.Label x live rest = absurd rest
from_binding me c n (atomic.Load p w) x live rest = absurd rest
from_binding me c n (atomic.Won p w v) x live rest = absurd rest
from_binding me c n (atomic.Lost p w) x live rest = absurd rest
from_binding me c n (atomic.Stored p w v) x live rest = absurd rest
from_binding me c n (atomic.Acted b y) x live rest = absurd rest

from_won : (me : ℕ) (o : ObjectId) (a : Atomic) (x : Cause) → Refuses (point_after Wide me (At (InCall (Won o))) a) x → ⊥
from_won me o (atomic.Bound p m) x rest = rest
from_won me o (atomic.NotBound p y) x rest = cc
from_won me o atomic.Label x rest = rest
from_won me o (atomic.Load p w) x rest = rest
from_won me o (atomic.Won p w v) x rest = rest
from_won me o (atomic.Lost p w) x rest = rest
from_won me o (atomic.Stored p w v) x rest = rest
from_won me o (atomic.Acted b y) x rest = rest

from_bound : (c : MonitorCall) (won : Bool) (m : ℕ) (x : Cause) → Refuses (point_after Wide 0 (At (InCall (Bound c won m))) atomic.Label) x → refuses_bound won c.operation x
from_bound c true m x rest = absurd (cc)
from_bound c false m x rest = rest

-- an answer to an action, after which its call stands here
behind_answer : (a : Action) (y : Answer) (x : Cause) → MayAnswer a y → Refuses (point_acted (atomic.Acted a y)) x → MayRefuseAct a x
behind_answer a (answer.Reply r) x may rest = subst (λ (s : Reply). MayAnswer a (answer.Reply s)) rest may
behind_answer a answer.Parked x may rest = absurd rest
behind_answer a answer.Quiet x may rest = absurd rest

from_acting : (b : Action) (a : Atomic) (x : Cause) → IsAct b a → IsLiveStep a → Refuses (point_acted a) x → MayRefuseAct b x
from_acting b (atomic.Acted a y) x acts live rest = subst (λ (d : Action). MayRefuseAct d x) acts.0 (behind_answer a y x live rest)
from_acting b atomic.Label x acts live rest = absurd rest
from_acting b (atomic.Load p w) x acts live rest = absurd rest
from_acting b (atomic.Won p w v) x acts live rest = absurd rest
from_acting b (atomic.Lost p w) x acts live rest = absurd rest
from_acting b (atomic.Stored p w v) x acts live rest = absurd rest
from_acting b (atomic.Bound p m) x acts live rest = absurd rest
from_acting b (atomic.NotBound p y) x acts live rest = absurd rest

-- a parked thread gets a reply by a collect alone
collected : (a : Action) (r : Reply) → IsCollect (atomic.Acted a (answer.Reply r)) → a ≡ action.Collect
collected action.Collect r h = refl
collected (action.Enter m) r h = absurd h
collected (action.Exit m) r h = absurd h
collected (action.Wait m millis nanos) r h = absurd h
collected (action.Notify m) r h = absurd h
collected (action.NotifyAll m) r h = absurd h
collected (action.Holds m) r h = absurd h
collected (action.Interrupt u) r h = absurd h
collected action.Interrupted r h = absurd h
collected (action.IsInterrupted u) r h = absurd h
collected action.Expire r h = absurd h
collected action.Spurious r h = absurd h
collected action.End r h = absurd h

awaited : (a : Action) (r : Reply) → IsAwaited (atomic.Acted a (answer.Reply r)) → a ≡ action.Collect
awaited action.Collect r h = refl
awaited (action.Enter m) r h = absurd h
awaited (action.Exit m) r h = absurd h
awaited (action.Wait m millis nanos) r h = absurd h
awaited (action.Notify m) r h = absurd h
awaited (action.NotifyAll m) r h = absurd h
awaited (action.Holds m) r h = absurd h
awaited (action.Interrupt u) r h = absurd h
awaited action.Interrupted r h = absurd h
awaited (action.IsInterrupted u) r h = absurd h
awaited action.Expire r h = absurd h
awaited action.Spurious r h = absurd h
awaited action.End r h = absurd h

none_collected : (a : Action) (r : Reply) (x : Cause) → a ≡ action.Collect → r ≡ reply.Refused x → MayAnswer a (answer.Reply r) → ⊥
none_collected a r x is rest may =
    subst (λ (b : Action). MayAnswer b (answer.Reply (reply.Refused x))) is (subst (λ (s : Reply). MayAnswer a (answer.Reply s)) rest may)

behind_awaited : (a : Atomic) (x : Cause) → ((b : Action) (r : Reply) → a ≡ atomic.Acted b (answer.Reply r) → b ≡ action.Collect) → IsLiveStep a → Refuses (point_awaited a) x → ⊥
behind_awaited (atomic.Acted b (answer.Reply r)) x is live rest = none_collected b r x (is b r refl) rest live
behind_awaited (atomic.Acted b answer.Parked) x is live rest = rest
behind_awaited (atomic.Acted b answer.Quiet) x is live rest = rest
behind_awaited atomic.Label x is live rest = rest
behind_awaited (atomic.Load p w) x is live rest = rest
behind_awaited (atomic.Won p w v) x is live rest = rest
behind_awaited (atomic.Lost p w) x is live rest = rest
behind_awaited (atomic.Stored p w v) x is live rest = rest
behind_awaited (atomic.Bound p m) x is live rest = rest
behind_awaited (atomic.NotBound p y) x is live rest = rest

from_looked : (n : ℕ) (own : Bool) (x : Cause) → Refuses (point_looked n own) x → x ≡ cause.Memory → ⊥
from_looked n true x rest e = absurd (cc)
from_looked n false x rest e = rest e

from_ending : (me n : ℕ) (a : Atomic) (x : Cause) → IsLiveStep a → Refuses (point_after Wide me (At (Ending n)) a) x → x ≡ cause.Memory → ⊥
from_ending me n (atomic.Load p w) x live rest e = from_looked n _ x rest e
from_ending me n (atomic.Acted b y) x live rest e = no_memory b x (behind_answer b y x live rest) e
from_ending me n atomic.Label x live rest e = absurd rest
from_ending me n (atomic.Won p w v) x live rest e = absurd rest
from_ending me n (atomic.Lost p w) x live rest e = absurd rest
from_ending me n (atomic.Stored p w v) x live rest e = absurd rest
from_ending me n (atomic.Bound p m) x live rest e = absurd rest
from_ending me n (atomic.NotBound p y) x live rest e = absurd rest

stepped : (me : ℕ) (s : Point) (a : Atomic) (x : Cause) → Follows Wide me s a → IsLiveStep a → Refuses (point_after Wide me s a) x → Refuses s x
stepped me (Said r) a x follows live rest = absurd follows
stepped me Expired a x follows live rest = behind_awaited a x (λ b r e. collected b r (subst IsCollect e follows)) live rest
stepped me (At Idle) a x follows live rest = absurd follows
stepped me (At AtPost) a x follows live rest = behind_awaited a x (λ b r e. awaited b r (subst IsAwaited e follows)) live rest
stepped me (At (Ending n)) a x follows live rest = from_ending me n a x live rest
stepped me (At (InCall (Begun c k))) a x follows live rest = from_begun me c k a x rest
stepped me (At (InCall (Taking o k))) a x follows live rest = from_taking me o k a x follows rest
stepped me (At (InCall (Storing c l))) a x follows live rest = from_storing c.operation x rest
stepped me (At (InCall (Binding c n))) a x follows live rest = from_binding me c n a x live rest
stepped me (At (InCall (Acting c m))) a x follows live rest = acting_on c.operation m x (from_acting (action_on c.operation m) a x follows live rest)
stepped me (At (InCall (Won o))) a x follows live rest = from_won me o a x rest
stepped me (At (InCall (Bound c won m))) a x follows live rest = from_bound c won m x rest
stepped me (At (InCall (Inflated c m))) a x follows live rest = acting_on c.operation m x (from_acting (action_on c.operation m) a x follows live rest)
stepped me (At (InCall (Direct c))) a x follows live rest = acting_about c x (from_acting (action_about c) a x follows live rest)

leading : (me : ℕ) (s : Point) (es : List Atomic) (x : Cause) → Leads Wide me s es (Said (reply.Refused x)) → AreLiveSteps es → Refuses s x
leading me s [] x h live = subst (λ (t : Point). Refuses t x) (sym h) refl
leading me s (a ∷ es) x h live = stepped me s a x h.0 live.0 (leading me (point_after Wide me s a) es x h.1 live.1)

pub refused_from : (s : Point) (x : Cause) (p q : Holding) → Went s (Said (reply.Refused x)) p q → Refuses s x
refused_from s x p q w = leading p.words.index s w.steps x w.leads w.live

pub refused_on : (c : MonitorCall) (k : Bool) (x : Cause) (p q : Holding) → Went (At (InCall (Begun c k))) (Said (reply.Refused x)) p q → MayRefuseOn c.operation x
refused_on c k x p q w = refused_from (At (InCall (Begun c k))) x p q w

pub refused_about : (c : InterruptCall) (x : Cause) (p q : Holding) → Went (At (InCall (Direct c))) (Said (reply.Refused x)) p q → MayRefuseAbout c x
refused_about c x p q w = refused_from (At (InCall (Direct c))) x p q w

-- no point but that reply itself leads to want of memory
out_of_memory : (s : Point) → (s ≡ Said (reply.Refused cause.Memory) → ⊥) → Refuses s cause.Memory → ⊥
out_of_memory (Said r) other h = other (ap Said h)
out_of_memory (At Idle) other h = h
out_of_memory (At AtPost) other h = h
out_of_memory (At (Ending n)) other h = h refl
out_of_memory Expired other h = h
out_of_memory (At (InCall s)) other h = stage s h
  where
    no_deep : (p : Operation) → refuses_acting p cause.Memory → ⊥
    no_deep op.Enter e = cc
    no_deep op.Exit e = e
    no_deep (op.Wait millis nanos) e = e
    no_deep op.Notify e = e
    no_deep op.NotifyAll e = e
    no_deep op.Holds e = e

    no_begun : (p : Operation) → MayRefuseOn p cause.Memory → ⊥
    no_begun op.Enter e = e
    no_begun op.Exit e = e
    no_begun (op.Wait millis nanos) e = e
    no_begun op.Notify e = e
    no_begun op.NotifyAll e = e
    no_begun op.Holds e = e

    no_about : (c : InterruptCall) → MayRefuseAbout c cause.Memory → ⊥
    no_about (about.Interrupt u) e = cc
    no_about about.Interrupted e = e
    no_about (about.IsInterrupted u) e = cc

    stage : (s : Stage) → refuses_stage s cause.Memory → ⊥
    stage (Begun c k) e = no_begun c.operation e
    stage (Taking o k) e = e
    stage (Storing c l) e = e
    stage (Binding c n) (inl e) = cc
    stage (Binding c n) (inr e) = no_deep c.operation e
    stage (Acting c m) e = no_deep c.operation e
    stage (Won o) e = e
    stage (Bound c true m) e = e
    stage (Bound c false m) e = no_deep c.operation e
    stage (Inflated c m) e = no_deep c.operation e
    stage (Direct c) e = no_about c e

pub no_want_of_memory : (s : Point) (p q : Holding) → (s ≡ Said (reply.Refused cause.Memory) → ⊥) → Went s (Said (reply.Refused cause.Memory)) p q → ⊥
no_want_of_memory s p q other w = out_of_memory s other (refused_from s cause.Memory p q w)

-- a call whose object has a monitor is refused for none
never_full : (p : Operation) → refuses_acting p cause.NoMonitor → ⊥
never_full op.Enter e = cc
never_full op.Exit e = e
never_full (op.Wait millis nanos) e = e
never_full op.Notify e = e
never_full op.NotifyAll e = e
never_full op.Holds e = e

pub full_behind : (r : Result Turned LiveFault) (b : BookState) (c : MonitorCall) (m : ℕ) (p q : Holding) → IfOk r (λ t. Went (At (InCall (Inflated c m))) t.point p q) → IfOk r (λ t. IsFullAt b t.point)
full_behind (Ok t) b c m p q w =
    λ e. absurd (never_full c.operation (refused_from (At (InCall (Inflated c m))) cause.NoMonitor p q (subst (λ (s : Point). Went (At (InCall (Inflated c m))) s p q) e w)))
full_behind (Err f) b c m p q w = tt
