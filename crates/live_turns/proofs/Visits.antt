-- How often a pass is at the book, step by step.
use Rattle.std.specs.Prelude.{◌≡◌, ◌<◌, ℕ, ◌+◌, ◌-◌, ◌==◌, Bool, true, false, nat_lt, List, [], ◌∷◌, length, Result, Ok, Err, IfOk, OnErr}
use Rattle.std.proofs.Common.{suc, arith, ap, sym, ◌∙◌, subst, length-append}
use Rattle.std.proofs.lemmas.Bool.{cond_both}
use Rattle.lock_word.specs.declared.Lock.{Lock}
use Rattle.lock_word.specs.declared.Lock.TheVariants.{Free, Thin, Fat}
use Rattle.lock_word.specs.declared.Split.TheVariants.{Wide}
use Rattle.fat_monitor.specs.Acting.{are_good}
use Rattle.fat_monitor.specs.declared.actions.Reply.{Reply}
use Rattle.fat_monitor.specs.declared.actions.Reply.TheVariants as reply
use Rattle.fast_path.specs.declared.calls.Operation.{Operation}
use Rattle.fast_path.specs.declared.calls.Operation.TheVariants as op
use Rattle.fast_path.specs.declared.Next.{Next}
use Rattle.fast_path.specs.declared.Next.TheVariants as next
use Rattle.fast_path.specs.Table.{next_of, when_free, when_own, when_anothers}
use Rattle.header_words.specs.declared.event.EventKind.{EventKind}
use Rattle.header_words.specs.declared.event.Event.{Event}
use Rattle.header_words.specs.Events.{event}
use Rattle.header_words.specs.Passes.{PassValue, MakesEvent}
use Rattle.step_core.specs.declared.places.Place.TheVariants.{Idle, InCall, Ending, AtPost}
use Rattle.step_core.specs.declared.paths.Point.{Point}
use Rattle.step_core.specs.declared.paths.Point.TheVariants.{At, Expired, Said}
use Rattle.live_book.specs.declared.faults.LiveFault.{LiveFault}
use Rattle.live_turns.specs.declared.standings.Turned.{Turned}
use Rattle.live_turns.specs.Points.{Visited, Loaded, RefusesThere}
use Rattle.live_turns.specs.Ways.{Holding, TakesGate, GivesGate, VisitsBook}

-- an event on a word is no visit
pub event_visit : (o : ℕ) (d : EventKind) (n : ℕ) (p q : PassValue) → MakesEvent o d n p q → (length p.mine < length q.mine) × VisitsBook 0 p q
event_visit o d n p q made =
    let step : q.steps ≡ suc p.steps = made.step in
    let len : length q.mine ≡ length p.mine + 1 = ap (λ (xs : List Event). length xs) made.mine ∙ length-append p.mine (event p.index o d ∷ []) in
    (omega arith, omega arith)

pub same_visit : (p q : PassValue) → q ≡ p → VisitsBook 0 p q
same_visit p q same = subst (λ (x : PassValue). VisitsBook 0 p x) (sym same) (omega arith)

-- the gate was taken, and given back
pub held_visit : (p p' q' q : Holding) → TakesGate p p' → VisitsBook 0 p'.words q'.words → GivesGate q' q → VisitsBook 1 p.words q.words
held_visit p p' q' q took visit gave =
    let took_steps : p'.words.steps ≡ suc p.words.steps = ap (λ (x : PassValue). x.steps) took.0.pass in
    let took_mine : length p'.words.mine ≡ length p.words.mine = ap (λ (x : PassValue). length x.mine) took.0.pass in
    let gave_steps : q.words.steps ≡ suc q'.words.steps = ap (λ (x : PassValue). x.steps) gave.0 in
    let gave_mine : length q.words.mine ≡ length q'.words.mine = ap (λ (x : PassValue). length x.mine) gave.0 in
    omega arith

pub held_same : (p p' q' q : Holding) → TakesGate p p' → q'.words ≡ p'.words → GivesGate q' q → VisitsBook 1 p.words q.words
held_same p p' q' q took same gave = held_visit p p' q' q took (same_visit p'.words q'.words same) gave

pub visit_same : (p q r : PassValue) → VisitsBook 0 p q → r ≡ q → VisitsBook 0 p r
visit_same p q r h same = subst (λ (x : PassValue). VisitsBook 0 p x) (sym same) h

-- a turn at the book, before which no other event was made
visited_after : (b : Bool) (s : Point) (p q r : PassValue) → VisitsBook 0 p q → Visited b s q r → Visited b s p r
visited_after true s p q r h k = let more : VisitsBook 0 q r = k.1 in (k.0, omega arith)
visited_after false s p q r h k = let more : VisitsBook 1 q r = k.1 in (k.0, omega arith)

refuses_there : (r : Reply) (p q : PassValue) → VisitsBook 1 p q → RefusesThere r p q
refuses_there reply.Entered p q h = tt
refuses_there reply.Exited p q h = tt
refuses_there reply.WaitOver p q h = tt
refuses_there reply.Interrupted p q h = tt
refuses_there reply.Notified p q h = tt
refuses_there reply.Yes p q h = tt
refuses_there reply.No p q h = tt
refuses_there reply.Done p q h = tt
refuses_there reply.Ended p q h = tt
refuses_there reply.IllegalMonitorState p q h = tt
refuses_there reply.IllegalArgument p q h = tt
refuses_there (reply.Refused x) p q h = h

visited_loaded : (b : Bool) (s : Point) (p q : PassValue) → Visited b s p q → Loaded b s p q
visited_loaded true s p q h = h
visited_loaded false (Said r) p q h = refuses_there r p q h.1
visited_loaded false (At Idle) p q h = absurd h.0
visited_loaded false (At (InCall s)) p q h = absurd h.0
visited_loaded false (At AtPost) p q h = h.1
visited_loaded false (At (Ending n)) p q h = absurd h.0
visited_loaded false Expired p q h = h.1

pub loaded_at : (b : Bool) (s : Point) (p q r : PassValue) → VisitsBook 0 p q → Visited b s q r → Loaded b s p r
loaded_at b s p q r h k = visited_loaded b s p r (visited_after b s p q r h k)

pub ok_loaded_at : (x : Result Turned LiveFault) (p q r : PassValue) → VisitsBook 0 p q → IfOk x (λ t. Visited t.gate_taken t.point q r)
    → IfOk x (λ t. Loaded t.gate_taken t.point p r)
ok_loaded_at (Ok t) p q r h k = loaded_at t.gate_taken t.point p q r h k
ok_loaded_at (Err f) p q r h k = tt

refuses_after : (x : Reply) (p q r : PassValue) → VisitsBook 0 p q → RefusesThere x q r → RefusesThere x p r
refuses_after reply.Entered p q r h k = tt
refuses_after reply.Exited p q r h k = tt
refuses_after reply.WaitOver p q r h k = tt
refuses_after reply.Interrupted p q r h k = tt
refuses_after reply.Notified p q r h k = tt
refuses_after reply.Yes p q r h k = tt
refuses_after reply.No p q r h k = tt
refuses_after reply.Done p q r h k = tt
refuses_after reply.Ended p q r h k = tt
refuses_after reply.IllegalMonitorState p q r h k = tt
refuses_after reply.IllegalArgument p q r h k = tt
refuses_after (reply.Refused x) p q r h k = let more : VisitsBook 1 q r = k in omega arith

-- a turn from its load on, and behind it
pub loaded_after : (b : Bool) (s : Point) (p q r : PassValue) → VisitsBook 0 p q → length p.mine < length q.mine → Loaded b s q r → Loaded b s p r
loaded_after true s p q r h lt k = let more : VisitsBook 0 q r = k.1 in (k.0, omega arith)
loaded_after false (Said x) p q r h lt k = refuses_after x p q r h k
loaded_after false (At Idle) p q r h lt k = absurd k
loaded_after false (At (InCall s)) p q r h lt k =
    let longer : length q.mine < length r.mine = k.0 in let more : VisitsBook 0 q r = k.1 in (omega arith, omega arith)
loaded_after false (At AtPost) p q r h lt k = let more : VisitsBook 1 q r = k in omega arith
loaded_after false (At (Ending n)) p q r h lt k = absurd k
loaded_after false Expired p q r h lt k = let more : VisitsBook 1 q r = k in omega arith

pub err_always : {X E : Type 0} (P : Type 0) (r : Result X E) → P → OnErr r P
err_always P (Ok x) p = tt
err_always P (Err e) p = p

pub err_visit : (x : Result Turned LiveFault) (p q r : PassValue) → VisitsBook 0 p q → OnErr x (VisitsBook 1 q r) → OnErr x (VisitsBook 1 p r)
err_visit (Ok t) p q r h k = tt
err_visit (Err f) p q r h k = let more : VisitsBook 1 q r = k in omega arith

-- no word calls for a refusal
abbrev refuses_next : Next → PassValue → PassValue → Type 0
refuses_next (next.Reply r) p q = RefusesThere r p q
refuses_next n p q = Unit {0}

calls_for : (o : Operation) (l : Lock) (me : ℕ) (p q : PassValue) → refuses_next (next_of Wide o l me) p q
calls_for o Free me p q = free o
  where
    free : (o : Operation) → refuses_next (when_free o me) p q
    free op.Enter = tt
    free op.Exit = tt
    free (op.Wait millis nanos) = tt
    free op.Notify = tt
    free op.NotifyAll = tt
    free op.Holds = tt
calls_for o (Fat m) me p q = tt
calls_for o (Thin i n) me p q = cond_both (i == me) (when_own Wide o me n) (when_anothers o) (λ (x : Next). refuses_next x p q) (λ _. own o) (λ _. other o)
  where
    own : (o : Operation) → refuses_next (when_own Wide o me n) p q
    own op.Enter = cond_both (nat_lt n 255) (next.Store (Thin me (n + 1))) next.Bind (λ (x : Next). refuses_next x p q) (λ _. tt) (λ _. tt)
    own op.Exit = cond_both (nat_lt 0 n) (next.Store (Thin me (n - 1))) (next.Store Free) (λ (x : Next). refuses_next x p q) (λ _. tt) (λ _. tt)
    own (op.Wait millis nanos) = cond_both (are_good millis nanos) next.Bind (next.Reply reply.IllegalArgument) (λ (x : Next). refuses_next x p q) (λ _. tt) (λ _. tt)
    own op.Notify = tt
    own op.NotifyAll = tt
    own op.Holds = tt

    other : (o : Operation) → refuses_next (when_anothers o) p q
    other op.Enter = tt
    other op.Exit = tt
    other (op.Wait millis nanos) = tt
    other op.Notify = tt
    other op.NotifyAll = tt
    other op.Holds = tt

pub reply_loaded : (o : Operation) (l : Lock) (me : ℕ) (r : Reply) (p q : PassValue) → next_of Wide o l me ≡ next.Reply r → RefusesThere r p q
reply_loaded o l me r p q is = subst (λ (x : Next). refuses_next x p q) is (calls_for o l me p q)
