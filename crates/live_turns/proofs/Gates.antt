-- What a pass that has the gate knows of the bindings, and what is left of a call that is given up there.
use Rattle.std.specs.Prelude.{◌≡◌, ◌++◌, [], ◌∷◌, ℕ, Bool, true, false, List, length, Result, Ok, Err, IfOk, IfErr, OnErr}
use Rattle.std.proofs.Common.{sym, subst}
use Rattle.lock_word.specs.declared.ObjectId.{ObjectId}
use Rattle.header_words.specs.declared.event.Event.{Event}
use Rattle.header_words.specs.Bindings.{Binds, Covers, HasPublish}
use Rattle.header_words.specs.Passes.{PassValue, HasTaken}
use Rattle.header_words.proofs.Bindings.{publish_prefix, binds_last, covers_grown}
use Rattle.step_core.specs.declared.places.Place.TheVariants.{InCall}
use Rattle.step_core.specs.declared.places.Stage.{Stage}
use Rattle.step_core.specs.declared.paths.Point.{Point}
use Rattle.step_core.specs.declared.paths.Point.TheVariants.{At}
use Rattle.live_book.specs.declared.faults.LiveFault.{LiveFault}
use Rattle.live_book.specs.declared.faults.LiveFault.TheVariants as fault
use Rattle.live_turns.specs.declared.standings.Turned.{Turned}
use Rattle.live_turns.specs.Asked.{IsDeskFault}
use Rattle.live_turns.specs.Ways.{Holding, Went, Halted, MayHalt, NeedsBook, parked}
use Rattle.live_turns.proofs.Going.{went_then, halted_here, halted_then}

pub covers_bound : (xs ys : List ObjectId) (x : ObjectId) (seen : List Event) → ys ≡ xs ++ x ∷ [] → Covers xs seen → Covers ys seen
covers_bound xs ys x seen e h = covers_grown xs ys (x ∷ []) seen e h

pub binds_bound : (xs ys : List ObjectId) (x : ObjectId) (m : ℕ) → ys ≡ xs ++ x ∷ [] → m ≡ length xs → Binds ys m x.0
binds_bound xs ys x m e n = subst (λ (zs : List ObjectId). Binds zs m x.0) (sym e) (subst (λ (k : ℕ). Binds (xs ++ x ∷ []) k x.0) (sym n) (binds_last xs x))

pub covers_kept : (xs ys : List ObjectId) (s t : PassValue) → ys ≡ xs → t ≡ s → Covers xs s.seen → Covers ys t.seen
covers_kept xs ys s t e f h = subst (λ (zs : List ObjectId). Covers zs t.seen) (sym e) (subst (λ (k : PassValue). Covers xs k.seen) (sym f) h)

-- who took the gate has a book that binds what was published before
pub published_still : (xs : List ObjectId) (m o : ℕ) (s t : PassValue) → HasTaken s t → Covers xs t.seen → HasPublish m o s.seen → Binds xs m o
published_still xs m o s t took covers h = covers m o (publish_prefix m o s.seen t.seen took.seen h)

-- a call may be given up at each stage that needs the book
pub may_halt : (f : LiveFault) (s : Stage) → IsDeskFault f → NeedsBook s → MayHalt f (At (InCall s))
may_halt fault.RecordFull s h n = n
may_halt fault.Torn s h n = n
may_halt fault.Backwards s h n = absurd h
may_halt fault.NoObject s h n = absurd h
may_halt fault.NoThread s h n = absurd h

-- it was given up by the desk, which did nothing, at such a stage and after steps that led there
pub gave_up : (r : Result Turned LiveFault) (s : Stage) (p q : Holding) → NeedsBook s → q.words ≡ p.words → OnErr r (q.own ≡ p.own) → IfErr r IsDeskFault
    → IfErr r (λ f. Halted f (At (InCall s)) p q)
gave_up (Ok t) s p q needs words own is = tt
gave_up (Err f) s p q needs words own is = halted_here f (At (InCall s)) p q (may_halt f s is needs) words own

pub gave_up_after : (r : Result Turned LiveFault) (s : Point) (t : Stage) (p q u : Holding) → Went s (At (InCall t)) p q → NeedsBook t → u.words ≡ q.words → OnErr r (u.own ≡ q.own)
    → IfErr r IsDeskFault → IfErr r (λ f. Halted f s p u)
gave_up_after (Ok x) s t p q u went needs words own is = tt
gave_up_after (Err f) s t p q u went needs words own is = halted_then f s (At (InCall t)) p q u went (halted_here f (At (InCall t)) q u (may_halt f t is needs) words own)

-- and by a parked thread
torn_parked : (e : Bool) → MayHalt fault.Torn (parked e)
torn_parked true = tt
torn_parked false = tt

pub gave_up_parked : (r : Result Turned LiveFault) (e : Bool) (p q : Holding) → q.words ≡ p.words → OnErr r (q.own ≡ p.own) → IfErr r (λ f. f ≡ fault.Torn)
    → IfErr r (λ f. Halted f (parked e) p q)
gave_up_parked (Ok t) e p q words own is = tt
gave_up_parked (Err f) e p q words own is =
    halted_here f (parked e) p q (subst (λ (x : LiveFault). MayHalt x (parked e)) (sym is) (torn_parked e)) words own

-- what a turn came to, after the steps that led to it
pub ok_after : (r : Result Turned LiveFault) (s t : Point) (p q u : Holding) → Went s t p q → IfOk r (λ x. Went t x.point q u) → IfOk r (λ x. Went s x.point p u)
ok_after (Ok x) s t p q u h k = went_then s t x.point p q u h k
ok_after (Err e) s t p q u h k = tt

pub err_after : (r : Result Turned LiveFault) (s t : Point) (p q u : Holding) → Went s t p q → IfErr r (λ f. Halted f t q u) → IfErr r (λ f. Halted f s p u)
err_after (Ok x) s t p q u h k = tt
err_after (Err f) s t p q u h k = halted_then f s t p q u h k
