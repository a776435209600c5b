-- The arrows of a list of columns.
use Rattle.std.specs.Prelude.{◌≡◌, ℕ, ◌+◌, List, [], ◌∷◌, ◌++◌, Option, Some, None, if◌then◌else◌, ◌==◌}
use Rattle.std.specs.List.{flat_map}
use Rattle.lock_word.specs.declared.ThreadId.{ThreadId}
use Rattle.lock_word.specs.declared.ObjectId.{ObjectId}
use Rattle.fast_path.specs.declared.calls.Call.{Call}
use Rattle.fast_path.specs.declared.calls.Call.TheVariants as call
use Rattle.step_core.specs.declared.machine.Doing.{Doing}
use Rattle.step_core.specs.declared.machine.Doing.TheVariants.{Wants}
use Rattle.step_core.specs.declared.machine.Move.{Move}
use Rattle.step_core.specs.declared.machine.Move.TheVariants as move
use Rattle.step_core.specs.Machine.{State, Thread, Steps, is_waiting}
use Rattle.pictures.specs.declared.arrows.LastOwner.{LastOwner}
use Rattle.pictures.specs.declared.columns.Column.{Column}
use Rattle.pictures.specs.declared.picture.Arrow.{Arrow}
use Rattle.pictures.specs.declared.picture.ArrowKind.{ArrowKind}
use Rattle.pictures.specs.declared.picture.ArrowKind.TheVariants.{Notify, Interrupt, HandOver}
use Rattle.pictures.specs.declared.picture.StripSpan.{StripSpan}
use Rattle.pictures.specs.Marks.{moves_in}

-- the call that a thread has made and that has no answer yet
abbrev pub call_of_act : Doing → Option Call
call_of_act (Wants c) = Some c
call_of_act act = None

abbrev pub call_in : Option Thread → Option Call
call_in None = None
call_in (Some x) = call_of_act x.act

-- an arrow within a column
abbrev pub arrow_at : ArrowKind → ℕ → ThreadId → ThreadId → Arrow
arrow_at kind n t u = record { kind = kind; from_column = n; from = t; to_column = n; to = u }

-- one to a thread, if it is in the wait set of o
abbrev pub arrow_to_waiter : State → ℕ → ThreadId → ObjectId → ThreadId → List Arrow
arrow_to_waiter s n t o u = if is_waiting (s.thread u) o then arrow_at Notify n t u ∷ [] else []

abbrev pub arrows_to_waiters : State → ℕ → ThreadId → ObjectId → List ThreadId → List Arrow
arrows_to_waiters s n t o us = flat_map (arrow_to_waiter s n t o) us

abbrev pub arrows_of_call : List ThreadId → ℕ → State → ThreadId → Option Call → List Arrow
arrows_of_call us n s t (Some (call.NotifyAll o)) = arrows_to_waiters s n t o us
arrows_of_call us n s t (Some (call.Interrupt u)) = arrow_at Interrupt n t u ∷ []
arrows_of_call us n s t c = []

-- The arrows of a move that is made in state s: from who notifies to each thread that is taken out of the wait set,
-- from who interrupts to whom it interrupts.
abbrev pub arrows_of : List ThreadId → ℕ → State → Move → List Arrow
arrows_of us n s (move.Notify t (Some u)) = arrow_at Notify n t u ∷ []
arrows_of us n s (move.NotifyAll t) = arrows_of_call us n s t (call_in (s.thread t))
arrows_of us n s (move.Interrupt t) = arrows_of_call us n s t (call_in (s.thread t))
arrows_of us n s m = []

-- the moves lead from s to s', and have these arrows
abbrev pub Tells : List ThreadId → ℕ → State → List Move → State → List Arrow → Type 0
Tells us n s [] s' arrows = (s' ≡ s) × (arrows ≡ [])
Tells us n s (m ∷ ms) s' arrows =
    (mid : State) × (rest : List Arrow) × Steps s m mid × Tells us n mid ms s' rest
    × (arrows ≡ arrows_of us n s m ++ rest)

-- The columns, of which the first has number n, lead from s through these states, each behind its column, and have
-- these arrows.
abbrev pub Follow : List ThreadId → ℕ → State → List Column → List State → List Arrow → Type 0
Follow us n s [] [] arrows = arrows ≡ []
Follow us n s [] (t ∷ ts) arrows = ⊥
Follow us n s (c ∷ cs) [] arrows = ⊥
Follow us n s (c ∷ cs) (t ∷ ts) arrows =
    (here rest : List Arrow) × Tells us n s (moves_in c) t here × Follow us (n + 1) t cs ts rest
    × (arrows ≡ here ++ rest)

-- the arrow from the owner that was last, if it is another one, to the one that owns from column n on
abbrev pub hand_over : Option LastOwner → ℕ → Option ThreadId → List Arrow
hand_over last n None = []
hand_over None n (Some u) = []
hand_over (Some last) n (Some u) =
    if last.thread.0 == u.0 then []
    else record { kind = HandOver; from_column = last.until; from = last.thread; to_column = n; to = u } ∷ []

-- who owned last, once this one has owned until column n
abbrev pub last_after : Option LastOwner → ℕ → Option ThreadId → Option LastOwner
last_after last n None = last
last_after last n (Some u) = Some (record { thread = u; until = n })

-- From each owner of a strip to the next one, where they are two: from the column in which the one gives up the
-- object to that in which the other has it. The strip goes on from column n, and `last` is the owner that was last.
abbrev pub hand_overs : Option LastOwner → ℕ → List StripSpan → List Arrow
hand_overs last n [] = []
hand_overs last n (s ∷ ss) =
    hand_over last n s.held.owner ++ hand_overs (last_after last (n + s.columns) s.held.owner) (n + s.columns) ss

-- the move, if it is there, may be made in s
abbrev pub IsLawful : State → Option Move → Type 0
IsLawful s None = Unit {0}
IsLawful s (Some m) = (next : State) × Steps s m next

-- the move, if it is there, leads from s to s', and its arrows were added
abbrev pub TellsOne : List ThreadId → ℕ → State → Option Move → State → List Arrow → List Arrow → Type 0
TellsOne us n s None s' before after = (s' ≡ s) × (after ≡ before)
TellsOne us n s (Some m) s' before after = Steps s m s' × (after ≡ before ++ arrows_of us n s m)
