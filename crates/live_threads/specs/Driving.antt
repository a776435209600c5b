-- Calls that a worker made, one after another.
use Rattle.std.specs.Prelude.{◌≡◌, ◌≢◌, ◌<◌, true, false, List, [], ◌∷◌, length, Result}
use Rattle.std.specs.List.{All}
use Rattle.fat_monitor.specs.declared.actions.Reply.{Reply}
use Rattle.fast_path.specs.Calls.{subject_of}
use Rattle.fast_path.specs.declared.calls.Call.{Call}
use Rattle.fast_path.specs.declared.calls.Call.TheVariants as call
use Rattle.fast_path.specs.declared.calls.Subject.{Subject}
use Rattle.fast_path.specs.declared.calls.Subject.TheVariants.{Monitor, Interrupt, End}
use Rattle.header_words.specs.Passes.{Opening}
use Rattle.live_book.specs.declared.faults.LiveFault.{LiveFault}
use Rattle.live_turns.specs.Ways.{Holding}
use Rattle.live_threads.specs.Calls.{CalledOn, CalledAbout}
use Rattle.live_threads.specs.declared.driving.Work.{Work}
use Rattle.live_threads.specs.declared.driving.Worked.{Worked}
use Rattle.live_threads.specs.declared.driving.DriveFault.{DriveFault}
use Rattle.live_threads.specs.declared.driving.DriveFault.TheVariants.{Memory}

-- Threads of the service do not end.
abbrev pub IsLive : Call → Type 0
IsLive c = c ≢ call.End

-- one call, with what it came to
abbrev pub CalledFor : Opening → Subject → Result Reply LiveFault → Holding → Holding → Type 0
CalledFor z (Monitor c) x p q = CalledOn z c x p q
CalledFor z (Interrupt c) x p q = CalledAbout z c x p q
CalledFor z End x p q = ⊥

abbrev pub Called : Opening → Call → Result Reply LiveFault → Holding → Holding → Type 0
Called z c x p q = CalledFor z (subject_of c) x p q

-- the first of these calls, in order, each with what it came to
abbrev pub Answered : Opening → List Call → List (Result Reply LiveFault) → Holding → Holding → Type 0
Answered z calls [] p q = q ≡ p
Answered z [] (x ∷ xs) p q = ⊥
Answered z (c ∷ calls) (x ∷ xs) p q = (m : Holding) × Called z c x p m × Answered z calls xs m q

-- A worker of this opening made its calls in order: all of them, unless it was stopped. One that was stopped did not
-- make all of them, if it had any.
abbrev pub Driven : {L : Type 0} → Opening → Work L → Worked L → Type 0
Driven z w d = (d.pass.words.opening ≡ z) × Answered z w.calls.items d.answers.items w.pass d.pass
    × (d.stopped ≡ false → length d.answers.items ≡ length w.calls.items)
    × (d.stopped ≡ true → 0 < length w.calls.items → length d.answers.items < length w.calls.items)

-- each work was driven by a worker of its own
abbrev pub AllDriven : {L : Type 0} → Opening → List (Work L) → List (Worked L) → Type 0
AllDriven z [] [] = Unit {0}
AllDriven z [] (d ∷ ds) = ⊥
AllDriven z (w ∷ ws) [] = ⊥
AllDriven z (w ∷ ws) (d ∷ ds) = Driven z w d × AllDriven z ws ds

-- the passes of works belong to this opening, and their calls are calls of live threads
abbrev pub CanDrive : {L : Type 0} → Opening → Work L → Type 0
CanDrive z w = (w.pass.words.opening ≡ z) × All IsLive w.calls.items

-- the fault hands these works back
abbrev pub HandsBack : {L : Type 0} → List (Work L) → DriveFault L → Type 0
HandsBack ws (Memory w) = w.items ≡ ws
