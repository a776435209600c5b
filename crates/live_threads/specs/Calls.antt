-- What a call of the service came to.
use Rattle.std.specs.Prelude.{◌≡◌, ◌<◌, false, length, Result, Ok, Err}
use Rattle.fat_monitor.specs.declared.actions.Reply.{Reply}
use Rattle.fast_path.specs.declared.calls.MonitorCall.{MonitorCall}
use Rattle.fast_path.specs.declared.calls.InterruptCall.{InterruptCall}
use Rattle.header_words.specs.Passes.{Opening}
use Rattle.step_core.specs.declared.places.Place.TheVariants.{Idle, InCall}
use Rattle.step_core.specs.declared.places.Stage.TheVariants.{Begun, Direct}
use Rattle.step_core.specs.declared.paths.Point.TheVariants.{At, Said}
use Rattle.live_book.specs.declared.faults.LiveFault.{LiveFault}
use Rattle.live_turns.specs.Points.{GivenUpOn, GivenUpAbout, names_stranger}
use Rattle.live_turns.specs.Ways.{Holding, PassState, Went}

-- the pass is in no call, and has not the gate
abbrev pub IsAtRest : PassState → Type 0
IsAtRest p = (p.point ≡ At Idle) × (p.holding.words.has_gate ≡ false)

-- A call on an object replied: there is such an object, and the pass added a path of that call with that reply. Or it
-- was given up.
abbrev pub CalledOn : Opening → MonitorCall → Result Reply LiveFault → Holding → Holding → Type 0
CalledOn z c (Ok r) p q = (c.object.0 < length z.lows) × Went (At (InCall (Begun c false))) (Said r) p q
CalledOn z c (Err f) p q = GivenUpOn z c f p q

-- the same of a call about interrupts
abbrev pub CalledAbout : Opening → InterruptCall → Result Reply LiveFault → Holding → Holding → Type 0
CalledAbout z c (Ok r) p q = (names_stranger z c ≡ false) × Went (At (InCall (Direct c))) (Said r) p q
CalledAbout z c (Err f) p q = GivenUpAbout z c f p q
