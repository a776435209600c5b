-- A first turn that is a start and one turn more.
use Rattle.std.specs.Prelude.{◌≡◌, ◌≢◌, ◌<◌, false, length}
use Rattle.header_words.specs.Passes.{Opening}
use Rattle.fast_path.specs.declared.calls.MonitorCall.{MonitorCall}
use Rattle.step_core.specs.declared.places.Place.TheVariants.{Idle, InCall}
use Rattle.step_core.specs.declared.places.Stage.{Stage}
use Rattle.step_core.specs.declared.places.Stage.TheVariants.{Begun}
use Rattle.step_core.specs.declared.paths.Point.{Point}
use Rattle.step_core.specs.declared.paths.Point.TheVariants.{At}
use Rattle.live_turns.specs.Ways.{PassState, Went}
use Rattle.live_turns.proofs.Going.{went_then, given_up_on}
use Rattle.live_seats.specs.declared.orders.SeatOrder.TheVariants.{BeginOn, Turn}
use Rattle.live_seats.specs.declared.orders.Told.{Told}
use Rattle.live_seats.specs.declared.orders.Told.TheVariants as told
use Rattle.live_seats.specs.Seats.{IsIdle, Serves}

-- a pass in the middle of a call is in one
pub is_calling : (p : Point) (s : Stage) → p ≡ At (InCall s) → p ≢ At Idle
is_calling p s is idle = absurd (cc)

pub served_behind : (z : Opening) (c : MonitorCall) (x : Told) (p m q : PassState) → IsIdle p → c.object.0 < length z.lows
    → Went (At (InCall (Begun c false))) m.point p.holding m.holding → m.point ≢ At Idle → Serves z Turn x m q → Serves z (BeginOn c) x p q
served_behind z c told.InCall p m q idle lt went calling h = absurd h.0
served_behind z c told.NotCalling p m q idle lt went calling h = absurd (calling h.1)
served_behind z c (told.Turned s g) p m q idle lt went calling h =
    (tt, idle, lt, (h.3.0, h.3.1, h.3.2, went_then (At (InCall (Begun c false))) m.point h.3.0.point p.holding m.holding q.holding went h.3.3, h.3.4))
served_behind z c (told.Ticked b) p m q idle lt went calling h = absurd h.1
served_behind z c (told.Fault f) p m q idle lt went calling h =
    (idle, (h.1.0, given_up_on z c m.point f p.holding m.holding q.holding lt went h.1.1))
served_behind z c (told.Thread t) p m q idle lt went calling h = let never = h.0 in absurd (cc)
served_behind z c told.Shared p m q idle lt went calling h = absurd h
served_behind z c told.NoPass p m q idle lt went calling h = absurd h
served_behind z c told.Memory p m q idle lt went calling h = absurd h
served_behind z c told.Left p m q idle lt went calling h = absurd h
