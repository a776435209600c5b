-- What a call came to, from its start and from the turns behind it.
use Rattle.std.specs.Prelude.{◌≡◌, ◌<◌, Bool, true, false, length, Result, Ok, Err, IfOk, IfErr}
use Rattle.std.proofs.Common.{refl, ap}
use Rattle.fat_monitor.specs.declared.actions.Reply.{Reply}
use Rattle.fast_path.specs.declared.calls.MonitorCall.{MonitorCall}
use Rattle.fast_path.specs.declared.calls.InterruptCall.{InterruptCall}
use Rattle.header_words.specs.Passes.{Opening}
use Rattle.step_core.specs.declared.places.Place.TheVariants.{Idle, InCall, Ending, AtPost}
use Rattle.step_core.specs.declared.places.Stage.TheVariants.{Begun, Direct}
use Rattle.step_core.specs.declared.paths.Point.{Point}
use Rattle.step_core.specs.declared.paths.Point.TheVariants.{At, Expired, Said}
use Rattle.live_turns.specs.declared.standings.Standing.{Standing}
use Rattle.live_turns.specs.declared.standings.Standing.TheVariants as standing
use Rattle.live_book.specs.declared.faults.LiveFault.{LiveFault}
use Rattle.live_turns.specs.Points.{standing_at, resting, names_stranger}
use Rattle.live_turns.specs.Ways.{Holding, Went, Halted}
use Rattle.live_turns.proofs.Going.{went_then, given_up_on, given_up_about}
use Rattle.live_threads.specs.Calls.{CalledOn, CalledAbout}

-- the reply of a standing, if it has one
abbrev reply_in : Standing → Reply → Reply
reply_in (standing.Said r) d = r
reply_in s d = d

-- a call whose standing has a reply stands there
pub said_at : (b : Bool) (p : Point) (r : Reply) → standing_at b p ≡ standing.Said r → p ≡ Said r
said_at b (Said x) r e = ap (λ s. Said (reply_in s r)) e
said_at true (At p) r e = absurd (cc)
said_at false (At (InCall s)) r e = absurd (cc)
said_at false (At Idle) r e = absurd (cc)
said_at false (At (Ending n)) r e = absurd (cc)
said_at false (At AtPost) r e = absurd (cc)
said_at true Expired r e = absurd (cc)
said_at false Expired r e = absurd (cc)

-- and a pass rests where its call stands, as long as it has none
pub rests_there : (b : Bool) (p : Point) → ((r : Reply) → standing_at b p ≡ standing.Said r → ⊥) → resting p ≡ p
rests_there b (Said x) h = absurd (h x refl)
rests_there b (At p) h = refl
rests_there b Expired h = refl

-- a call, by its start and by what the turns behind it came to
pub finished_on : (z : Opening) (c : MonitorCall) (t : Point) (x : Result Reply LiveFault) (p q r : Holding) → c.object.0 < length z.lows → Went (At (InCall (Begun c false))) t p q
    → IfOk x (λ y. Went t (Said y) q r) → IfErr x (λ f. Halted f t q r) → CalledOn z c x p r
finished_on z c t (Ok y) p q r lt w ok err = (lt, went_then (At (InCall (Begun c false))) t (Said y) p q r w ok)
finished_on z c t (Err f) p q r lt w ok err = given_up_on z c t f p q r lt w err

pub finished_about : (z : Opening) (c : InterruptCall) (t : Point) (x : Result Reply LiveFault) (p q r : Holding) → names_stranger z c ≡ false → Went (At (InCall (Direct c))) t p q
    → IfOk x (λ y. Went t (Said y) q r) → IfErr x (λ f. Halted f t q r) → CalledAbout z c x p r
finished_about z c t (Ok y) p q r out w ok err = (out, went_then (At (InCall (Direct c))) t (Said y) p q r w ok)
finished_about z c t (Err f) p q r out w ok err = given_up_about z c t f p q r out w err
