use Rattle.std.proofs.Common.{ap, ◌∙◌, Some}
use Rattle.live_seats.proofs.seat.Seat.open.Goals as goal

pub returns-in-Ok : goal.returns-in-Ok
returns-in-Ok g c =
    let opened = c.in-Ok.ensures in
    (Some opened.0, c.of-in-Ok.ensures ∙ (ap Some c.of.ensures ∙ ap Some opened.1), opened.2)
