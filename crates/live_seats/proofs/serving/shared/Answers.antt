use Rattle.std.proofs.Common.{Some, ap, sym, ◌∙◌}
use Rattle.live_seats.specs.declared.seat.Seat.{Seat}
use Rattle.live_seats.proofs.Keeping.{kept_is}
use Rattle.live_seats.proofs.serving.shared.Goals as goal

pub returns-in-Ok : goal.returns-in-Ok
returns-in-Ok g c =
    let other = c.in-Ok.ensures.ok in (
      other.0,
      ap (λ (s : Seat g.row.L.Denot). s.member) (sym c.deref_mut.ensures.value) ∙ other.3,
      (Some other.1, c.of-in-Ok.ensures ∙ (ap Some c.of.ensures ∙ kept_is c.other_seat.new.seat other.1 other.4), (Some other.2, c.of-in-Ok-3.ensures ∙ (ap Some c.of-in-Ok-2.ensures ∙ ap Some other.5), other.6)),
    )
