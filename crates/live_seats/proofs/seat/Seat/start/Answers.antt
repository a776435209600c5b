use Rattle.std.proofs.Common.{Some, ap, sym, ◌∙◌}
use Rattle.live_seats.specs.declared.seat.Seat.{Seat}
use Rattle.live_seats.proofs.Keeping.{kept_is}
use Rattle.live_seats.proofs.seat.Seat.start.Goals as goal

pub returns : goal.returns
returns g c =
    let starts = c.started-started.ensures in
    let same = c.deref_mut.ensures.value ∙ c.into_box-seat.ensures in (
      starts.0,
      ap (λ (s : Seat g.row.L.Denot). s.member) (sym same) ∙ starts.2,
      (
        Some starts.1,
        c.of-2.ensures ∙ (ap Some c.of.ensures ∙ kept_is c.started-started.new.seat starts.1 starts.3),
        starts.4,
      ),
    )
