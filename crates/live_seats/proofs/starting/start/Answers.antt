use Rattle.std.specs.Prelude.{false, None}
use Rattle.std.proofs.Common.{rules, refl}
use Rattle.step_core.specs.declared.paths.Point.TheVariants.{Said}
use Rattle.live_seats.specs.Seats.{IsIdle}
use Rattle.live_seats.proofs.GoingOn.{is_calling, served_behind}
use Rattle.live_seats.proofs.starting.start.Goals as goal

pub returns-in-Ok-Some-clause-starts : goal.returns-in-Ok-Some-clause-starts
returns-in-Ok-Some-clause-starts g c =
    let idle : IsIdle c.args.pass.now = search rules in (
      tt,
      idle,
      c.in-Ok-Some.ensures.there,
      (
        record { point = Said c.in-Ok-Some.reply; gate_taken = false; granted = None },
        refl,
        refl,
        rw c.in-Ok-Some.field-0-is at c.in-Ok-Some.ensures.went,
        rw c.in-Ok-Some.field-0-is at c.in-Ok-Some.ensures.rests,
      ),
    )

pub returns-in-Ok-None-clause-starts : goal.returns-in-Ok-None-clause-starts
returns-in-Ok-None-clause-starts g c =
    let idle : IsIdle c.args.pass.now = search rules in
    let rests = rw c.in-Ok-None.field-0-is at c.in-Ok-None.ensures.rests in
    let calling = is_calling c.start_on.new.pass.point rests.0 rests.1 in (
      c.in-Ok-None.ensures.there,
      (
        calling,
        λ x q. served_behind c.args.turns.now c.args.call x c.args.pass.now c.start_on.new.pass q idle c.in-Ok-None.ensures.there
            (rw c.in-Ok-None.field-0-is at c.in-Ok-None.ensures.went) calling,
      ),
    )
