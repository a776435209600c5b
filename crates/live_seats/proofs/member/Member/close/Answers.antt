use Rattle.std.proofs.Common.{List, Some, None, ap, sym, subst}
use Rattle.live_turns.specs.Ways.{PassState}
use Rattle.live_seats.specs.Seats.{SeatState}
use Rattle.live_seats.specs.Ends.{Closes, HasEnded, IsTornSeat}
use Rattle.live_seats.specs.Unclosed.{Stays, StaysAs}
use Rattle.live_seats.proofs.Finishing.{ended, seat_of, stays_closes, torn_seat}
use Rattle.live_seats.proofs.member.Member.close.Goals as goal

pub returns-in-Ok-close_home-clause-end : goal.returns-in-Ok-close_home-clause-end
returns-in-Ok-close_home-clause-end g c =
    let p = c.self.inside.pass in
    let s = seat_of p.holding.words.opening g.L.Crew.monitors p c.self.inside.rest.items in
    let end = c.in-Ok-close_home.ensures.end in
    let has = ended s c.room_for.new.rest.items end.0 (record { closed = c.in-Ok-close_home.closed; threads = c.close_home.new.threads }) c.room_for.ensures.items (end.1, end.2, end.3) in
    subst (λ (x : SeatState). HasEnded x c.filled.result.value) c.self.view_is (subst (HasEnded s) (sym c.filled.ensures) has)

pub returns-in-Err-Here-clause-here : goal.returns-in-Err-Here-clause-here
returns-in-Err-Here-clause-here g c =
    let p = c.self.inside.pass in let q = c.in-Err-Here.pass in let z = p.holding.words.opening in
    let waits = subst (Stays z g.L.Crew.monitors p c.room_for.new.rest.items) c.in-Err-Here.field-0-is c.in-Err-Here.ensures.waits in
    let stays = subst (λ (r : List PassState). StaysAs c.in-Err-Here.told z.count p r c.in-Err-Here.rest.items) c.room_for.ensures.items waits.1 in
    let closes = stays_closes c.in-Err-Here.told z q.holding.words.opening g.L.Crew.monitors p q c.self.inside.rest.items c.in-Err-Here.rest.items (ap (λ (x : PassState). x.holding.words.opening) waits.0) waits.0 stays in
    subst (λ (x : SeatState). Closes x c.in-Err-Here.told (Some (seat_of q.holding.words.opening g.L.Crew.monitors q c.in-Err-Here.rest.items)) None) c.self.view_is closes

pub returns-in-Err-Torn-clause-here : goal.returns-in-Err-Torn-clause-here
returns-in-Err-Torn-clause-here g c =
    let p = c.self.inside.pass in let z = p.holding.words.opening in
    let s = seat_of z g.L.Crew.monitors p c.self.inside.rest.items in
    let waits = subst (Stays z g.L.Crew.monitors p c.room_for.new.rest.items) c.in-Err-Torn.field-0-is c.in-Err-Torn.ensures.waits in
    subst IsTornSeat c.self.view_is (torn_seat s c.room_for.new.rest.items waits.0 c.room_for.ensures.items (waits.1, waits.2))
