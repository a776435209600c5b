use Rattle.std.proofs.Common.{rules}
use Rattle.live_seats.proofs.seat.Seat.close.Goals as goal

pub returns-in-Ok : goal.returns-in-Ok
returns-in-Ok g c = search rules

pub returns-in-Err-Here : goal.returns-in-Err-Here
returns-in-Err-Here g c = search rules

pub returns-in-Err-Torn : goal.returns-in-Err-Torn
returns-in-Err-Torn g c = search rules
