use Rattle.std.proofs.Common.{rules}
use Rattle.live_seats.proofs.closing.stays.Goals as goal

pub returns-clause-told : goal.returns-clause-told
returns-clause-told g c = search rules

pub returns-clause-end : goal.returns-clause-end
returns-clause-end g c = search rules

pub returns-clause-seat : goal.returns-clause-seat
returns-clause-seat g c = search rules
