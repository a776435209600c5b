use Rattle.std.proofs.Common.{rules}
use Rattle.live_seats.proofs.pass_orders.tick.Goals as goal

pub returns-then-not-is_idle-clause-belongs : goal.returns-then-not-is_idle-clause-belongs
returns-then-not-is_idle-clause-belongs g c = search rules

pub returns-then-not-is_idle-clause-serves : goal.returns-then-not-is_idle-clause-serves
returns-then-not-is_idle-clause-serves g c = search rules

pub returns-in-Ok-clause-belongs : goal.returns-in-Ok-clause-belongs
returns-in-Ok-clause-belongs g c = search rules

pub returns-in-Ok-clause-serves : goal.returns-in-Ok-clause-serves
returns-in-Ok-clause-serves g c = search rules

pub returns-in-Err-clause-belongs : goal.returns-in-Err-clause-belongs
returns-in-Err-clause-belongs g c = search rules

pub returns-in-Err-clause-serves : goal.returns-in-Err-clause-serves
returns-in-Err-clause-serves g c = search rules
