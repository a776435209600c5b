use Rattle.std.proofs.Common.{rules}
use Rattle.live_seats.proofs.pass_orders.turn.Goals as goal

pub returns-then-is_idle-clause-belongs : goal.returns-then-is_idle-clause-belongs
returns-then-is_idle-clause-belongs g c = search rules

pub returns-then-is_idle-clause-serves : goal.returns-then-is_idle-clause-serves
returns-then-is_idle-clause-serves g c = search rules

pub returns-clause-belongs : goal.returns-clause-belongs
returns-clause-belongs g c = search rules

pub returns-clause-serves : goal.returns-clause-serves
returns-clause-serves g c = search rules
