use Rattle.core_tests.proofs.lines.add.Goals as goal

pub join-requires-clause-nowhere : goal.join-requires-clause-nowhere
join-requires-clause-nowhere c = rw c.reserve_one.ensures.lines c.leave-stood.ensures.gone
