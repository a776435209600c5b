use Rattle.std.proofs.Common.{rules}
use Rattle.live_threads.proofs.live.Live.tick.Goals as goal

pub invariant_of-pass : goal.invariant_of-pass
invariant_of-pass g c = search rules

pub returns-clause-here : goal.returns-clause-here
returns-clause-here g c = search rules

pub returns-clause-words : goal.returns-clause-words
returns-clause-words g c = search rules

pub returns-clause-own : goal.returns-clause-own
returns-clause-own g c = search rules

pub returns-clause-none : goal.returns-clause-none
returns-clause-none g c = search rules

pub returns-clause-fault : goal.returns-clause-fault
returns-clause-fault g c = search rules

pub returns-clause-looked : goal.returns-clause-looked
returns-clause-looked g c = search rules
