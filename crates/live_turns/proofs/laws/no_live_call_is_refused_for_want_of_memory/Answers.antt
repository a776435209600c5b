use Rattle.live_turns.proofs.Refusing.{refused_on, refused_about, no_want_of_memory}
use Rattle.live_turns.proofs.laws.no_live_call_is_refused_for_want_of_memory.Goals as goal

pub returns-clause-on : goal.returns-clause-on
returns-clause-on c = refused_on

pub returns-clause-about : goal.returns-clause-about
returns-clause-about c = refused_about

pub returns-clause-memory : goal.returns-clause-memory
returns-clause-memory c = no_want_of_memory
