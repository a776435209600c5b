use Rattle.live_scripts.proofs.Reading.{one_bad_live, bad_no_live}
use Rattle.live_scripts.proofs.scripts.one_fault.Goals as goal

pub returns-clause-one : goal.returns-clause-one
returns-clause-one c = one_bad_live

pub returns-clause-none : goal.returns-clause-none
returns-clause-none c = bad_no_live
