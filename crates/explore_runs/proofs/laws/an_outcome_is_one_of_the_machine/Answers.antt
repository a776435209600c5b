use Rattle.explore_runs.proofs.Returning.{script_returns}
use Rattle.explore_runs.proofs.ScriptRuns.{script_is_outcome, script_is_run, script_rests}
use Rattle.explore_runs.proofs.laws.an_outcome_is_one_of_the_machine.Goals as goal

pub returns-clause-run : goal.returns-clause-run
returns-clause-run c = λ p cs s bytes leads. script_is_run p cs s bytes leads

pub returns-clause-returns : goal.returns-clause-returns
returns-clause-returns c = λ p cs s k bytes leads within. script_returns p cs s k bytes leads within

pub returns-clause-outcome : goal.returns-clause-outcome
returns-clause-outcome c = λ p cs s bytes leads end. script_is_outcome p cs s bytes leads end

pub returns-clause-rests : goal.returns-clause-rests
returns-clause-rests c = λ p cs s t flag d bytes leads end is. script_rests p cs s bytes leads t flag d end is
