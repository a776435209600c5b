use Rattle.std.proofs.Common.{sym, ◌∙◌}
use Rattle.explore_java.proofs.Running.{outcome_is_end}
use Rattle.step_core.specs.Shown.{shown}
use Rattle.explore_runs.specs.Steps.{script_moves}
use Rattle.explore_runs.proofs.ReplyTexts.{java_replies_told_of}
use Rattle.explore_runs.proofs.Returning.{script_returns}
use Rattle.explore_runs.proofs.SameTexts.{same_text}
use Rattle.explore_runs.proofs.ScriptRuns.{script_is_outcome}
use Rattle.explore_runs.proofs.laws.an_outcome_is_found_on_the_java_machine.Goals as goal

pub returns-clause-found : goal.returns-clause-found
returns-clause-found c = λ p f cs s bytes finds leads end wants.
    let found = outcome_is_end p f finds (script_moves p cs) (shown s.world) (script_is_outcome p cs s bytes leads end) wants in
    let shows = found.4 in
    (found.0, found.1, found.2, found.3, shows.machine, λ k lt. sym (shows.replies k lt) ∙ script_returns p cs s k bytes leads lt)

pub returns-clause-texts : goal.returns-clause-texts
returns-clause-texts c = λ names p cs s t text named leads shows same is.
    same_text p cs s named.lows leads names t text named.each_thread shows same is

pub returns-clause-told : goal.returns-clause-told
returns-clause-told c = λ p t k. java_replies_told_of p t k
