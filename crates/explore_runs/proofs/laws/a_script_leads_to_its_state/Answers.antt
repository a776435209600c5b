use Rattle.explore_runs.proofs.Drafted.{are_named}
use Rattle.explore_runs.proofs.Leading.{script_leads, script_replies}
use Rattle.explore_runs.proofs.ReplyTexts.{replies_told_of}
use Rattle.explore_runs.proofs.Rereading.{end_replays, replays}
use Rattle.explore_runs.proofs.laws.a_script_leads_to_its_state.Goals as goal

pub returns-clause-outcomes : goal.returns-clause-outcomes
returns-clause-outcomes c = λ names p cs s named leads end. end_replays names p cs s named leads end

pub returns-clause-played : goal.returns-clause-played
returns-clause-played c = λ names p cs s named few leads. replays names p cs s named few leads

pub returns-clause-steps : goal.returns-clause-steps
returns-clause-steps c = λ p cs s leads. script_leads p cs s leads

pub returns-clause-named : goal.returns-clause-named
returns-clause-named c = λ bytes named is. are_named bytes named is

pub returns-clause-replies : goal.returns-clause-replies
returns-clause-replies c = λ p cs s k leads within. script_replies p cs s k leads within

pub returns-clause-told : goal.returns-clause-told
returns-clause-told c = λ p s k. replies_told_of p s k
