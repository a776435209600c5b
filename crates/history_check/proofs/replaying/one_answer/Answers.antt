use Rattle.history_check.proofs.Answers.{bad_bad, broken_broken, bad_broken, bad_run, broken_run, run_run, bad_open, broken_open, bad_more, broken_more}
use Rattle.history_check.proofs.replaying.one_answer.Goals as goal

pub returns : goal.returns
returns c = record {
  bad = bad_bad;
  broken = broken_broken;
  bad_or_broken = bad_broken;
  bad_or_run = bad_run;
  broken_or_run = broken_run;
  runs = run_run;
  bad_or_open = bad_open;
  broken_or_open = broken_open;
  bad_stays = bad_more;
  broken_stays = broken_more;
}
