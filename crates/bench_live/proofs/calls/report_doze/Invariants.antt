use Rattle.std.proofs.Common.{◌≡◌}
use Rattle.bench_live.proofs.calls.report_doze.Given as goal

abbrev pub ghosts-doze-L-Ledger : goal.ghosts-doze-L-Ledger
ghosts-doze-L-Ledger g a = record { name = a.blank.name; parts = a.blank.parts }

abbrev pub ghosts-doze-L-Crew : goal.ghosts-doze-L-Crew
ghosts-doze-L-Crew g a = record { monitors = 1; passes = 2; places = 100 }
