use Rattle.std.proofs.Common.{◌≡◌}
use Rattle.embedding_live.proofs.main.Given as goal

abbrev pub ghosts-run-L-Ledger : goal.ghosts-run-L-Ledger
ghosts-run-L-Ledger g a = record { name = a.blank.name; parts = a.blank.parts }

abbrev pub ghosts-run-L-Crew : goal.ghosts-run-L-Crew
ghosts-run-L-Crew g a = record { monitors = 1; passes = 2; places = 20000 }
