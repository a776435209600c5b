use Rattle.bench_jobs.proofs.live.Given as goal

abbrev pub ghosts-run_thin-L-Ledger : goal.ghosts-run_thin-L-Ledger
ghosts-run_thin-L-Ledger g a = record { name = a.blank.name; parts = a.blank.parts }

abbrev pub ghosts-run_thin-L-Crew : goal.ghosts-run_thin-L-Crew
ghosts-run_thin-L-Crew g a = record { monitors = 1024; passes = 2; places = 1000 }

abbrev pub ghosts-run_fat-L-Ledger : goal.ghosts-run_fat-L-Ledger
ghosts-run_fat-L-Ledger g a = record { name = a.blank.name; parts = a.blank.parts }

abbrev pub ghosts-run_fat-L-Crew : goal.ghosts-run_fat-L-Crew
ghosts-run_fat-L-Crew g a = record { monitors = 1024; passes = 2; places = 1048576 }

abbrev pub ghosts-run_two-L-Ledger : goal.ghosts-run_two-L-Ledger
ghosts-run_two-L-Ledger g a = record { name = a.blank.name; parts = a.blank.parts }

abbrev pub ghosts-run_two-L-Crew : goal.ghosts-run_two-L-Crew
ghosts-run_two-L-Crew g a = record { monitors = 1024; passes = 2; places = 1048576 }
