use Rattle.live_tests.proofs.threads.memory.what_was_refused_comes_back_and_succeeds_again.Given as goal

abbrev pub ghosts-open_drive_and_close-L-Ledger : goal.ghosts-open_drive_and_close-L-Ledger
ghosts-open_drive_and_close-L-Ledger g a = record { name = a.blank.name; parts = a.blank.parts }

abbrev pub ghosts-open_drive_and_close-L-Crew : goal.ghosts-open_drive_and_close-L-Crew
ghosts-open_drive_and_close-L-Crew g a = record { monitors = 1; passes = 1; places = 10 }
