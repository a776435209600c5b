use Rattle.live_tests.proofs.threads.meeting.two_threads_at_once.Given as goal

abbrev pub ghosts-have_met-L-Ledger : goal.ghosts-have_met-L-Ledger
ghosts-have_met-L-Ledger g a = record { name = a.blank.name; parts = a.blank.parts }

abbrev pub ghosts-have_met-L-Crew : goal.ghosts-have_met-L-Crew
ghosts-have_met-L-Crew g a = record { monitors = 1; passes = 2; places = 40 }
