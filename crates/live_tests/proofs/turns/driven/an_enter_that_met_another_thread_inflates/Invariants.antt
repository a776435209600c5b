use Rattle.live_tests.proofs.turns.driven.an_enter_that_met_another_thread_inflates.Given as goal

abbrev pub ghosts-driven-L-Ledger : goal.ghosts-driven-L-Ledger
ghosts-driven-L-Ledger g a = record { name = a.blank.name; parts = a.blank.parts }

abbrev pub ghosts-driven-L-Crew : goal.ghosts-driven-L-Crew
ghosts-driven-L-Crew g a = record { monitors = 1; passes = 2; places = 20 }
