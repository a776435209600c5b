use Rattle.live_tests.proofs.threads.works.a_gate_stops_a_worker_before_its_second_call.Given as goal

abbrev pub ghosts-two_are_driven-L-Ledger : goal.ghosts-two_are_driven-L-Ledger
ghosts-two_are_driven-L-Ledger g a = record { name = a.blank.name; parts = a.blank.parts }

abbrev pub ghosts-two_are_driven-L-Crew : goal.ghosts-two_are_driven-L-Crew
ghosts-two_are_driven-L-Crew g a = record { monitors = 1; passes = 2; places = a.places }
