use Rattle.live_tests.proofs.threads.works.two_workers_hand_an_object_to_each_other.Given as goal

abbrev pub ghosts-two_are_driven-L-Ledger : goal.ghosts-two_are_driven-L-Ledger
ghosts-two_are_driven-L-Ledger g a = record { name = a.blank.name; parts = a.blank.parts }

abbrev pub ghosts-two_are_driven-L-Crew : goal.ghosts-two_are_driven-L-Crew
ghosts-two_are_driven-L-Crew g a = record { monitors = 1; passes = 2; places = a.places }
