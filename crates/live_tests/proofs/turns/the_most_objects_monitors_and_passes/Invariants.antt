use Rattle.live_tests.proofs.turns.the_most_objects_monitors_and_passes.Given as goal

abbrev pub ghosts-opened_and_closed-L-Ledger : goal.ghosts-opened_and_closed-L-Ledger
ghosts-opened_and_closed-L-Ledger g a = record { name = a.blank.name; parts = a.blank.parts }

abbrev pub ghosts-opened_and_closed-L-Crew : goal.ghosts-opened_and_closed-L-Crew
ghosts-opened_and_closed-L-Crew g a = record { monitors = 8388608; passes = 64; places = 1000 }
