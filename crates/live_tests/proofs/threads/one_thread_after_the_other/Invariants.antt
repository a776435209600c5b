use Rattle.live_tests.proofs.threads.one_thread_after_the_other.Given as goal

abbrev pub ghosts-play-L-Ledger : goal.ghosts-play-L-Ledger
ghosts-play-L-Ledger g a = record { name = a.blank.name; parts = a.blank.parts }

abbrev pub ghosts-play-L-Crew : goal.ghosts-play-L-Crew
ghosts-play-L-Crew g a = record { monitors = a.scene.monitors; passes = 2; places = a.scene.places }
