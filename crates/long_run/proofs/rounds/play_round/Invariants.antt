use Rattle.long_run.proofs.rounds.play_round.Given as goal

abbrev pub ghosts-play-L-Ledger : goal.ghosts-play-L-Ledger
ghosts-play-L-Ledger g a = record { name = a.blank.name; parts = a.blank.parts }

abbrev pub ghosts-play-L-Crew : goal.ghosts-play-L-Crew
ghosts-play-L-Crew g a = record { monitors = 4; passes = a.threads; places = 400000 }
