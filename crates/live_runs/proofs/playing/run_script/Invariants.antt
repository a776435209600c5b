use Rattle.live_runs.proofs.playing.run_script.Given as goal

abbrev pub ghosts-play-L-Ledger : goal.ghosts-play-L-Ledger
ghosts-play-L-Ledger g a = record { name = a.blank.name; parts = a.blank.parts }

abbrev pub ghosts-play-L-Crew : goal.ghosts-play-L-Crew
ghosts-play-L-Crew g a = record { monitors = a.plan.monitors; passes = a.passes; places = 65536 }
