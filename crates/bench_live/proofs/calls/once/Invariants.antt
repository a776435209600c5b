use Rattle.std.proofs.Common.{◌≡◌}
use Rattle.bench_live.proofs.calls.once.Given as goal

abbrev pub ghosts-measure-L-Ledger : goal.ghosts-measure-L-Ledger
ghosts-measure-L-Ledger g a = record { name = a.blank.name; parts = a.blank.parts }

abbrev pub ghosts-measure-L-Crew : goal.ghosts-measure-L-Crew
ghosts-measure-L-Crew g a = record { monitors = 1; passes = 2; places = a.places }
