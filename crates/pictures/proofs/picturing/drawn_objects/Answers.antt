use Rattle.std.proofs.Common.{rules}
use Rattle.pictures.proofs.Runs.{front_runs}
use Rattle.pictures.proofs.picturing.drawn_objects.Goals as goal

pub machine_behind-requires : goal.machine_behind-requires
machine_behind-requires c = front_runs _ _ _ c.requires

pub returns-clause-drawn : goal.returns-clause-drawn
returns-clause-drawn c = search rules
