use Rattle.std.proofs.lemmas.Result.{err_from_is_err_and}
use Rattle.dump.proofs.dumping.dump_in.Goals as goal

pub returns-in_err-text-clause-fault : goal.returns-in_err-text-clause-fault
returns-in_err-text-clause-fault c =
    let p = err_from_is_err_and c.from_residual-in_err-text.result c.from_residual-in_err-text.ensures.1 in
    rw (p.1, p.2) tt

pub returns-clause-dump : goal.returns-clause-dump
returns-clause-dump c =
    let played = c.in_ok-world.ensures.played in record {
      lines = played.0;
      script = played.1;
      read = played.2;
      world = c.in_ok-world.world;
      names = c.in_ok-world.names;
      play = played.3;
      dump = c.in_ok-text.ensures;
    }
