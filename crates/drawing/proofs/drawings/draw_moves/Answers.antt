use Rattle.std.proofs.Common.{rules}
use Rattle.drawing.proofs.drawings.draw_moves.Goals as goal

pub returns-in_err-write_out-clause-cut : goal.returns-in_err-write_out-clause-cut
returns-in_err-write_out-clause-cut g c = search rules

pub returns-clause-written : goal.returns-clause-written
returns-clause-written g c = search rules
