use Rattle.std.proofs.Common.{inr}
use Rattle.std.proofs.lemmas.Result.{err_from_is_err_and}
use Rattle.text_streams.proofs.Pieces.{Keeps-itself}
use Rattle.history_check.proofs.replaying.replay.Goals as goal

pub returns-in_err-count-clause-unwritten : goal.returns-in_err-count-clause-unwritten
returns-in_err-count-clause-unwritten g c =
    let p = err_from_is_err_and c.from_residual.result c.from_residual.ensures.1 in
    rw p.1 (inr (Keeps-itself (g.W.Sink.holds c.args.sink.now)))
