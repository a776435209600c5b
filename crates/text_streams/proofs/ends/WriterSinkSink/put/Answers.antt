use Rattle.std.proofs.Common.{rules}
use Rattle.text_streams.proofs.ends.WriterSinkSink.put.Goals as goal

pub returns-in-Ok : goal.returns-in-Ok
returns-in-Ok g c = search rules
