use Rattle.std.proofs.Common.{rules}
use Rattle.text_streams.proofs.ends.ReaderSource.new.Goals as goal

pub returns : goal.returns
returns g c = search rules
