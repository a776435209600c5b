use Rattle.std.proofs.Common.{rules}
use Rattle.nadkhoy_c.proofs.live.nadkhoy_live_open.Goals as goal

pub returns-then-is_full : goal.returns-then-is_full
returns-then-is_full c = search rules

pub returns-then-lows-gt65535 : goal.returns-then-lows-gt65535
returns-then-lows-gt65535 c = search rules

pub returns : goal.returns
returns c = search rules
