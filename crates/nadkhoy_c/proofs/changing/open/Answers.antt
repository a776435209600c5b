use Rattle.std.proofs.Common.{rules}
use Rattle.nadkhoy_c.proofs.changing.open.Goals as goal

pub returns-in_default : goal.returns-in_default
returns-in_default c = search rules

pub returns-then-lows-gt65535 : goal.returns-then-lows-gt65535
returns-then-lows-gt65535 c = search rules

pub returns-in_default-boxed : goal.returns-in_default-boxed
returns-in_default-boxed c = search rules

pub returns : goal.returns
returns c = search rules
