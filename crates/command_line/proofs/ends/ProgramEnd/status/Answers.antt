use Rattle.std.proofs.Common.{rules}
use Rattle.command_line.proofs.ends.ProgramEnd.status.Goals as goal

pub returns-in-Misused : goal.returns-in-Misused
returns-in-Misused c = search rules
