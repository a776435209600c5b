use Rattle.std.proofs.Common.{rules}
use Rattle.explore.proofs.tried.Tried.steps.Goals as goal

pub returns-in-Refused : goal.returns-in-Refused
returns-in-Refused c = search rules
