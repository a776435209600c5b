use Rattle.std.proofs.Common.{rules}
use Rattle.script_text.proofs.walking.ScriptReader.new.Goals as goal

pub invariant_of-result : goal.invariant_of-result
invariant_of-result c = search rules

pub returns-clause-start : goal.returns-clause-start
returns-clause-start c = search rules

pub returns-clause-too_long : goal.returns-clause-too_long
returns-clause-too_long c = search rules
