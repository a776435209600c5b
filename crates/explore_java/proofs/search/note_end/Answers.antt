use Rattle.std.proofs.Common.{rules}
use Rattle.explore_java.proofs.search.note_end.Goals as goal

pub returns-in_ok-push : goal.returns-in_ok-push
returns-in_ok-push c = search rules
