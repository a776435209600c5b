use Rattle.std.proofs.Common.{rules}
use Rattle.pictures.proofs.late.bring_up.Goals as goal

pub returns-in_ok-put_columns-clause-kept : goal.returns-in_ok-put_columns-clause-kept
returns-in_ok-put_columns-clause-kept c = search rules

pub returns-else-late-column-clause-covered : goal.returns-else-late-column-clause-covered
returns-else-late-column-clause-covered c = search rules
