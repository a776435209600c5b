use Rattle.std.proofs.Common.{rules}
use Rattle.drawing.proofs.columns.column_in.Goals as goal

pub returns-in-Err : goal.returns-in-Err
returns-in-Err c = search rules

pub returns-in-Err-Memory-clause-refusal : goal.returns-in-Err-Memory-clause-refusal
returns-in-Err-Memory-clause-refusal c = search rules

pub returns-in-Err-Memory-clause-memory : goal.returns-in-Err-Memory-clause-memory
returns-in-Err-Memory-clause-memory c = search rules
