use Rattle.std.proofs.Common.{arith, rules}
use Rattle.history_moves.specs.Reading.{first_from}
use Rattle.history_moves.proofs.values.reading.found_first.Goals as goal

pub overflow_cast-result : goal.overflow_cast-result
overflow_cast-result c = omega arith

pub returns-then-objects-le-MOST_OBJECTS-clause-found : goal.returns-then-objects-le-MOST_OBJECTS-clause-found
unfolding first_from
returns-then-objects-le-MOST_OBJECTS-clause-found c = search rules
