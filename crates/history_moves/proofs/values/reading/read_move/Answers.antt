use Rattle.serde_json.specs.View.{view}
use Rattle.history_moves.proofs.MoveLaws.{some_found, none_found}
use Rattle.history_moves.proofs.values.reading.read_move.Goals as goal

pub returns-clause-found : goal.returns-clause-found
returns-clause-found c = some_found (view c.args.value.now) c.found_move.result c.found_move.ensures.found c.found_move.ensures.ordered

pub returns-clause-none : goal.returns-clause-none
returns-clause-none c = none_found (view c.args.value.now) c.found_move.result c.found_move.ensures.found
