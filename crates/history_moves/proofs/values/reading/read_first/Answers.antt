use Rattle.serde_json.specs.View.{view}
use Rattle.history_moves.proofs.MoveLaws.{some_first, none_first}
use Rattle.history_moves.proofs.values.reading.read_first.Goals as goal

pub returns-clause-found : goal.returns-clause-found
returns-clause-found c = some_first (view c.args.value.now) c.found_first.result c.found_first.ensures.found c.found_first.ensures.ordered

pub returns-clause-none : goal.returns-clause-none
returns-clause-none c = none_first (view c.args.value.now) c.found_first.result c.found_first.ensures.found
