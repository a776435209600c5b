use Rattle.std.proofs.Common.{arith}
use Rattle.std.proofs.lemmas.Grind.{common_steps}
use Rattle.live_scripts.proofs.plans.position_of.Goals as goal

pub names-preserved : goal.names-preserved
names-preserved c = record {
  position = grind (arith, common_steps);
  before = grind (arith, common_steps);
}

pub names-init : goal.names-init
names-init c = grind (arith, common_steps)

pub offset_bounds-names-other-index : goal.offset_bounds-names-other-index
offset_bounds-names-other-index c = grind (arith, common_steps)

pub bounds-names-other-index : goal.bounds-names-other-index
bounds-names-other-index c = grind (arith, common_steps)

pub fact_in-name : goal.fact_in-name
fact_in-name c = grind (arith, common_steps)

pub eq-requires : goal.eq-requires
eq-requires c = grind (arith, common_steps)

pub returns-then-eq-clause-within : goal.returns-then-eq-clause-within
returns-then-eq-clause-within c = grind (arith, common_steps)

pub returns-then-eq-clause-position : goal.returns-then-eq-clause-position
returns-then-eq-clause-position c = grind (arith, common_steps)

pub overflow_add-position : goal.overflow_add-position
overflow_add-position c = grind (arith, common_steps)

pub names-smaller : goal.names-smaller
names-smaller c = grind (arith, common_steps)

pub returns-clause-within : goal.returns-clause-within
returns-clause-within c = grind (arith, common_steps)

pub returns-clause-position : goal.returns-clause-position
returns-clause-position c = grind (arith, common_steps)
