use Rattle.std.proofs.Common.{arith, ap, map}
use Rattle.std.proofs.lemmas.Grind.{common_steps}
use Rattle.live_runs.specs.Runs.{told_in, told_in_row}
use Rattle.live_runs.proofs.Workers.{all_moved, none_left}
use Rattle.live_runs.proofs.works.taken_apart.Goals as goal

pub returns-clause-told : goal.returns-clause-told
returns-clause-told g c =
    all_moved told_in_row (map told_in c.loop-worked.worked.items) c.loop-worked.told.items c.reverse-2.new.self.items (map told_in c.args.worked.items)
    (ap (map told_in) (none_left c.loop-worked.worked.items c.last_of.result c.in_default.not-Some c.last_of.ensures.none)) c.reverse-2.ensures.items c.loop-worked.invariant.told

pub loop-worked-preserved : goal.loop-worked-preserved
loop-worked-preserved g c = record {
  room = grind (arith, common_steps);
  space = grind (arith, common_steps);
  passes = grind (arith, common_steps);
  told = grind (arith, common_steps);
}
