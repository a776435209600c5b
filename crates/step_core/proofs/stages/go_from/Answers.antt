use Rattle.std.proofs.Common.{true}
use Rattle.step_core.proofs.stages.go_from.Goals as goal

pub returns-in-Storing : goal.returns-in-Storing
returns-in-Storing c = (true, rw c.in-Storing.is (c.store.ensures c.args.fats.now))

pub returns-in-Binding : goal.returns-in-Binding
returns-in-Binding c = let h = c.bind.ensures c.args.split c.args.words.now in (h.0, rw c.in-Binding.is h.1)

pub returns-in-Won : goal.returns-in-Won
returns-in-Won c = let h = c.bind_won.ensures c.args.split c.args.words.now in (h.0, rw c.in-Won.is h.1)

pub returns-in-Taking : goal.returns-in-Taking
returns-in-Taking c = (true, rw c.in-Taking.is (c.take.ensures c.args.fats.now))

pub returns-in-Bound : goal.returns-in-Bound
returns-in-Bound c = (true, rw c.in-Bound.is (c.publish.ensures c.args.fats.now))

pub returns-in-Acting : goal.returns-in-Acting
returns-in-Acting c = (true, rw c.in-Acting.is (c.act_on.ensures c.args.split c.args.words.now))

pub returns-in-Inflated : goal.returns-in-Inflated
returns-in-Inflated c = (true, rw c.in-Inflated.is (c.act_on-in-Inflated.ensures c.args.split c.args.words.now))

pub returns-in-Direct : goal.returns-in-Direct
returns-in-Direct c = (true, rw c.in-Direct.is (c.act_about.ensures c.args.split c.args.words.now))
