use Rattle.std.proofs.Common.{arith, rules}
use Rattle.fat_monitor.specs.Fats.{fat_state_in}
use Rattle.fat_monitor.proofs.WaitCounts.{wait_count-few}
use Rattle.fat_monitor.proofs.monitors.Fats.waiting.Goals as goal

pub overflow_cast-result : goal.overflow_cast-result
overflow_cast-result c = let few = wait_count-few (fat_state_in c.self.inside) c.self.invariant.sound in let read = c.waiting.ensures in omega arith

pub returns : goal.returns
returns c = search rules
