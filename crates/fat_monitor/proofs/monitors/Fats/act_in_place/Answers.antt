use Rattle.fat_monitor.proofs.Soundness.{stand_behind}
use Rattle.fat_monitor.proofs.MonitorEffects.{objects_after}
use Rattle.fat_monitor.proofs.Steps.{sound_after}
use Rattle.fat_monitor.proofs.monitors.Fats.act_in_place.Goals as goal

pub returns-clause-sound : goal.returns-clause-sound
returns-clause-sound c = sound_after c.args.self.now _ c.args.thread c.args.action _ c.make.ensures.was c.requires.ready c.requires.bound c.make.ensures.table

pub returns-clause-behind : goal.returns-clause-behind
returns-clause-behind c = stand_behind _ (returns-clause-sound c)

pub returns-clause-objects : goal.returns-clause-objects
returns-clause-objects c = objects_after c.args.self.now c.args.thread c.args.action _ _ c.make.ensures.table
