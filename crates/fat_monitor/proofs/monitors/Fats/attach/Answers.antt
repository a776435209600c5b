use Rattle.fat_monitor.proofs.Steps.{attached_sound}
use Rattle.fat_monitor.proofs.monitors.Fats.attach.Goals as goal

pub returns-clause-sound : goal.returns-clause-sound
returns-clause-sound c =
    attached_sound c.args.self.now _ c.args.thread c.enroll.result c.enroll.ensures.was c.requires c.enroll.ensures.fresh c.enroll.ensures.attached c.enroll.ensures.err
