use Rattle.live_threads.specs.Driving.{CanDrive}
use Rattle.live_threads.proofs.Drives.{last_kept, rest_kept}
use Rattle.live_threads.proofs.driving.last_job.Goals as goal

pub returns-clause-can : goal.returns-clause-can
returns-clause-can g c = last_kept (λ j. CanDrive c.args.live.now j.work) c.args.jobs.now.items c.pop.new.self.items c.pop.result c.requires.can c.pop.ensures.items

pub returns-clause-others : goal.returns-clause-others
returns-clause-others g c = rest_kept (λ j. CanDrive c.args.live.now j.work) c.args.jobs.now.items c.pop.new.self.items c.pop.result c.requires.can c.pop.ensures.items
