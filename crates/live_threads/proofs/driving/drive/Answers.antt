use Rattle.live_threads.specs.Driving.{CanDrive}
use Rattle.std.proofs.Common.{subst}
use Rattle.live_threads.specs.Driving.{AllDriven}
use Rattle.live_threads.proofs.Drives.{all_of_map, driven_here, driven_numbers}
use Rattle.live_threads.proofs.driving.drive.Goals as goal

pub drive_jobs-requires-clause-can : goal.drive_jobs-requires-clause-can
drive_jobs-requires-clause-can g c κs within =
    all_of_map (λ j. j.work) (CanDrive c.args.live.now) c.in-Ok-with_answers.jobs.items c.args.works.items c.in-Ok-with_answers.ensures.jobs c.requires.can

pub returns-in-Ok-with_answers-clause-here : goal.returns-in-Ok-with_answers-clause-here
returns-in-Ok-with_answers-clause-here g c =
    let works = c.args.works.items in
    let driven : AllDriven c.args.live.now works c.drive_jobs.result.items =
    subst (λ ws. AllDriven c.args.live.now ws c.drive_jobs.result.items) c.in-Ok-with_answers.ensures.jobs c.drive_jobs.ensures.driven in
    driven_here c.args.live.now works c.drive_jobs.result.items driven

pub returns-in-Ok-with_answers-clause-numbers : goal.returns-in-Ok-with_answers-clause-numbers
returns-in-Ok-with_answers-clause-numbers g c =
    let works = c.args.works.items in
    let driven : AllDriven c.args.live.now works c.drive_jobs.result.items =
    subst (λ ws. AllDriven c.args.live.now ws c.drive_jobs.result.items) c.in-Ok-with_answers.ensures.jobs c.drive_jobs.ensures.driven in
    driven_numbers c.args.live.now works c.drive_jobs.result.items driven
