use Rattle.live_threads.specs.Driving.{CanDrive}
use Rattle.live_threads.proofs.Drives.{all_of_two}
use Rattle.live_tests.proofs.threads.works.drive_both.Goals as goal

pub drive-requires-clause-can : goal.drive-requires-clause-can
drive-requires-clause-can g c κs within =
    all_of_two (CanDrive c.args.live.now) c.args.works.0 c.args.works.1 c.in_ok-works.works.items c.in_ok-works.ensures.items c.requires.first c.requires.second
