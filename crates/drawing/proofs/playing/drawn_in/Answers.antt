use Rattle.drawing.proofs.Handed.{trial_columns, trial_refused, trial_run}
use Rattle.drawing.proofs.playing.drawn_in.Goals as goal

pub objects_in-requires : goal.objects_in-requires
objects_in-requires c =
    let played = trial_columns _ _ _ _ _ _ c.in_ok-trial.ensures.cases c.deref.ensures.value c.in_ok-columns.ensures in
    trial_run c.args.objects c.args.front.now _ c.args.world.now _ c.args.steps.now c.requires played

pub returns : goal.returns
returns c =
    let played = trial_columns _ _ _ _ _ _ c.in_ok-trial.ensures.cases c.deref.ensures.value c.in_ok-columns.ensures in
    record { fault = trial_refused _ _ _ _ _ _ _ played c.objects_in.ensures.fault }
