-- Each step is a run of the machine on the shown states.
pub mod WordRuns
pub mod Regaining
pub mod ActionShows
pub mod ActionRuns
pub mod NotifyRuns
pub mod InterruptRuns
pub mod WaitEndRuns
pub mod StageRuns
