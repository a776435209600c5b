use Rattle.std.proofs.Common.{take}
use Rattle.history.specs.Plays.{Plays}
use Rattle.history.proofs.playing.do_steps.Given as goal

abbrev pub invariant-steps : goal.invariant-steps
invariant-steps l = Plays l.fn.world (take l.request-index l.steps) l.world
