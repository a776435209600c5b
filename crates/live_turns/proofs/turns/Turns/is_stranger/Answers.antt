use Rattle.std.proofs.Common.{rules}
use Rattle.live_turns.proofs.turns.Turns.is_stranger.Goals as goal

pub returns-in-Interrupted : goal.returns-in-Interrupted
returns-in-Interrupted g c = search rules

pub returns-then-thread-lt1 : goal.returns-then-thread-lt1
returns-then-thread-lt1 g c = search rules

pub returns-else-thread-lt1 : goal.returns-else-thread-lt1
returns-else-thread-lt1 g c = search rules
