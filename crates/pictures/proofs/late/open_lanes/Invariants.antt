use Rattle.std.proofs.Common.{take}
use Rattle.std.specs.List.{AllZip}
use Rattle.pictures.specs.Late.{IsOpenLane}
use Rattle.pictures.proofs.late.open_lanes.Given as goal

abbrev pub invariant-threads : goal.invariant-threads
invariant-threads l = AllZip (IsOpenLane l.calls.items l.replies.items) (take l.thread-index l.threads) l.lanes.items
