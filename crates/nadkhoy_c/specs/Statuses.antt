-- The numbers of the statuses.
use Rattle.std.specs.Prelude.{ℕ}
use Rattle.nadkhoy_c.specs.declared.status.Status.{Status}
use Rattle.nadkhoy_c.specs.declared.status.Status.TheVariants.{Done, Memory, Closed, InUse, NoObject, NoThread, NoStep, NoSplit, Range, NoPass, OtherSeats, WrongPass, NoDeed}

abbrev pub status_number : Status → ℕ
status_number Done = 0
status_number Memory = 2
status_number Closed = 101
status_number InUse = 102
status_number NoObject = 103
status_number NoThread = 104
status_number NoStep = 105
status_number NoSplit = 106
status_number Range = 107
status_number NoPass = 108
status_number OtherSeats = 109
status_number WrongPass = 110
status_number NoDeed = 111
