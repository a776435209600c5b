use Rattle.std.proofs.Common.{rules}
use Rattle.live_book.proofs.places.gained.Goals as goal

pub returns-in-Enter-Parked : goal.returns-in-Enter-Parked
returns-in-Enter-Parked c = search rules

pub returns-in-Enter-Parked-2 : goal.returns-in-Enter-Parked-2
returns-in-Enter-Parked-2 c = search rules
