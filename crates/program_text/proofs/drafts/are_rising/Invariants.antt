use Rattle.std.proofs.Common.{◌≡◌, drop}
use Rattle.program_text.specs.Drafts.{rise_from}
use Rattle.program_text.proofs.drafts.are_rising.Given as goal

abbrev pub invariant-moments : goal.invariant-moments
invariant-moments l = rise_from 0 l.moments ≡ rise_from l.last (drop l.moment-index l.moments)
