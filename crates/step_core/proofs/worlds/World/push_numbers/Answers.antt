use Rattle.std.proofs.Common.{rules}
use Rattle.step_core.proofs.Numbers.{fits_when_put}
use Rattle.step_core.proofs.worlds.World.push_numbers.Goals as goal

pub returns-else-is_err-clause-fits : goal.returns-else-is_err-clause-fits
returns-else-is_err-clause-fits c =
    fits_when_put c.push_parts-pushed.result c.push_parts-pushed.new.numbers.items c.args.numbers.now.items _ c.type_inv.numbers c.push_parts-pushed.ensures.written

pub returns-then-is_err-clause-unchanged : goal.returns-then-is_err-clause-unchanged
returns-then-is_err-clause-unchanged c = search rules
