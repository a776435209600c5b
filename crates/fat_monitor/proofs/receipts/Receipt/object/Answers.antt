use Rattle.std.proofs.Common.{rules}
use Rattle.fat_monitor.proofs.receipts.Receipt.object.Goals as goal

pub returns : goal.returns
returns c = search rules
