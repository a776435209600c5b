use Rattle.std.proofs.Common.{sym, ◌∙◌}
use Rattle.script_text.proofs.NameText.{name_utf8}
use Rattle.script_text.proofs.names.Name.from_bytes.Goals as goal

pub from_utf8_unchecked-text-requires : goal.from_utf8_unchecked-text-requires
from_utf8_unchecked-text-requires c = name_utf8 c.args.bytes.now (sym c.is_right.ensures ∙ c.if-not-is_right.false)
