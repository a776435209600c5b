use Rattle.std.proofs.Common.{◌≡◌, ◌++◌, string_bytes}
use Rattle.std.specs.Str.Iter.{chars_rest}
use Rattle.picture_text.specs.Nodes.{escaped}
use Rattle.picture_text.proofs.escapes.put_escaped.Given as goal

abbrev pub invariant-chars : goal.invariant-chars
invariant-chars l = string_bytes l.text ++ escaped (chars_rest l.ch-iterator) ≡ string_bytes l.fn.text ++ escaped l.words
