use Rattle.std.proofs.Common.{◌≡◌, ◌++◌, take, string_bytes}
use Rattle.std.specs.Str.{IsUtf8, chars, encode_utf8_all}
use Rattle.std.specs.Str.Iter.{chars_rest}
use Rattle.picture_text.specs.Nodes.{escaped}
use Rattle.picture_text.proofs.labels.put_first.Given as goal

abbrev pub invariant-chars : goal.invariant-chars
invariant-chars l = record {
  utf8 : IsUtf8 (chars_rest l.ch-iterator);
  text : string_bytes l.text ++ escaped (encode_utf8_all (take l.left (chars (chars_rest l.ch-iterator))))
      ≡ string_bytes l.fn.text ++ escaped (encode_utf8_all (take l.count (chars l.words)));
}
