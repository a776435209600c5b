use Rattle.std.proofs.Common.{◌≡◌, ◌<◌, ◌++◌, sym, ap, ◌∙◌, append_assoc, append-nil, string_bytes, arith}
use Rattle.std.proofs.lemmas.Str.{IsUtf8-past_char}
use Rattle.std.specs.Char.{encode_utf8}
use Rattle.std.specs.Str.Iter.{chars_rest}
use Rattle.picture_text.proofs.Escaping.{front_end, front_none, front_step}
use Rattle.picture_text.specs.Nodes.{escaped}
use Rattle.picture_text.proofs.labels.put_first.Goals as goal

pub chars-preserved : goal.chars-preserved
chars-preserved c =
    let e : chars_rest c.chars.ch-iterator ≡ encode_utf8 c.in-Some.ch ++ chars_rest c.next.new.self = c.in-Some.ensures.steps.0 in
    let some : 0 < c.chars.left = omega arith in
    let step = front_step _ _ c.in-Some.ch c.chars.left c.chars.invariant.utf8 e some in
    let put : string_bytes c.put_char.new.text ≡ string_bytes c.chars.text ++ escaped (encode_utf8 c.in-Some.ch) = c.in_ok-put_char.ensures in
    record {
      utf8 = IsUtf8-past_char (chars_rest c.chars.ch-iterator) (chars_rest c.next.new.self) c.in-Some.ch c.chars.invariant.utf8 e;
      text = rw (put, append_assoc, ← step) c.chars.invariant.text;
    }

pub returns : goal.returns
returns c =
    let none = front_end (chars_rest c.chars.ch-iterator) c.chars.left c.in-None.ensures.steps.0.0 in
    sym (append-nil _) ∙ ap (λ r. string_bytes c.chars.text ++ r) (sym none) ∙ c.chars.invariant.text

pub returns-then-left-eq0 : goal.returns-then-left-eq0
returns-then-left-eq0 c =
    let e : c.chars.left ≡ 0 = omega arith in
    let none = front_none (chars_rest c.chars.ch-iterator) c.chars.left e in
    sym (append-nil _) ∙ ap (λ r. string_bytes c.chars.text ++ r) (sym none) ∙ c.chars.invariant.text
