-- The bytes of a name are a text.
use Rattle.std.proofs.Common.{◌≡◌, ℕ, List, [], ◌∷◌, true, nat_lt, arith}
use Rattle.std.specs.Str.{IsUtf8, IsAscii}
use Rattle.std.proofs.lemmas.Bool.{and_parts, ltb-true}
use Rattle.std.proofs.lemmas.Str.{IsUtf8-from_ascii}
use Rattle.std.proofs.lemmas.Str.Ascii.{IsAscii-nil, IsAscii-cons}
use Rattle.script_text.specs.Words.{is_name}
use Rattle.script_text.proofs.Plain.{is_plain_byte, is_plain, name_plain}

plain_ascii : (bs : List ℕ) → is_plain bs ≡ true → IsAscii bs
plain_ascii [] h = IsAscii-nil
plain_ascii (b ∷ bs) h =
    let parts = and_parts (is_plain_byte b) _ h in
    IsAscii-cons b bs (omega (arith, ltb-true b 127 (and_parts (nat_lt 32 b) (nat_lt b 127) parts.0).1)) (plain_ascii bs parts.1)

pub name_utf8 : (name : List ℕ) → is_name name ≡ true → IsUtf8 name
name_utf8 name h = IsUtf8-from_ascii name (plain_ascii name (name_plain name h))
