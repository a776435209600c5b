-- Words that are cut to the room that they have.
use Rattle.std.specs.Prelude.{ℕ, List, [], ◌∷◌, ◌++◌, ◌-◌, ◌/◌, nat_le, nat_lt, length, take, if◌then◌else◌}
use Rattle.std.specs.Str.{chars, encode_utf8_all}
use Rattle.picture_text.specs.Nodes.{Node, Words, Nothing}
use Rattle.picture_text.specs.Pieces.{label}

-- at most so many characters; where some are left out, the last one is …
unfoldable pub cut : ℕ → List ℕ → List ℕ
cut room words =
    if nat_le (length (chars words)) room then words
    else encode_utf8_all (take (room - 1) (chars words)) ++ 226 ∷ 128 ∷ 166 ∷ []

-- how many characters there is room for in a width in units
abbrev pub room_in : ℕ → ℕ
room_in width = (width - 4) / 6

-- words at a point, left out where there is room for fewer than 3 characters
unfoldable pub cut_label : List ℕ → ℕ → ℕ → ℕ → List ℕ → Node
cut_label look x y room words = if nat_lt room 3 then Nothing else label look x y (Words (cut room words))
