-- Trees of elements, words and numbers, and their text as XML.
use Rattle.std.specs.Prelude.{ℕ, List, [], ◌∷◌, ◌++◌, ◌==◌, if◌then◌else◌, codes, decimal, map}
use Rattle.std.specs.List.{flat_map, join_with_byte}

-- what stands between the quotes of an attribute: a number, some numbers with spaces between them, a word,
-- or a word with a number behind it
pub data Value : Type 0 where
  Number : ℕ → Value
  Numbers : List ℕ → Value
  Word : List ℕ → Value
  Numbered : List ℕ → ℕ → Value

pub record Attribute : Type 0 where
  pub name : List ℕ
  pub value : Value

-- an element with what is in it, words, a number, nothing, and one node behind another
pub data Node : Type 0 where
  Element : List ℕ → List Attribute → Node → Node
  Words : List ℕ → Node
  Figure : ℕ → Node
  Nothing : Node
  Then : Node → Node → Node

-- a byte that would end words or a value is written by its name
abbrev pub escape : ℕ → List ℕ
escape c =
    if c == 34 then codes "&quot;"
    else (if c == 38 then codes "&amp;"
    else (if c == 60 then codes "&lt;"
    else (if c == 62 then codes "&gt;" else c ∷ [])))

unfoldable pub escaped : List ℕ → List ℕ
escaped words = flat_map escape words

abbrev pub value_text : Value → List ℕ
value_text (Number n) = decimal n
value_text (Numbers ns) = join_with_byte 32 (map decimal ns)
value_text (Word word) = escaped word
value_text (Numbered word n) = escaped word ++ decimal n

-- each attribute behind a space, and then the rest
abbrev pub attributes_then : List Attribute → List ℕ → List ℕ
attributes_then [] rest = rest
attributes_then (a ∷ behind) rest =
    32 ∷ a.name ++ (61 ∷ 34 ∷ (value_text a.value ++ (34 ∷ attributes_then behind rest)))

-- the tag that an element begins with, and the one that it ends with
unfoldable pub opening : List ℕ → List Attribute → List ℕ
opening name attributes = 60 ∷ name ++ attributes_then attributes (62 ∷ [])

unfoldable pub closing : List ℕ → List ℕ
closing name = 60 ∷ 47 ∷ name ++ 62 ∷ []

abbrev pub node_text : Node → List ℕ
node_text (Element name attributes inside) = opening name attributes ++ (node_text inside ++ closing name)
node_text (Words words) = escaped words
node_text (Figure n) = decimal n
node_text Nothing = []
node_text (Then a b) = node_text a ++ node_text b

-- some nodes, one behind another
abbrev pub from_first : Node → List Node → Node
from_first a [] = a
from_first a (b ∷ rest) = Then a (from_first b rest)

abbrev pub in_turn : List Node → Node
in_turn [] = Nothing
in_turn (a ∷ rest) = from_first a rest
