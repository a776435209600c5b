-- Attributes and elements of which a picture is made.
use Rattle.std.specs.Prelude.{ℕ, List, [], ◌∷◌, codes}
use Rattle.picture_text.specs.Nodes.{Attribute, Number, Word, Numbered, Node, Element, Nothing}

abbrev pub number : List ℕ → ℕ → Attribute
number name n = record { name = name; value = Number n }

abbrev pub word : List ℕ → List ℕ → Attribute
word name text = record { name = name; value = Word text }

-- where a box lies, and how it looks: its class in the style of the picture
unfoldable pub box_attributes : List ℕ → ℕ → ℕ → ℕ → ℕ → List Attribute
box_attributes look x y width height =
    word (codes "class") look ∷ number (codes "x") x ∷ number (codes "y") y ∷ number (codes "width") width
    ∷ number (codes "height") height ∷ []

abbrev pub box : List ℕ → ℕ → ℕ → ℕ → ℕ → Node → Node
box look x y width height inside = Element (codes "rect") (box_attributes look x y width height) inside

-- a box in the pattern with this number
unfoldable pub bar_attributes : ℕ → ℕ → ℕ → ℕ → ℕ → List Attribute
bar_attributes pattern x y width height =
    record { name = codes "class"; value = Numbered (codes "p") pattern } ∷ number (codes "x") x
    ∷ number (codes "y") y ∷ number (codes "width") width ∷ number (codes "height") height ∷ []

abbrev pub bar : ℕ → ℕ → ℕ → ℕ → ℕ → Node → Node
bar pattern x y width height inside = Element (codes "rect") (bar_attributes pattern x y width height) inside

unfoldable pub line_attributes : List ℕ → ℕ → ℕ → ℕ → ℕ → List Attribute
line_attributes look x1 y1 x2 y2 =
    word (codes "class") look ∷ number (codes "x1") x1 ∷ number (codes "y1") y1 ∷ number (codes "x2") x2
    ∷ number (codes "y2") y2 ∷ []

abbrev pub line : List ℕ → ℕ → ℕ → ℕ → ℕ → Node → Node
line look x1 y1 x2 y2 inside = Element (codes "line") (line_attributes look x1 y1 x2 y2) inside

-- a thin line that says nothing of itself
unfoldable pub tick_node : ℕ → ℕ → ℕ → ℕ → Node
tick_node x1 y1 x2 y2 = line (codes "tick") x1 y1 x2 y2 Nothing

unfoldable pub point_attributes : List ℕ → ℕ → ℕ → List Attribute
point_attributes look x y = word (codes "class") look ∷ number (codes "x") x ∷ number (codes "y") y ∷ []

-- words at a point
abbrev pub label : List ℕ → ℕ → ℕ → Node → Node
label look x y inside = Element (codes "text") (point_attributes look x y) inside

abbrev pub group : List ℕ → Node → Node
group look inside = Element (codes "g") (word (codes "class") look ∷ []) inside

-- what a piece says of itself where it is pointed at
abbrev pub title : Node → Node
title inside = Element (codes "title") [] inside
