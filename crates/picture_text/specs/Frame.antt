-- The whole picture.
use Rattle.std.specs.Prelude.{ℕ, ◌≤◌, List, [], ◌∷◌, ◌++◌, codes, length}
use Rattle.pictures.specs.declared.picture.Picture.{Picture}
use Rattle.picture_text.specs.declared.layout.Layout.{Layout}
use Rattle.picture_text.specs.declared.naming.Naming.{Naming}
use Rattle.picture_text.specs.declared.naming.Naming.TheVariants.{Names, Numbers}
use Rattle.picture_text.specs.declared.frame.TheConstants.{DESCRIPTION, STYLE}
use Rattle.picture_text.specs.Nodes.{Attribute, Node, Element, Words, Numbered, Nothing, Then, in_turn, node_text}
use Rattle.picture_text.specs.Nodes.{Numbers as Row}
use Rattle.picture_text.specs.Pieces.{box, number, title, word}
use Rattle.picture_text.specs.Arrows.{arrows_below}
use Rattle.picture_text.specs.Axis.{cycles_below, moments_below, numbers_below}
use Rattle.picture_text.specs.Lanes.{lanes_below}
use Rattle.picture_text.specs.Layout.{bottom_of, layout_of, right_of}
use Rattle.picture_text.specs.Refusals.{refusals_below}
use Rattle.picture_text.specs.Strips.{strips_below}

-- the style of the picture, and what it shows
unfoldable pub style_words : List ℕ
style_words = STYLE.now

unfoldable pub description_words : List ℕ
description_words = DESCRIPTION.now

unfoldable pub root_attributes : ℕ → ℕ → List Attribute
root_attributes width height =
    word (codes "xmlns") (codes "http://www.w3.org/2000/svg") ∷ word (codes "version") (codes "1.1")
    ∷ number (codes "width") width
    ∷ number (codes "height") height ∷ record { name = codes "viewBox"; value = Row (0 ∷ 0 ∷ width ∷ height ∷ []) } ∷ []

unfoldable pub path_attributes : List ℕ → List ℕ → List Attribute
path_attributes look path = word (codes "class") look ∷ word (codes "d") path ∷ []

-- a tile of 6 by 6 units
unfoldable pub pattern_attributes : ℕ → List Attribute
pattern_attributes n =
    record { name = codes "id"; value = Numbered (codes "p") n } ∷ word (codes "patternUnits") (codes "userSpaceOnUse")
    ∷ number (codes "width") 6 ∷ number (codes "height") 6 ∷ []

unfoldable pub pattern_node : ℕ → List ℕ → Node
pattern_node n path =
    Element (codes "pattern") (pattern_attributes n)
    (Element (codes "path") (path_attributes (codes "hatch") path) Nothing)

-- the head of an arrow, in a box of 10 by 10
unfoldable pub marker_attributes : ℕ → List Attribute
marker_attributes n =
    record { name = codes "id"; value = Numbered (codes "a") n } ∷ word (codes "viewBox") (codes "0 0 10 10")
    ∷ word (codes "refX") (codes "9") ∷ word (codes "refY") (codes "5") ∷ word (codes "markerWidth") (codes "7")
    ∷ word (codes "markerHeight") (codes "7") ∷ word (codes "orient") (codes "auto") ∷ []

unfoldable pub marker_node : ℕ → List ℕ → List ℕ → Node
marker_node n look path =
    Element (codes "marker") (marker_attributes n) (Element (codes "path") (path_attributes look path) Nothing)

unfoldable pub first_patterns : Node
first_patterns = in_turn (
    pattern_node 0 (codes "M0 6L6 0") ∷ pattern_node 1 (codes "M0 0L6 6") ∷ pattern_node 2 (codes "M0 3H6")
    ∷ pattern_node 3 (codes "M3 0V6") ∷ [])

unfoldable pub last_patterns : Node
last_patterns = in_turn (
    pattern_node 4 (codes "M0 0H6V6") ∷ pattern_node 5 (codes "M2 3H4") ∷ pattern_node 6 (codes "M0 0L3 6")
    ∷ pattern_node 7 (codes "M2 2H4V4") ∷ [])

unfoldable pub markers_node : Node
markers_node = in_turn (
    marker_node 0 (codes "head") (codes "M0 0L9 5L0 10Z")
    ∷ marker_node 1 (codes "open") (codes "M0 0L9 5L0 10")
    ∷ marker_node 2 (codes "head") (codes "M0 5L5 1L9 5L5 9Z") ∷ [])

-- for those who do not see the picture
unfoldable pub about_node : Node
about_node = Then (title (Words (codes "Monitors"))) (Element (codes "desc") [] (Words description_words))

unfoldable pub style_node : Node
style_node = Element (codes "style") [] (Words style_words)

unfoldable pub defs_node : Node
defs_node = Element (codes "defs") [] (in_turn (first_patterns ∷ last_patterns ∷ markers_node ∷ []))

unfoldable pub ground_node : Layout → ℕ → Node
ground_node l cycles = box (codes "ground") 0 0 (right_of l) (bottom_of l cycles) Nothing

-- what stands in front of the lanes
unfoldable pub head_node : Layout → ℕ → Node
head_node l cycles = in_turn (about_node ∷ style_node ∷ defs_node ∷ ground_node l cycles ∷ [])

-- a script has header words, which need a row of their own
abbrev pub strip_height_of : Naming → ℕ
strip_height_of (Names names) = 40
strip_height_of Numbers = 28

-- what stands above the lanes
unfoldable pub above_node : Naming → Layout → Picture → Node
above_node naming l p = in_turn (
    numbers_below l l.columns ∷ moments_below l p.moments.items (length p.moments.items)
    ∷ refusals_below naming l p.refusals.items (length p.refusals.items) ∷ [])

-- arrows lie in front of strips and bars, and the numbers of columns behind all
unfoldable pub body_node : Naming → Layout → Picture → Node
body_node naming l p = in_turn (
    above_node naming l p
    ∷ lanes_below naming l p.lanes.items (length p.lanes.items)
    ∷ strips_below naming l p.lanes.items p.strips.items (length p.strips.items)
    ∷ arrows_below naming l p.lanes.items p.arrows.items (length p.arrows.items)
    ∷ cycles_below naming l p.lanes.items p.cycles.items (length p.cycles.items) ∷ [])

abbrev pub picture_in : Naming → Layout → Picture → Node
picture_in naming l p =
    Element (codes "svg") (root_attributes (right_of l) (bottom_of l (length p.cycles.items)))
    (Then (head_node l (length p.cycles.items)) (body_node naming l p))

abbrev pub picture_node : Naming → Picture → Node
picture_node naming p = picture_in naming (layout_of p (strip_height_of naming)) p

-- The text of a picture ends with a line feed.
abbrev pub svg_text : Naming → Picture → List ℕ
svg_text naming p = node_text (picture_node naming p) ++ 10 ∷ []

-- what can be drawn
pub record IsDrawable (p : Picture) : Type 0 where
  pub columns : p.columns ≤ 20000
  pub lanes : length p.lanes.items ≤ 200
  pub strips : length p.strips.items ≤ 200
  pub cycles : length p.cycles.items ≤ 200
