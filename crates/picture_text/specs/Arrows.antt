-- The moves that lead from one thread to another, and the cycles of owners.
use Rattle.std.specs.Prelude.{ℕ, zero, suc, ◌+◌, List, [], ◌∷◌, Option, None, Some, codes}
use Rattle.std.specs.Prelude.{slice_get, nat_lt, if◌then◌else◌}
use Rattle.pictures.specs.declared.picture.Arrow.{Arrow}
use Rattle.pictures.specs.declared.picture.ArrowKind.{ArrowKind}
use Rattle.pictures.specs.declared.picture.ArrowKind.TheVariants as kind
use Rattle.pictures.specs.declared.picture.Lane.{Lane}
use Rattle.picture_text.specs.declared.layout.Layout.{Layout}
use Rattle.picture_text.specs.declared.naming.Naming.{Naming}
use Rattle.picture_text.specs.Nodes.{Node, Words, Figure, Nothing, Then, in_turn}
use Rattle.picture_text.specs.Pieces.{line, title}
use Rattle.picture_text.specs.Layout.{lane_top, middle_at}
use Rattle.picture_text.specs.Naming.{thread_node}
use Rattle.picture_text.specs.Positions.{position_of}

abbrev pub arrow_look : ArrowKind → List ℕ
arrow_look kind.Notify = codes "notify"
arrow_look kind.Interrupt = codes "interrupt"
arrow_look kind.HandOver = codes "handover"

abbrev pub arrow_words : ArrowKind → List ℕ
arrow_words kind.Notify = codes " wakes "
arrow_words kind.Interrupt = codes " interrupts "
arrow_words kind.HandOver = codes " hands over to "

unfoldable pub arrow_title : Naming → Layout → Arrow → Node
arrow_title naming l arrow = title (in_turn (
    thread_node naming arrow.from ∷ Words (arrow_words arrow.kind) ∷ thread_node naming arrow.to
    ∷ Words (codes ", column ") ∷ Figure (l.first + arrow.from_column)
    ∷ Words (codes " to ") ∷ Figure (l.first + arrow.to_column) ∷ []))

-- An arrow leaves the box of a thread at the edge that is nearer to the other lane, and ends at the nearer edge there.
abbrev pub leaves_at : Layout → ℕ → ℕ → ℕ
leaves_at l a b = if nat_lt a b then lane_top l a + 32 else lane_top l a + 14

abbrev pub ends_at : Layout → ℕ → ℕ → ℕ
ends_at l a b = if nat_lt b a then lane_top l b + 32 else lane_top l b + 14

unfoldable pub arrow_node : Naming → Layout → Arrow → ℕ → ℕ → Node
arrow_node naming l arrow a b =
    line (arrow_look arrow.kind) (middle_at l arrow.from_column) (leaves_at l a b)
    (middle_at l arrow.to_column) (ends_at l a b)
    (arrow_title naming l arrow)

-- nothing where one of the two has no lane
unfoldable pub arrow_between : Naming → Layout → Arrow → Option ℕ → Option ℕ → Node
arrow_between naming l arrow None b = Nothing
arrow_between naming l arrow (Some a) None = Nothing
arrow_between naming l arrow (Some a) (Some b) = arrow_node naming l arrow a b

unfoldable pub arrow_in : Naming → Layout → List Lane → Option Arrow → Node
arrow_in naming l lanes None = Nothing
arrow_in naming l lanes (Some arrow) =
    arrow_between naming l arrow (position_of lanes arrow.from) (position_of lanes arrow.to)

-- the first arrows
abbrev pub arrows_below : Naming → Layout → List Lane → List Arrow → ℕ → Node
arrows_below naming l lanes arrows zero = Nothing
arrows_below naming l lanes arrows (suc n) =
    Then (arrows_below naming l lanes arrows n) (arrow_in naming l lanes (slice_get arrows n))
