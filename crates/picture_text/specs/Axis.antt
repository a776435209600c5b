-- The numbers of columns and the moments, above the lanes; the cycles of owners, below the strips.
use Rattle.std.specs.Prelude.{ℕ, zero, suc, ◌+◌, ◌-◌, ◌*◌, ◌%◌, ◌==◌, ◌++◌, List, [], ◌∷◌, Option, None, Some}
use Rattle.std.specs.Prelude.{codes, decimal, length}
use Rattle.std.specs.Prelude.{slice_get, nat_le, if◌then◌else◌}
use Rattle.std.specs.Prelude.{Vec}
use Rattle.std.specs.declared.alloc.Global.{Global}
use Rattle.lock_word.specs.declared.ThreadId.{ThreadId}
use Rattle.pictures.specs.declared.picture.Lane.{Lane}
use Rattle.pictures.specs.declared.picture.MomentMark.{MomentMark}
use Rattle.picture_text.specs.declared.layout.Layout.{Layout}
use Rattle.picture_text.specs.declared.naming.Naming.{Naming}
use Rattle.picture_text.specs.Nodes.{Node, Words, Figure, Nothing, Then, in_turn}
use Rattle.picture_text.specs.Pieces.{box, group, label, line, tick_node, title}
use Rattle.picture_text.specs.Labels.{cut_label, room_in}
use Rattle.picture_text.specs.Layout.{lane_top, middle_at, right_of, strip_top, x_at}
use Rattle.picture_text.specs.Naming.{thread_node}
use Rattle.picture_text.specs.Positions.{position_of}

-- how many columns lie between two numbers, so that they have at least 48 units each
abbrev pub step_of : ℕ → ℕ
step_of unit =
    if nat_le 48 unit then 1
    else (if nat_le 24 unit then 2 else (if nat_le 10 unit then 5 else (if nat_le 5 unit then 10 else 25)))

-- a line through all lanes, and the number of the column
unfoldable pub number_node : Layout → ℕ → Node
number_node l n = in_turn (
    line (codes "grid") (middle_at l n) 20 (middle_at l n) (lane_top l l.lanes) Nothing
    ∷ label (codes "number") (middle_at l n) 14 (Figure (l.first + n)) ∷ [])

unfoldable pub number_at : Layout → ℕ → Node
number_at l n = if (l.first + n) % step_of l.unit == 0 then number_node l n else Nothing

-- the numbers of the first columns
abbrev pub numbers_below : Layout → ℕ → Node
numbers_below l zero = Nothing
numbers_below l (suc n) = Then (numbers_below l n) (number_at l n)

-- ---- moments

abbrev pub moment_words : MomentMark → List ℕ
moment_words mark = decimal mark.now ++ codes " ns"

abbrev pub moment_limit : Layout → Option MomentMark → ℕ
moment_limit l None = right_of l
moment_limit l (Some mark) = x_at l mark.column

unfoldable pub moment_node : Layout → ℕ → MomentMark → Node
moment_node l limit mark = group (codes "moment") (in_turn (
    title (Words (moment_words mark))
    ∷ tick_node (x_at l mark.column) 24 (x_at l mark.column) 38
    ∷ cut_label (codes "label") (x_at l mark.column + 2) 34 (room_in (limit - x_at l mark.column))
    (moment_words mark) ∷ []))

abbrev pub moment_in : Layout → ℕ → Option MomentMark → Node
moment_in l limit None = Nothing
moment_in l limit (Some mark) = moment_node l limit mark

unfoldable pub moment_at : Layout → List MomentMark → ℕ → Node
moment_at l moments n = moment_in l (moment_limit l (slice_get moments (n + 1))) (slice_get moments n)

-- the first moments
abbrev pub moments_below : Layout → List MomentMark → ℕ → Node
moments_below l moments zero = Nothing
moments_below l moments (suc n) = Then (moments_below l moments n) (moment_at l moments n)

-- ---- cycles

unfoldable pub member_in : Naming → Option ThreadId → Node
member_in naming None = Nothing
member_in naming (Some t) = Then (Words (codes " ")) (thread_node naming t)

-- the first threads of a cycle, each behind a space
abbrev pub members_below : Naming → List ThreadId → ℕ → Node
members_below naming cycle zero = Nothing
members_below naming cycle (suc n) = Then (members_below naming cycle n) (member_in naming (slice_get cycle n))

unfoldable pub cycle_node : Naming → ℕ → List ThreadId → Node
cycle_node naming y cycle =
    label (codes "cycle") 4 y (Then (Words (codes "cycle")) (members_below naming cycle (length cycle)))

-- a red frame in the last column of the lane at a position
unfoldable pub stuck_node : Layout → ℕ → Node
stuck_node l k = box (codes "stuck") (x_at l (l.columns - 1)) (lane_top l k + 12) l.unit 22 Nothing

unfoldable pub stuck_where : Layout → Option ℕ → Node
stuck_where l None = Nothing
stuck_where l (Some k) = stuck_node l k

unfoldable pub stuck_in : Layout → List Lane → Option ThreadId → Node
stuck_in l lanes None = Nothing
stuck_in l lanes (Some t) = stuck_where l (position_of lanes t)

-- the frames of the first threads of a cycle
abbrev pub stuck_below : Layout → List Lane → List ThreadId → ℕ → Node
stuck_below l lanes cycle zero = Nothing
stuck_below l lanes cycle (suc n) = Then (stuck_below l lanes cycle n) (stuck_in l lanes (slice_get cycle n))

unfoldable pub cycle_parts : Naming → Layout → List Lane → ℕ → List ThreadId → Node
cycle_parts naming l lanes n cycle =
    Then (cycle_node naming (strip_top l l.strips + 14 + 14 * n) cycle) (stuck_below l lanes cycle (length cycle))

unfoldable pub cycle_at : Naming → Layout → List Lane → ℕ → Option (Vec ThreadId Global) → Node
cycle_at naming l lanes n None = Nothing
cycle_at naming l lanes n (Some cycle) = cycle_parts naming l lanes n cycle.items

-- the first cycles
abbrev pub cycles_below : Naming → Layout → List Lane → List (Vec ThreadId Global) → ℕ → Node
cycles_below naming l lanes cycles zero = Nothing
cycles_below naming l lanes cycles (suc n) =
    Then (cycles_below naming l lanes cycles n) (cycle_at naming l lanes n (slice_get cycles n))
