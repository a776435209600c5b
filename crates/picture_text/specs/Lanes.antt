-- The lanes of threads.
use Rattle.std.specs.Prelude.{ℕ, zero, suc, ◌+◌, ◌*◌, List, [], ◌∷◌, Option, None, Some, length, codes, slice_get}
use Rattle.pictures.specs.declared.picture.Lane.{Lane}
use Rattle.picture_text.specs.declared.layout.Layout.{Layout}
use Rattle.picture_text.specs.declared.naming.Naming.{Naming}
use Rattle.picture_text.specs.Nodes.{Node, Nothing, Then, in_turn}
use Rattle.picture_text.specs.Pieces.{group}
use Rattle.picture_text.specs.Labels.{cut_label}
use Rattle.picture_text.specs.Layout.{lane_top}
use Rattle.picture_text.specs.Marks.{calls_below, replies_below}
use Rattle.picture_text.specs.Naming.{thread_words}
use Rattle.picture_text.specs.Spans.{spans_below}

-- the name on the left, and then what the thread does, its calls above it and its replies below it
unfoldable pub lane_node : Naming → Layout → ℕ → Lane → Node
lane_node naming l top lane = group (codes "lane") (in_turn (
    cut_label (codes "name") 4 (top + 27) 17 (thread_words naming lane.thread)
    ∷ spans_below naming l lane.thread top lane.spans.items (length lane.spans.items)
    ∷ calls_below naming l lane.thread top lane.calls.items (length lane.calls.items)
    ∷ replies_below naming l lane.thread (top + 40 + 8 * l.strips) lane.replies.items (length lane.replies.items)
    ∷ []))

abbrev pub lane_in : Naming → Layout → ℕ → Option Lane → Node
lane_in naming l top None = Nothing
lane_in naming l top (Some lane) = lane_node naming l top lane

-- the lane at a position
unfoldable pub lane_at : Naming → Layout → List Lane → ℕ → Node
lane_at naming l lanes n = lane_in naming l (lane_top l n) (slice_get lanes n)

-- the first lanes
abbrev pub lanes_below : Naming → Layout → List Lane → ℕ → Node
lanes_below naming l lanes zero = Nothing
lanes_below naming l lanes (suc n) = Then (lanes_below naming l lanes n) (lane_at naming l lanes n)
