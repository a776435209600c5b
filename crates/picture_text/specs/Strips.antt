-- Who owns the objects: a strip for each object, and a bar in the lane of each owner.
use Rattle.std.specs.Prelude.{ℕ, zero, suc, ◌+◌, ◌-◌, ◌*◌, ◌/◌, ◌%◌, ◌++◌, List, [], ◌∷◌}
use Rattle.std.specs.Prelude.{Option, None, Some}
use Rattle.std.specs.Prelude.{codes, decimal, length}
use Rattle.std.specs.Prelude.{min, slice_get, nat_lt, nat_le, if◌then◌else◌}
use Rattle.lock_word.specs.declared.ObjectId.{ObjectId}
use Rattle.lock_word.specs.declared.ThreadId.{ThreadId}
use Rattle.lock_word.specs.declared.Word.{Word}
use Rattle.lock_word.specs.Names.{word_text}
use Rattle.pictures.specs.declared.picture.Lane.{Lane}
use Rattle.pictures.specs.declared.picture.Strip.{Strip}
use Rattle.pictures.specs.declared.picture.StripSpan.{StripSpan}
use Rattle.picture_text.specs.declared.layout.Layout.{Layout}
use Rattle.picture_text.specs.declared.layout.Stretch.{Stretch}
use Rattle.picture_text.specs.declared.naming.Naming.{Naming}
use Rattle.picture_text.specs.Nodes.{Node, Words, Figure, Nothing, Then, in_turn}
use Rattle.picture_text.specs.Pieces.{bar, group, label, line, title}
use Rattle.picture_text.specs.Labels.{cut_label, room_in}
use Rattle.picture_text.specs.Layout.{lane_top, strip_top, width_of, x_at}
use Rattle.picture_text.specs.Naming.{object_node, object_words, thread_node, thread_words}
use Rattle.picture_text.specs.Positions.{position_of}
use Rattle.picture_text.specs.Spans.{columns_node}

-- there are eight patterns
abbrev pub pattern_of : ℕ → ℕ
pattern_of n = n % 8

unfoldable pub owns_title : Naming → Layout → ObjectId → ThreadId → ℕ → Stretch → Node
owns_title naming l o t count s = title (in_turn (
    thread_node naming t ∷ Words (codes " owns ") ∷ object_node naming o ∷ Words (codes " x")
    ∷ Figure count ∷ columns_node l s ∷ []))

-- how many times an object is locked, where there is room for it
unfoldable pub count_node : ℕ → ℕ → ℕ → ℕ → Node
count_node x y width count = if nat_lt width 20 then Nothing else label (codes "count") x y (Figure count)

-- a bar in the lane at a position, in the row of the strip with a number
unfoldable pub bar_node : Naming → Layout → ℕ → ObjectId → ThreadId → ℕ → Stretch → ℕ → Node
bar_node naming l n o t count s k = in_turn (
    bar (pattern_of n) (x_at l s.from) (lane_top l k + 40 + 8 * n) (width_of l s) 7 (owns_title naming l o t count s)
    ∷ count_node (x_at l s.from + 2) (lane_top l k + 46 + 8 * n) (width_of l s) count ∷ [])

-- nothing for a thread that has no lane
unfoldable pub bar_where : Naming → Layout → ℕ → ObjectId → ThreadId → ℕ → Stretch → Option ℕ
    → Node
bar_where naming l n o t count s None = Nothing
bar_where naming l n o t count s (Some k) = bar_node naming l n o t count s k

-- ---- strips

-- the owner, and how many times it has locked the object
abbrev pub owner_words : Naming → ThreadId → ℕ → List ℕ
owner_words naming t count = thread_words naming t ++ (codes " x" ++ decimal count)

unfoldable pub owned_node : Naming → Layout → ℕ → ObjectId → ThreadId → ℕ → Stretch → Node
owned_node naming l n o t count s = in_turn (
    bar (pattern_of n) (x_at l s.from) (strip_top l n) (width_of l s) 8 (owns_title naming l o t count s)
    ∷ cut_label (codes "label") (x_at l s.from + 2) (strip_top l n + 18) (room_in (width_of l s))
    (owner_words naming t count) ∷ [])

unfoldable pub free_title : Naming → Layout → ObjectId → Stretch → Node
free_title naming l o s =
    title (in_turn (object_node naming o ∷ Words (codes " is free") ∷ columns_node l s ∷ []))

unfoldable pub free_node : Naming → Layout → ℕ → ObjectId → Stretch → Node
free_node naming l n o s = in_turn (
    line (codes "free") (x_at l s.from) (strip_top l n + 4) (x_at l s.to) (strip_top l n + 4) (free_title naming l o s)
    ∷ cut_label (codes "label") (x_at l s.from + 2) (strip_top l n + 18) (room_in (width_of l s)) (codes "free") ∷ [])

-- a strip's span, and the bar of the owner if there is one
unfoldable pub held_node : Naming → Layout → List Lane → ℕ → ObjectId → Option ThreadId → ℕ
    → Stretch → Node
held_node naming l lanes n o None count s = free_node naming l n o s
held_node naming l lanes n o (Some t) count s =
    Then (owned_node naming l n o t count s) (bar_where naming l n o t count s (position_of lanes t))

-- what a header word shows, whatever its split
abbrev pub kind_words : ℕ → List ℕ
kind_words bits =
    if nat_le 0x8000_0000 bits then codes " fat " ++ decimal ((bits - 0x8000_0000) / 256)
    else (if nat_lt bits 256 then codes " free" else codes " thin")

abbrev pub word_words : Word → List ℕ
word_words w = word_text w.0 ++ kind_words w.0

unfoldable pub word_title : Naming → Layout → ObjectId → Word → Stretch → Node
word_title naming l o w s = title (in_turn (
    object_node naming o ∷ Words (codes " has word ") ∷ Words (word_words w) ∷ columns_node l s ∷ []))

-- a header word, below the owner
unfoldable pub word_node : Naming → Layout → ℕ → ObjectId → Word → Stretch → Node
word_node naming l n o w s = group (codes "header") (in_turn (
    word_title naming l o w s
    ∷ cut_label (codes "word") (x_at l s.from + 2) (strip_top l n + 30) (room_in (width_of l s)) (word_words w)
    ∷ []))

abbrev pub word_where : Naming → Layout → ℕ → ObjectId → Option Word → Stretch → Node
word_where naming l n o None s = Nothing
word_where naming l n o (Some w) s = word_node naming l n o w s

unfoldable pub strip_span : Naming → Layout → List Lane → ℕ → ObjectId → StripSpan → Stretch → Node
strip_span naming l lanes n o span s =
    Then (held_node naming l lanes n o span.held.owner span.held.count s) (word_where naming l n o span.word s)

-- where a span ends that begins there
unfoldable pub strip_end : Layout → ℕ → Option StripSpan → ℕ
strip_end l from None = from
strip_end l from (Some span) = min (from + span.columns) l.columns

-- where the span with a number begins
abbrev pub strip_begin : Layout → List StripSpan → ℕ → ℕ
strip_begin l spans zero = 0
strip_begin l spans (suc k) = strip_end l (strip_begin l spans k) (slice_get spans k)

unfoldable pub strip_from : Naming → Layout → List Lane → ℕ → ObjectId → ℕ → Option StripSpan → Node
strip_from naming l lanes n o from None = Nothing
strip_from naming l lanes n o from (Some span) =
    strip_span naming l lanes n o span (record { from = from; to = min (from + span.columns) l.columns })

-- the first spans of a strip
abbrev pub strip_below : Naming → Layout → List Lane → ℕ → ObjectId → List StripSpan → ℕ → Node
strip_below naming l lanes n o spans zero = Nothing
strip_below naming l lanes n o spans (suc k) =
    Then (strip_below naming l lanes n o spans k)
    (strip_from naming l lanes n o (strip_begin l spans k) (slice_get spans k))

-- on the left a sample of the pattern and the name
unfoldable pub legend_node : Naming → Layout → ℕ → ObjectId → Node
legend_node naming l n o = in_turn (
    bar (pattern_of n) 4 (strip_top l n) 16 8 (title (object_node naming o))
    ∷ cut_label (codes "name") 24 (strip_top l n + 8) 14 (object_words naming o) ∷ [])

unfoldable pub strip_node : Naming → Layout → List Lane → ℕ → Strip → Node
strip_node naming l lanes n strip = group (codes "strip") (in_turn (
    legend_node naming l n strip.object
    ∷ strip_below naming l lanes n strip.object strip.spans.items (length strip.spans.items) ∷ []))

abbrev pub strip_in : Naming → Layout → List Lane → ℕ → Option Strip → Node
strip_in naming l lanes n None = Nothing
strip_in naming l lanes n (Some strip) = strip_node naming l lanes n strip

unfoldable pub strip_at : Naming → Layout → List Lane → List Strip → ℕ → Node
strip_at naming l lanes strips n = strip_in naming l lanes n (slice_get strips n)

-- the first strips
abbrev pub strips_below : Naming → Layout → List Lane → List Strip → ℕ → Node
strips_below naming l lanes strips zero = Nothing
strips_below naming l lanes strips (suc n) =
    Then (strips_below naming l lanes strips n) (strip_at naming l lanes strips n)
