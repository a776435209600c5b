-- Where things lie in a picture, in units from its left and top edges.
use Rattle.std.specs.Prelude.{ℕ, ◌+◌, ◌*◌, ◌/◌, ◌≤◌, ◌<◌, ◌^◌, ◌-◌, nat_le, if◌then◌else◌, min, max, length}
use Rattle.pictures.specs.declared.picture.Picture.{Picture}
use Rattle.picture_text.specs.declared.layout.Layout.{Layout}
use Rattle.picture_text.specs.declared.layout.Stretch.{Stretch}

-- the width of a column, where there are so many: at most 52, and so that they need about 1,080 units, with at
-- least 26 for each up to 400, and then so that they need about 10,400, with at least 2 for each
abbrev pub unit_of : ℕ → ℕ
unit_of n =
    if nat_le n 20 then 52
    else (if nat_le n 400 then max 26 (1080 / n) else max 2 (10400 / n))

abbrev pub layout_of : Picture → ℕ → Layout
layout_of p strip_height = record {
  first = p.first;
  columns = p.columns;
  unit = unit_of p.columns;
  lanes = length p.lanes.items;
  strips = length p.strips.items;
  strip_height = strip_height;
}

-- what the caller sees to
pub record Fits (l : Layout) : Type 0 where
  pub first : l.first < 2 ^ 32
  pub columns : l.columns ≤ 20000
  pub unit : l.unit ≤ 52
  pub lanes : l.lanes ≤ 200
  pub strips : l.strips ≤ 200
  pub strip_height : l.strip_height ≤ 40

-- the left edge of a column, and of what is behind the last one; and the middle of a column
abbrev pub x_at : Layout → ℕ → ℕ
x_at l column = 110 + min column l.columns * l.unit

abbrev pub middle_at : Layout → ℕ → ℕ
middle_at l column = x_at l column + l.unit / 2

-- how wide some columns are
abbrev pub width_of : Layout → Stretch → ℕ
width_of l s = (s.to - s.from) * l.unit

-- the right edge of the picture: a label of the last column has room behind it
abbrev pub right_of : Layout → ℕ
right_of l = x_at l l.columns + 90

-- A lane has a row of calls, one of what the thread is doing, one for each strip, and one of replies.
abbrev pub lane_height : Layout → ℕ
lane_height l = 64 + 8 * l.strips

abbrev pub lane_top : Layout → ℕ → ℕ
lane_top l k = 48 + k * lane_height l

abbrev pub strip_top : Layout → ℕ → ℕ
strip_top l s = lane_top l l.lanes + 8 + s * l.strip_height

abbrev pub bottom_of : Layout → ℕ → ℕ
bottom_of l cycles = strip_top l l.strips + 8 + 14 * cycles
